use Rattle.std.proofs.Common.{◌≡◌, ◌++◌, [], drop}
use Rattle.smv_references.specs.Again.{same_key}
use Rattle.smv_look_uses.specs.Chosen.{same_before}
use Rattle.smv_look_uses.proofs.firsts.push_before.Given as goal

abbrev pub invariant-loop-key : goal.invariant-loop-key
invariant-loop-key l = l.out.items ++ same_before l.at same_key l.before.items (drop l.key-index l.keys) ≡ l.initial.out.items ++ same_before l.at same_key [] l.keys
