use Rattle.std.proofs.Common.{◌≡◌, drop}
use Rattle.smv_ltl.specs.Changes.{changes_of}
use Rattle.smv_ltl.specs.Edits.{first_watched}
use Rattle.smv_ltl.proofs.edits.first_watched.Given as goal

abbrev pub invariant-loop-one : goal.invariant-loop-one
invariant-loop-one l = first_watched (changes_of (drop l.one-index l.changed)) ≡ first_watched (changes_of l.changed)
