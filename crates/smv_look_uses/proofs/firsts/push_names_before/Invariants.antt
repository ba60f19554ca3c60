use Rattle.std.proofs.Common.{◌≡◌, ◌++◌, [], drop, map}
use Rattle.std.specs.Str.{bytes_eq}
use Rattle.smv_references.specs.Again.{placed}
use Rattle.smv_look_uses.specs.Chosen.{same_before}
use Rattle.smv_look_uses.proofs.firsts.push_names_before.Given as goal

abbrev pub invariant-loop-name : goal.invariant-loop-name
invariant-loop-name l =
    l.out.items ++ same_before l.at bytes_eq (map placed l.before.items) (map placed (drop l.name-index l.names)) ≡ l.initial.out.items ++ same_before l.at bytes_eq [] (map placed l.names)
