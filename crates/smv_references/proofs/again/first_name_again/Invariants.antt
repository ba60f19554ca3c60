use Rattle.std.proofs.Common.{◌≡◌, [], drop, map}
use Rattle.std.specs.Str.{bytes_eq}
use Rattle.smv_mentions.specs.Scopes.{first_of_places}
use Rattle.smv_first_fault.specs.Firsts.{least}
use Rattle.smv_references.specs.Again.{again, placed}
use Rattle.smv_references.proofs.again.first_name_again.Given as goal

abbrev pub invariant-loop-at : goal.invariant-loop-at
invariant-loop-at l = first_of_places l.found (least (again bytes_eq l.seen (map placed (drop l.at-index l.names)))) ≡ least (again bytes_eq [] (map placed l.names))
