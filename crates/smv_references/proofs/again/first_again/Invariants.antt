use Rattle.std.proofs.Common.{◌≡◌, [], drop}
use Rattle.std.specs.List.{list_any}
use Rattle.smv_mentions.specs.Scopes.{first_of_places}
use Rattle.smv_first_fault.specs.Firsts.{least}
use Rattle.smv_references.specs.Again.{Key, same_key, again, is_noted}
use Rattle.smv_references.proofs.AgainLaws.{keys_to}
use Rattle.smv_references.proofs.again.first_again.Given as goal

abbrev pub invariant-loop-at : goal.invariant-loop-at
invariant-loop-at l = record {
  places : first_of_places l.found (least (again same_key (keys_to l.at-index l.keys) (drop l.at-index l.keys))) ≡ least (again same_key [] l.keys);
  noted : (k : Key) → is_noted l.seen k ≡ list_any (λ key. same_key key k) (keys_to l.at-index l.keys);
}
