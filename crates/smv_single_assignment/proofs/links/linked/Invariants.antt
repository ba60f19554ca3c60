use Rattle.std.proofs.Common.{◌≡◌, ◌<◌, ℕ, length, get_or, map}
use Rattle.smv_single_assignment.specs.Held.{standing_of}
use Rattle.smv_single_assignment.specs.Links.{IsBehind}
use Rattle.smv_single_assignment.proofs.links.linked.Given as goal

abbrev pub invariant-loop-place : goal.invariant-loop-place
invariant-loop-place l = record {
  ends_all : length l.ends.items ≡ l.count;
  links_all : length l.links.items ≡ l.place;
  behind : (class : ℕ) → class < l.count → IsBehind (map standing_of l.all) l.classes l.kind class l.place (get_or l.ends.items class 0);
  linked : (j : ℕ) → j < l.place → IsBehind (map standing_of l.all) l.classes l.kind (get_or l.classes j 0) j (get_or l.links.items j 0);
}
