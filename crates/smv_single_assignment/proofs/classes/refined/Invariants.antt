use Rattle.std.proofs.Common.{◌≡◌, ◌<◌, ℕ, length, get_or}
use Rattle.std.specs.Prelude.{Option, Some}
use Rattle.smv_single_assignment.specs.Classes.{kept_at, number_at}
use Rattle.smv_single_assignment.proofs.classes.refined.Given as goal

abbrev pub invariant-loop-place : goal.invariant-loop-place
invariant-loop-place l = record {
  long : length l.refined.items ≡ l.place;
  below : (j : ℕ) → j < l.place → get_or l.refined.items j 0 < length l.classes;
  known : (j : ℕ) → j < l.place → number_at l.numbers (get_or l.classes j 0, kept_at l.classes l.values l.marks j) ≡ Some (get_or l.refined.items j 0);
  bounded : (other : ℕ × Option ℕ) (k : ℕ) → number_at l.numbers other ≡ Some k → k < length l.classes;
}
