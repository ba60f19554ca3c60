-- An equation in the leaf.
use Rattle.std.proofs.Common.{◌≡◌, ℕ, ◌+◌, ◌-◌, ◌<◌, ◌≤◌, length, false, ◌&&◌, refl, sym, ap, ◌∙◌, Option, Some, None, arith}
use Rattle.std.specs.List.{slice_get}
use Rattle.std.specs.Option.{is_none}
use Rattle.law_lists.proofs.Numbers.{nat_lt-true, nat_lt-false}
use Rattle.smv_core.specs.declared.flat.FlatSplit.{FlatSplit}
use Rattle.law_splits.specs.Variables.{Occurrence}
use Rattle.law_splits.specs.Leaves.{stands_for, number_in}
use Rattle.law_splits.specs.SplitFaults.{is_stray}
use Rattle.law_splits.specs.SplitLaws.{EquationsKeepOutcomes}
use Rattle.law_splits.proofs.RenamedOutcomes.{same}

-- a variable bound around a split that its brackets name
abbrev pub IsFine : FlatSplit → ℕ → Type 0
IsFine split v = v < length split.bound → (k : ℕ) × (stands_for split v ≡ Some k)

pub found : (o : Option ℕ) → is_none o ≡ false → (k : ℕ) × (o ≡ Some k)
found None e = absurd (cc)
found (Some k) e = (k, refl)

pub fine : (split : FlatSplit) (x : Occurrence) → is_stray split x ≡ false → IsFine split x.var
fine split x e l = found (stands_for split x.var) (sym (ap (λ b. b && is_none (stands_for split x.var)) (nat_lt-true x.var (length split.bound) l)) ∙ e)

pub number_inner : (split : FlatSplit) (count v : ℕ) → length split.bound ≤ v → number_in split count v ≡ count + (v - length split.bound)
number_inner split count v l = rw (nat_lt-false v (length split.bound) l) refl

pub number_old : (split : FlatSplit) (count v k : ℕ) → v < length split.bound → stands_for split v ≡ Some k → number_in split count v ≡ k
number_old split count v k l e = rw (nat_lt-true v (length split.bound) l) (rw e refl)

pub equations_keep_outcomes : EquationsKeepOutcomes
equations_keep_outcomes n s split e numbered none own values stand =
    let count = length values in
    let width = length split.bound in
    same n s width count (number_in split count) (number_inner split count) (IsFine split) e width own values (omega arith) numbered (λ x h. fine split x (none x h)) (record {
      long = stand.0;
      other_long = let i = number_inner split count width (omega arith) in omega (arith, i);
      alike = λ v l f. let k = f l in ap (slice_get values) (number_old split count v k.0 l k.1) ∙ stand.1 v k.0 l k.1;
    })
