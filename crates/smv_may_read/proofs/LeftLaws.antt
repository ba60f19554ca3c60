-- Left sides and references, index by index.
use Rattle.std.proofs.Common.{◌≡◌, ℕ, List, [], ◌∷◌, true, false, ◌&&◌, ◌||◌, nat_eq, refl}
use Rattle.smv_core.specs.Assignments.{Index}
use Rattle.smv_core.specs.declared.flat.Class.{Class}
use Rattle.smv_core.specs.declared.flat.Element.{Element}
use Rattle.smv_may_read.specs.Mentions.{may_lie, may_be_at, may_be_one}

pub at-nil : (qs : List Class) → may_be_at [] qs ≡ true
at-nil [] = refl
at-nil (q ∷ qs) = refl

pub at-none : (is : List Index) → may_be_at is [] ≡ true
at-none [] = refl
at-none (i ∷ is) = refl

pub at-cons : (i : Index) (is : List Index) (q : Class) (qs : List Class) → may_be_at (i ∷ is) (q ∷ qs) ≡ (may_lie i q && may_be_at is qs)
at-cons i is q qs = refl

pub ruleset equations = (at-nil, at-none, at-cons)

pub one-nil : (family : ℕ) (is : List Index) → may_be_one [] family is ≡ false
one-nil family is = refl

pub one-cons : (x : Element) (xs : List Element) (family : ℕ) (is : List Index) → may_be_one (x ∷ xs) family is ≡ ((nat_eq family x.family && may_be_at is x.indexes) || may_be_one xs family is)
one-cons x xs family is = refl

pub ruleset one_equations = (one-nil, one-cons)
