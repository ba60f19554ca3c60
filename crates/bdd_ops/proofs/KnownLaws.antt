-- What holds of the keys of a set, as it grows, and of functions that imply each other.
use Rattle.std.proofs.Common.{◌≡◌, ℕ, Bool, true, false, not, cond, [], refl, sym, ◌∙◌, ap, subst}
use Rattle.std.specs.List.{list_any}
use Rattle.std.specs.HashSet.{contains, Updates}
use Rattle.bdd_store.specs.Graph.{with_at}
use Rattle.bdd_ops.specs.Functions.{Function}
use Rattle.bdd_ops.specs.Memo.{Known}
use Rattle.bdd_ops.proofs.MemoLaws.{IsTest}
use Rattle.bdd_ops.proofs.Depends.{own}

module _ {K : Type 0} (same : K → K → Bool) (test : IsTest same) (P : K → Type 0) where
  abbrev All : Known K → Type 0
  All m = (q : K) → contains same m q ≡ true → P q

  pub all_put : (m n : Known K) (k : K) → Updates same m n k true → All m → P k → All n
  all_put m n k updates all here q e = by_test (same k q) refl (sym (updates.0 q) ∙ e)
    where
      by_test : (t : Bool) → same k q ≡ t → cond t true (contains same m q) ≡ true → P q
      by_test true is e = subst P (test.is k q is) here
      by_test false is e = all q e

  pub all_same : (m n : Known K) → n.keys ≡ m.keys → All m → All n
  all_same m n keys all q e = all q (sym (ap (list_any (same q)) keys) ∙ e)

  pub all_empty : (m : Known K) → m.keys ≡ [] → All m
  all_empty m keys q e = absurd (let none : false ≡ true = sym (ap (list_any (same q)) keys) ∙ e in cc)

-- f is 0 wherever g is
abbrev Imp : Function → Function → Type 0
Imp f g = (a : ℕ → Bool) → f a ≡ true → g a ≡ true

pub imp_branch : (w : ℕ) (x : Bool) (F G f g : Function) → ((a : ℕ → Bool) → f a ≡ F (with_at a w x)) → ((a : ℕ → Bool) → g a ≡ G (with_at a w x)) → Imp F G → Imp f g
imp_branch w x F G f g is_f is_g imp a e = is_g a ∙ imp (with_at a w x) (sym (is_f a) ∙ e)

pub imp_both : (w : ℕ) (F G lo hi low high : Function) → ((a : ℕ → Bool) → lo a ≡ F (with_at a w false)) → ((a : ℕ → Bool) → hi a ≡ F (with_at a w true))
    → ((a : ℕ → Bool) → low a ≡ G (with_at a w false)) → ((a : ℕ → Bool) → high a ≡ G (with_at a w true)) → Imp lo low → Imp hi high → Imp F G
imp_both w F G lo hi low high is_lo is_hi is_low is_high by_low by_high a e = by_bit (a w) refl
  where
    by_bit : (x : Bool) → a w ≡ x → G a ≡ true
    by_bit true is = own G a w true is ∙ sym (is_high a) ∙ by_high a (is_hi a ∙ sym (own F a w true is) ∙ e)
    by_bit false is = own G a w false is ∙ sym (is_low a) ∙ by_low a (is_lo a ∙ sym (own F a w false is) ∙ e)

-- what implies a function that is 0 everywhere is 0 everywhere
pub imp_never : (F G : Function) → ((a : ℕ → Bool) → G a ≡ false) → Imp F G → (a : ℕ → Bool) → F a ≡ false
imp_never F G never imp a = by_value (F a) refl
  where
    by_value : (x : Bool) → F a ≡ x → x ≡ false
    by_value true e = sym (imp a e) ∙ never a
    by_value false e = refl

-- a function that is not 0 everywhere implies a constant exactly where that is 1
pub imp_const : (F G : Function) (x : Bool) → ((a : ℕ → Bool) → G a ≡ x) → (((a : ℕ → Bool) → F a ≡ false) → ⊥) → (x ≡ true → Imp F G) × (Imp F G → x ≡ true)
imp_const F G x is some = (λ e a f. is a ∙ e, by_value x is)
  where
    by_value : (x : Bool) → ((a : ℕ → Bool) → G a ≡ x) → Imp F G → x ≡ true
    by_value true is imp = refl
    by_value false is imp = absurd (some (imp_never F G is imp))

-- a function with this value everywhere has another everywhere exactly where the two are one
pub always_const : (F : Function) (x : Bool) → ((a : ℕ → Bool) → F a ≡ x) → (x ≡ true → (a : ℕ → Bool) → F a ≡ true) × (((a : ℕ → Bool) → F a ≡ true) → x ≡ true)
always_const F x is = (λ e a. is a ∙ e, λ all. sym (is (λ _. false)) ∙ all (λ _. false))

pub never_const : (F : Function) (x : Bool) → ((a : ℕ → Bool) → F a ≡ x) → (not x ≡ true → (a : ℕ → Bool) → F a ≡ false) × (((a : ℕ → Bool) → F a ≡ false) → not x ≡ true)
never_const F x is = (λ e a. is a ∙ is_false x e, λ all. ap not (sym (is (λ _. false)) ∙ all (λ _. false)))
  where
    is_false : (y : Bool) → not y ≡ true → y ≡ false
    is_false true e = sym e
    is_false false e = refl
