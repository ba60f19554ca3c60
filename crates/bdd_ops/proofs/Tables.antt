-- Tables that are split at a variable.
use Rattle.std.proofs.Common.{◌≡◌, ℕ, ◌≤◌, ◌<◌, Bool, true, false, eqb, cond, ◌-◌, ◌≢◌, not, ◌||◌, Result, Ok, Err, IfOk, refl, sym, ◌∙◌, ap, arith}
use Rattle.std.proofs.lemmas.Bool.Decides.{nat_tests}
use Rattle.std.proofs.Math.Path.{fun_ext}
use Rattle.bdd_store.specs.Graph.{with_at}
use Rattle.bdd_ops.specs.Functions.{Function, some_at}
use Rattle.bdd_ops.specs.Memo.{changed}
use Rattle.bdd_store.proofs.Walks.{with_other}

with_own : (a : ℕ → Bool) (v w : ℕ) → with_at a v (a v) w ≡ a w
unfolding with_at
with_own a v w = by_test (eqb w v) refl
  where
    by_test : (t : Bool) → eqb w v ≡ t → cond (eqb w v) (a v) (a w) ≡ a w
    by_test true e = let same : w ≡ v = grind (arith, nat_tests) in rw e (ap a (sym same))
    by_test false e = rw e refl

with_own_all : (a : ℕ → Bool) (v : ℕ) → with_at a v (a v) ≡ a
with_own_all a v = λ i w. with_own a v w i

pub split_at : (T lo hi : (ℕ → Bool) → Bool) (v : ℕ) → ((a : ℕ → Bool) → lo a ≡ T (with_at a v false)) → ((a : ℕ → Bool) → hi a ≡ T (with_at a v true)) → (a : ℕ → Bool) → T a ≡ cond (a v) (hi a) (lo a)
split_at T lo hi v is_lo is_hi a = by_bit (a v) refl
  where
    own : (x : Bool) → a v ≡ x → T a ≡ T (with_at a v x)
    own x e = ap T (sym (with_own_all a v)) ∙ ap (λ y. T (with_at a v y)) e

    by_bit : (x : Bool) → a v ≡ x → T a ≡ cond (a v) (hi a) (lo a)
    by_bit true e = rw e (own true e ∙ sym (is_hi a))
    by_bit false e = rw e (own false e ∙ sym (is_lo a))

pub if_ok_then : {X E : Type 0} → (r : Result X E) (P Q : X → Type 0) → ((x : X) → P x → Q x) → IfOk r P → IfOk r Q
if_ok_then (Ok x) P Q step p = step x p
if_ok_then (Err e) P Q step p = tt

pub if_ok_both : {X E : Type 0} → (r : Result X E) (P Q R : X → Type 0) → ((x : X) → P x → Q x → R x) → IfOk r P → IfOk r Q → IfOk r R
if_ok_both (Ok x) P Q R step p q = step x p q
if_ok_both (Err e) P Q R step p q = tt

-- a function of variables from k on does not depend on an earlier one
pub free_before : (T : (ℕ → Bool) → Bool) (k v : ℕ) (x : Bool) → ((a c : ℕ → Bool) → ((w : ℕ) → k ≤ w → a w ≡ c w) → T a ≡ T c) → v < k → (a : ℕ → Bool) → T a ≡ T (with_at a v x)
free_before T k v x from lt a = from a (with_at a v x) (λ w le. sym (with_other a v x w (omega (arith, le, lt))))

pub cond_or : (x : Bool) (f1 f0 g1 g0 : Bool) → cond x (f1 || g1) (f0 || g0) ≡ cond x f1 f0 || cond x g1 g0
cond_or true f1 f0 g1 g0 = refl
cond_or false f1 f0 g1 g0 = refl

pub or_same_both : (t s u : Bool) → t ≡ s → t ≡ u → t ≡ s || u
or_same_both true s u e f = ap (λ x. x || u) e
or_same_both false s u e f = f ∙ ap (λ x. x || u) e

flip_cond : (flip x s t : Bool) → cond x (cond flip (not s) s) (cond flip (not t) t) ≡ cond flip (not (cond x s t)) (cond x s t)
flip_cond flip true s t = refl
flip_cond flip false s t = refl

-- a change of both branches is that of the function
pub changed_cond : (back : ℕ) (flip : Bool) (F hi lo : Function) (v : ℕ) (a : ℕ → Bool) → ((c : ℕ → Bool) → F c ≡ cond (c v) (hi c) (lo c)) → cond (a (v - back)) (changed back flip hi a) (changed back flip lo a) ≡ changed back flip F a
changed_cond back flip F hi lo v a split =
    flip_cond flip (a (v - back)) (hi (λ w. a (w - back))) (lo (λ w. a (w - back))) ∙ sym (ap (λ y. cond flip (not y) y) (split (λ w. a (w - back))))

-- so is the quantification at another variable
pub some_cond : (w : ℕ) (F hi lo : Function) (v : ℕ) (a : ℕ → Bool) → v ≢ w → ((c : ℕ → Bool) → F c ≡ cond (c v) (hi c) (lo c)) → cond (a v) (some_at w hi a) (some_at w lo a) ≡ some_at w F a
some_cond w F hi lo v a ne split =
    let at : (x : Bool) → F (with_at a w x) ≡ cond (a v) (hi (with_at a w x)) (lo (with_at a w x)) = λ x.
    split (with_at a w x) ∙ ap (λ y. cond y (hi (with_at a w x)) (lo (with_at a w x))) (with_other a w x v ne) in
    cond_or (a v) (hi (with_at a w false)) (lo (with_at a w false)) (hi (with_at a w true)) (lo (with_at a w true))
    ∙ sym (ap (λ y. y || F (with_at a w true)) (at false) ∙ ap (λ y. cond (a v) (hi (with_at a w false)) (lo (with_at a w false)) || y) (at true))

-- a constant is its own quantification, and its change is a constant
pub some_constant : (w : ℕ) (F : Function) (x : Bool) → ((a : ℕ → Bool) → F a ≡ x) → (a : ℕ → Bool) → F a ≡ some_at w F a
some_constant w F x is a = or_same_both (F a) (F (with_at a w false)) (F (with_at a w true)) (is a ∙ sym (is (with_at a w false))) (is a ∙ sym (is (with_at a w true)))

pub flip_constant : (back : ℕ) (flip : Bool) (F : Function) (x : Bool) → ((a : ℕ → Bool) → F a ≡ x) → (a : ℕ → Bool) → cond flip (not x) x ≡ changed back flip F a
flip_constant back flip F x is a = ap (λ y. cond flip (not y) y) (sym (is (λ w. a (w - back))))

-- nothing before a variable is the variable itself
pub no_change : (a : ℕ → Bool) → (λ (v : ℕ). a (v - 0)) ≡ a
no_change a = fun_ext (λ v. let same : v - 0 ≡ v = omega arith in ap a same)
