-- Which variables a function of finitely many depends on.
use Rattle.std.proofs.Common.{◌≡◌, ◌≢◌, ℕ, ◌+◌, ◌≤◌, Bool, true, false, not, ◌⊎◌, inl, inr, refl, sym, ◌∙◌, ap, arith}
use Rattle.std.proofs.Math.Path.{fun_ext}
use Rattle.std.proofs.lemmas.Bool.{cases_lt}
use Rattle.bdd_store.specs.Graph.{with_at}
use Rattle.bdd_store.specs.Beads.{truth_table, same_block}
use Rattle.bdd_store.proofs.Blocks.{same_block-refl, same_block-true}
use Rattle.bdd_store.proofs.Walks.{with_here, with_other}
use Rattle.bdd_store.proofs.Functions.{with_agree, with_own, tables_alike, Reads}
use Rattle.bdd_ops.specs.Functions.{Function, depends, FreeOf}

pub own : (f : Function) (a : ℕ → Bool) (k : ℕ) (x : Bool) → a k ≡ x → f a ≡ f (with_at a k x)
own f a k x e = ap f (fun_ext (with_own a k)) ∙ ap (λ y. f (with_at a k y)) e

with_reads : (n v : ℕ) (f : Function) (x : Bool) → Reads n 0 f → Reads n 0 (λ a. f (with_at a v x))
with_reads n v f x reads a c same = reads (with_at a v x) (with_at c v x) (λ w le lt. with_agree a c v x w (λ ne. same w le lt))

-- `depends` is true exactly where f is not free of v
pub not_depends : (n v : ℕ) (f : Function) → Reads n 0 f → depends n f v ≡ false → FreeOf v f
unfolding depends
not_depends n v f reads e =
    tables_alike n 0 (λ a. f (with_at a v false)) (λ a. f (with_at a v true)) (with_reads n v f false reads) (with_reads n v f true reads) (same_block-true _ _ (double _ e))
  where
    double : (x : Bool) → not x ≡ false → x ≡ true
    double true e = refl
    double false e = cc

pub free_not : (n v : ℕ) (f : Function) → FreeOf v f → depends n f v ≡ false
unfolding depends
free_not n v f free =
    let same : (λ (a : ℕ → Bool). f (with_at a v false)) ≡ (λ a. f (with_at a v true)) = λ i a. free a i in
    ap (λ g. not (same_block (truth_table n 0 (λ a. f (with_at a v false))) (truth_table n 0 g))) (sym same) ∙ ap not (same_block-refl _)

pub clash : {A : Type 0} (x : Bool) → x ≡ true → x ≡ false → A
clash x e f = absurd (let same : true ≡ false = sym e ∙ f in cc)

-- a constant depends on nothing
pub constant_not : (n v : ℕ) (f : Function) (x : Bool) → ((a : ℕ → Bool) → f a ≡ x) → depends n f v ≡ false
constant_not n v f x is = free_not n v f (λ a. is (with_at a v false) ∙ sym (is (with_at a v true)))

pub with_twice : (a : ℕ → Bool) (v : ℕ) (x y : Bool) → with_at (with_at a v y) v x ≡ with_at a v x
with_twice a v x y = fun_ext (λ u. with_agree (with_at a v y) a v x u (λ ne. with_other a v y u ne))

pub with_swap : (a : ℕ → Bool) (v w : ℕ) (x y : Bool) → v ≢ w → with_at (with_at a v x) w y ≡ with_at (with_at a w y) v x
with_swap a v w x y ne = fun_ext (λ u. elim (cases_same u w) [
  | inl is_w ↦ ap (with_at (with_at a v x) w y) is_w ∙ with_here (with_at a v x) w y ∙ sym (ap (with_at (with_at a w y) v x) is_w ∙ with_other (with_at a w y) v x w (λ e. ne (sym e)) ∙ with_here a w y)
  | inr not_w ↦ with_other (with_at a v x) w y u not_w ∙ with_agree a (with_at a w y) v x u (λ _. sym (with_other a w y u not_w))
])
  where
    cases_same : (u k : ℕ) → (u ≡ k) ⊎ (u ≢ k)
    cases_same u k = elim (cases_lt u k) [
      | inl lt ↦ inr (omega arith)
      | inr le ↦ elim (cases_lt k u) [ inl lt ↦ inr (omega arith) | inr is ↦ inl (omega arith) ]
    ]

-- the branches lo and hi of f at variable w
module _ (n w : ℕ) (f lo hi : Function) (reads : Reads n 0 f) (reads_lo : Reads n 0 lo) (reads_hi : Reads n 0 hi) (is_lo : (a : ℕ → Bool) → lo a ≡ f (with_at a w false)) (is_hi : (a : ℕ → Bool) → hi a ≡ f (with_at a w true)) where
  same_or_not : (v : ℕ) → (v ≡ w) ⊎ (v ≢ w)
  same_or_not v = elim (cases_lt v w) [
    | inl lt ↦ inr (omega arith)
    | inr le ↦ elim (cases_lt w v) [ inl lt ↦ inr (omega arith) | inr is ↦ inl (omega arith) ]
  ]

  branch_free : (v : ℕ) (x : Bool) (g : Function) → ((a : ℕ → Bool) → g a ≡ f (with_at a w x)) → FreeOf v f → FreeOf v g
  branch_free v x g is free a = elim (same_or_not v) [
    | inl e ↦ is (with_at a v false) ∙ ap f (twice v e false ∙ sym (twice v e true)) ∙ sym (is (with_at a v true))
    | inr ne ↦ is (with_at a v false) ∙ ap f (with_swap a v w false x ne) ∙ free (with_at a w x) ∙ ap f (sym (with_swap a v w true x ne)) ∙ sym (is (with_at a v true))
  ]
    where
      twice : (v : ℕ) → v ≡ w → (y : Bool) → with_at (with_at a v y) w x ≡ with_at a w x
      twice v e y = ap (λ u. with_at (with_at a u y) w x) e ∙ with_twice a w x y

  branch_depends : (v : ℕ) (x : Bool) (g : Function) → ((a : ℕ → Bool) → g a ≡ f (with_at a w x)) → depends n g v ≡ true → depends n f v ≡ true
  branch_depends v x g is dep = by_value (depends n f v) refl
    where
      by_value : (y : Bool) → depends n f v ≡ y → y ≡ true
      by_value true e = refl
      by_value false e = clash (depends n g v) dep (free_not n v g (branch_free v x g is (not_depends n v f reads e)))

  pub low_depends : (v : ℕ) → depends n lo v ≡ true → depends n f v ≡ true
  low_depends v = branch_depends v false lo is_lo

  pub high_depends : (v : ℕ) → depends n hi v ≡ true → depends n f v ≡ true
  high_depends v = branch_depends v true hi is_hi

  free_both : (v : ℕ) → v ≢ w → FreeOf v lo → FreeOf v hi → FreeOf v f
  free_both v ne free_lo free_hi a = by_bit (a w) refl
    where
      side : (x : Bool) (g : Function) → ((c : ℕ → Bool) → g c ≡ f (with_at c w x)) → FreeOf v g → a w ≡ x → f (with_at a v false) ≡ f (with_at a v true)
      side x g is free e =
          own f (with_at a v false) w x (with_other a v false w (λ s. ne (sym s)) ∙ e) ∙ sym (is (with_at a v false)) ∙ free a
          ∙ is (with_at a v true) ∙ sym (own f (with_at a v true) w x (with_other a v true w (λ s. ne (sym s)) ∙ e))

      by_bit : (x : Bool) → a w ≡ x → f (with_at a v false) ≡ f (with_at a v true)
      by_bit true e = side true hi is_hi free_hi e
      by_bit false e = side false lo is_lo free_lo e

  -- f depends on the variable of its node, and on what its branches depend on
  pub depends_cases : (v : ℕ) → depends n f v ≡ true → (v ≡ w) ⊎ (depends n lo v ≡ true) ⊎ (depends n hi v ≡ true)
  depends_cases v dep = elim (same_or_not v) [
    | inl e ↦ inl e
    | inr ne ↦ inr (by_values ne (depends n lo v) (depends n hi v) refl refl)
  ]
    where
      by_values : v ≢ w → (x y : Bool) → depends n lo v ≡ x → depends n hi v ≡ y → (depends n lo v ≡ true) ⊎ (depends n hi v ≡ true)
      by_values ne true y e g = inl e
      by_values ne false true e g = inr g
      by_values ne false false e g = clash (depends n f v) dep (free_not n v f (free_both v ne (not_depends n v lo reads_lo e) (not_depends n v hi reads_hi g)))

  pub own_depends : ((a c : ℕ → Bool) → ((v : ℕ) → w ≤ v → a v ≡ c v) → f a ≡ f c) → (((a c : ℕ → Bool) → ((v : ℕ) → w + 1 ≤ v → a v ≡ c v) → f a ≡ f c) → ⊥) → depends n f w ≡ true
  own_depends from least = by_value (depends n f w) refl
    where
      at_zero : FreeOf w f → (a : ℕ → Bool) (x : Bool) → a w ≡ x → f a ≡ f (with_at a w false)
      at_zero free a true e = own f a w true e ∙ sym (free a)
      at_zero free a false e = own f a w false e

      later : FreeOf w f → (a c : ℕ → Bool) → ((v : ℕ) → w + 1 ≤ v → a v ≡ c v) → f a ≡ f c
      later free a c same =
          at_zero free a (a w) refl ∙ from (with_at a w false) (with_at c w false) (λ v le. with_agree a c w false v (λ ne. same v (omega (arith, le, ne)))) ∙ sym (at_zero free c (c w) refl)

      by_value : (y : Bool) → depends n f w ≡ y → y ≡ true
      by_value true e = refl
      by_value false e = absurd (least (later (not_depends n w f reads e)))
