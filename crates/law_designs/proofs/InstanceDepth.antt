-- A recursion through instances, which a number bounds: past the number of modules it is the same.
use Rattle.std.proofs.Common.{◌≡◌, ℕ, zero, suc, ◌+◌, ◌<◌, ◌≤◌, List, [], ◌∷◌, length, Bool, true, false, ◌⊎◌, inl, inr, refl, sym, subst, ◌∙◌, arith}
use Rattle.smv_core.specs.Values.{Name, Path}
use Rattle.smv_mentions.specs.Scopes.{Piece}
use Rattle.law_designs.proofs.Lists.{IsAmong, without, without-fewer, among-without}
use Rattle.law_designs.proofs.Chains.{uses, Leads, leads-next, leads-first}

module _ (tops : List Piece)
    (is_module : Name → Bool)
    (total : ℕ)
    (no_cycle : (n : ℕ) (name : Name) → n ≤ total → is_module name ≡ true → Leads tops n name name → ⊥)
    {R : Type 0}
    (f : ℕ → Path → Name → R)
    (agrees : (m n : ℕ) (name : Name) → is_module name ≡ true → ((q : Name) → IsAmong q (uses tops name) → (here : Path) → f m here q ≡ f n here q) → (here : Path) → f (suc m) here name ≡ f (suc n) here name)
    (ends : (n : ℕ) (here : Path) (name : Name) → is_module name ≡ false → f n here name ≡ f zero here name) where
  -- each module is still left, or leads to this one
  abbrev AreApart : List Name → ℕ → Name → Type 0
  AreApart left steps name = (q : Name) → is_module q ≡ true → IsAmong q left ⊎ Leads tops steps q name

  none-left : (left : List Name) (name : Name) → length left ≤ 0 → IsAmong name left → ⊥
  none-left [] name le h = h
  none-left (x ∷ left) name le h = absurd (omega arith)

  -- one step further on
  apart-next : (left : List Name) (steps : ℕ) (name next : Name) → AreApart left steps name → IsAmong next (uses tops name) → AreApart (without name left) (suc steps) next
  apart-next left steps name next apart used q is = by (apart q is)
    where
      by_left : (q ≡ name) ⊎ IsAmong q (without name left) → IsAmong q (without name left) ⊎ Leads tops (suc steps) q next
      by_left (inl same) = inr (subst (λ x. Leads tops (suc steps) x next) (sym same) (leads-first tops (suc steps) name next used))
      by_left (inr there) = inl there

      by : IsAmong q left ⊎ Leads tops steps q name → IsAmong q (without name left) ⊎ Leads tops (suc steps) q next
      by (inl there) = by_left (among-without name q left there)
      by (inr chain) = inr (leads-next tops steps q name next chain used)

  -- with at least as many steps to go as modules are left
  abbrev Settled : ℕ → ℕ → Type 0
  Settled n m = (steps : ℕ) (left : List Name) (name : Name) → length left ≤ n → n ≤ m → steps + length left ≤ total → AreApart left steps name → (here : Path) → f m here name ≡ f n here name

  pub settled : (n m : ℕ) → Settled n m
  settled zero m steps left name few more bound apart = by_module (is_module name) refl
    where
      by_place : IsAmong name left ⊎ Leads tops steps name name → is_module name ≡ true → ⊥
      by_place (inl there) e = none-left left name few there
      by_place (inr chain) e = no_cycle steps name (omega arith) e chain

      by_module : (b : Bool) → is_module name ≡ b → (here : Path) → f m here name ≡ f zero here name
      by_module false e here = ends m here name e
      by_module true e here = absurd (by_place (apart name e) e)
  settled (suc n) zero steps left name few more bound apart = λ here. absurd (omega arith)
  settled (suc n) (suc m) steps left name few more bound apart = by_module (is_module name) refl (settled n m)
    where
      by_place : is_module name ≡ true → IsAmong name left ⊎ Leads tops steps name name → Settled n m → (here : Path) → f (suc m) here name ≡ f (suc n) here name
      by_place e (inl there) rest here =
          let fewer : length (without name left) < length left = without-fewer name left there in
          let few_left : length (without name left) ≤ n = omega arith in
          let more_left : n ≤ m = omega arith in
          let bound_left : suc steps + length (without name left) ≤ total = omega arith in
          agrees m n name e (λ q used inner. rest (suc steps) (without name left) q few_left more_left bound_left (apart-next left steps name q apart used) inner) here
      by_place e (inr chain) rest here = absurd (no_cycle steps name (omega arith) e chain)

      by_module : (b : Bool) → is_module name ≡ b → Settled n m → (here : Path) → f (suc m) here name ≡ f (suc n) here name
      by_module false e rest here = ends (suc m) here name e ∙ sym (ends (suc n) here name e)
      by_module true e rest here = by_place e (apart name e) rest here
