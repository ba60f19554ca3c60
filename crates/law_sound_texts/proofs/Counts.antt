-- How many indexes a family has, in the flattened text and in the text.
use Rattle.std.proofs.Common.{◌≡◌, ◌≤◌, ℕ, zero, suc, List, [], ◌∷◌, length, Option, Some, None, true, nat_le, refl, sym, ap, ◌∙◌, slice_get, arith}
use Rattle.std.specs.List.{AllZip}
use Rattle.std.proofs.lemmas.List.{length-map}
use Rattle.smv_core.specs.Types.{Family}
use Rattle.smv_core.specs.FlatMeaning.{Numbered, simple_in}
use Rattle.smv_core.specs.declared.flat.Family.{Family as FlatFamily}
use Rattle.smv_core.specs.declared.flat.FlatText.{FlatText}
use Rattle.law_designs.specs.Agreement.{IsSameFamily}
use Rattle.law_designs.specs.Laws.{index_count}

pub at-most : (k n : ℕ) → k ≡ n → nat_le k n ≡ true
at-most k n e = grind arith

pub at-least : (k n : ℕ) → k ≡ n → n ≤ k
at-least k n e = omega (arith, e)

module _ (n : Numbered) where
  -- the family at the same place in the flattened text has as many index types
  pub same-count : (fs : List FlatFamily) (gs : List Family) → AllZip (IsSameFamily n) fs gs → (k : ℕ) (g : Family) → slice_get gs k ≡ Some g → (f : FlatFamily) × (slice_get fs k ≡ Some f) × (length f.over ≡ length g.over)
  same-count [] [] h k g e = absurd (cc (e))
  same-count [] (g ∷ gs) h k other e = absurd h
  same-count (f ∷ fs) [] h k g e = absurd h
  same-count (f ∷ fs) (g ∷ gs) h zero other e = let same : g ≡ other = some-is e in (f, refl, sym (length-map f.over (simple_in n)) ∙ ap length h.0.1 ∙ ap (λ (g : Family). length g.over) same)
    where
      some-is : {X : Type 0} {a b : X} → Some a ≡ Some b → a ≡ b
      some-is e = cc
  same-count (f ∷ fs) (g ∷ gs) h (suc k) other e = same-count fs gs h.1 k other e

abbrev count_of : Option FlatFamily → ℕ
count_of None = 0
count_of (Some f) = length f.over

pub count-is : (flat_text : FlatText) (family : ℕ) (f : FlatFamily) → slice_get flat_text.families family ≡ Some f → index_count flat_text family ≡ length f.over
count-is flat_text family f e = ap count_of e
