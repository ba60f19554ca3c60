-- A state with another value at an element, and tests that agree.
use Rattle.std.proofs.Common.{◌≡◌, ℕ, List, [], ◌∷◌, Bool, true, false, refl, sym, ap, ◌∙◌, if◌then◌else◌}
use Rattle.std.specs.List.{filter}
use Rattle.law_obligations.specs.Places.{Place}
use Rattle.law_obligations.specs.May.{AbsState}
use Rattle.law_obligations.specs.Cones.{AbsElement, element, same_element}
use Rattle.law_obligations.proofs.ConeFacts.{same_element-itself, same_element-family, same_element-indexes}
use Rattle.law_arrangements.specs.Arrangements.{put}

-- ---- a state with another value

put_self : (x : AbsElement) (v : Place) (a : AbsState) → put x v a x.family x.indexes ≡ v
put_self x v a = rw (same_element-itself x) refl

pub put_other : (x : AbsElement) (v : Place) (a : AbsState) (family : ℕ) (ps : List Place) → same_element (element family ps) x ≡ false → put x v a family ps ≡ a family ps
put_other x v a family ps e = rw e refl

pub put_at : (x : AbsElement) (v : Place) (a : AbsState) (y : AbsElement) → same_element x y ≡ true → put x v a y.family y.indexes ≡ v
put_at x v a y e = ap (λ (k : ℕ). put x v a k y.indexes) (sym (same_element-family x y e)) ∙ (ap (put x v a x.family) (sym (same_element-indexes x y e)) ∙ put_self x v a)

-- ---- tests that agree

pub filter_alike : {X : Type 0} (p q : X → Bool) (xs : List X) → ((x : X) → p x ≡ q x) → filter p xs ≡ filter q xs
filter_alike p q [] h = refl
filter_alike p q (x ∷ xs) h = ap (λ b. if b then x ∷ filter p xs else filter p xs) (h x) ∙ ap (λ l. if q x then x ∷ l else l) (filter_alike p q xs h)
