-- Left sides that are known to be elsewhere, index by index.
use Rattle.std.proofs.Common.{◌≡◌, List, [], ◌∷◌, map, length, Bool, true, false, ◌||◌, refl, sym, ap, ◌∙◌, arith}
use Rattle.smv_core.specs.declared.flat.FlatExpr.{FlatExpr}
use Rattle.law_obligations.specs.Places.{Place, World, AbsOutcome}
use Rattle.smv_spots.specs.declared.spots.Spot.{Spot}
use Rattle.smv_spots.specs.Spots.{place_in}
use Rattle.smv_walk_parts.specs.Elsewhere.{known_place, is_other, is_elsewhere}

module _ (w : World) (b : List Place) where
  pub no_left : (qs : List Place) (left : List FlatExpr) → length left ≡ 0 → false ≡ is_elsewhere w qs left b
  no_left [] left e = refl
  no_left (q ∷ qs) [] e = refl
  no_left (q ∷ qs) (x ∷ xs) e = absurd (omega arith)

  pub no_index : (indexes : List Spot) (left : List FlatExpr) → length indexes ≡ 0 → false ≡ is_elsewhere w (map (place_in w.classes) indexes) left b
  no_index [] left e = refl
  no_index (q ∷ qs) left e = absurd (omega arith)

  module _ (indexes : List Spot) (left : List FlatExpr) (q : Spot) (qs : List Spot) (e : FlatExpr) (es : List FlatExpr) (u : AbsOutcome) (other : Bool) (whole : left ≡ e ∷ es) (all : indexes ≡ q ∷ qs) (known : u ≡ known_place w b e) (is : other ≡ is_other (place_in w.classes q) u) where
    more : (other || is_elsewhere w (map (place_in w.classes) qs) es b) ≡ is_elsewhere w (map (place_in w.classes) indexes) left b
    more =
        ap (λ c. c || is_elsewhere w (map (place_in w.classes) qs) es b) (is ∙ ap (is_other (place_in w.classes q)) known)
        ∙ (ap (λ l. is_elsewhere w (map (place_in w.classes) l) (e ∷ es) b) (sym all) ∙ ap (λ l. is_elsewhere w (map (place_in w.classes) indexes) l b) (sym whole))

    pub one_is : other ≡ true → true ≡ is_elsewhere w (map (place_in w.classes) indexes) left b
    one_is o = ap (λ c. c || is_elsewhere w (map (place_in w.classes) qs) es b) (sym o) ∙ more

    pub others_are : (c : Bool) → other ≡ false → c ≡ is_elsewhere w (map (place_in w.classes) qs) es b → c ≡ is_elsewhere w (map (place_in w.classes) indexes) left b
    others_are c o h = h ∙ (ap (λ d. d || is_elsewhere w (map (place_in w.classes) qs) es b) (sym o) ∙ more)
