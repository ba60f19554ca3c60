-- Families of types that are made of lists and values.
use Rattle.std.proofs.Common.{◌≡◌, ℕ, ◌+◌, ◌<◌, List, [], ◌∷◌, ◌++◌, map, take, length, get_or, refl, ap, sym, ◌∙◌}
use Rattle.std.specs.List.{flat_map}
use Rattle.std.proofs.lemmas.List.{take_more, append-nil}
use Rattle.std.proofs.lemmas.Grind.{flat_map-append}
use Rattle.smv_core.specs.Values.{Name}
use Rattle.smv_core.specs.declared.tree.Field.{Field, out-Field}
use Rattle.smv_core.specs.declared.tree.TypeExpr.{TypeExpr, Struct, Struct', Array, Row_of-Field, end_of-Field, more_of-Field, items-the_row-Field, items_hidden-the_row-Field-1}
use mathlib.Core.Former.{Count}
use Rattle.smv_mentions.specs.Sizes.{Extent, Sized, size_of, under, extents_of, extents_of_fields, sized_from, sized_after}
use Rattle.smv_core.specs.declared.tree.Top.{Top}
use Rattle.smv_mentions.proofs.Computing.{computing}

-- one element more in a loop
pub flat_map-turn : {A X : Type 0} (f : A → List X) (xs : List A) (i : ℕ) (x : A) → i < length xs → x ≡ get_or xs i x → flat_map f (take i xs) ++ f x ≡ flat_map f (take (i + 1) xs)
flat_map-turn {A} f xs i x h at =
    let rest : take (i + 1) xs ≡ take i xs ++ x ∷ [] = take_more xs i x h ∙ ap (λ (y : A). take i xs ++ y ∷ []) (sym at) in
    sym (ap (flat_map f) rest ∙ flat_map-append f (take i xs) (x ∷ []) ∙ ap (λ l. flat_map f (take i xs) ++ l) (append-nil (f x)))

module _ (known : List (Name × Sized)) where
  pub extents-Array : (index of : TypeExpr) → extents_of known (Array index of) ≡ map (under (size_of known index)) (extents_of known of)
  unfolding computing
  extents-Array index of = refl

  abbrev pub extents_of_field : Field → List Extent
  extents_of_field field = flat_map (λ word. extents_of known (out-Field field).of) (out-Field field).names

  extents-row : (n : _) (row : Row_of-Field n) → extents_of_fields known row ≡ flat_map extents_of_field (items-the_row-Field n row)
  unfolding computing
  extents-row n end_of-Field = refl
  extents-row n (more_of-Field names of at rest) = ap (λ l. flat_map (λ word. extents_of known of) names ++ l) (extents-row _ rest)

  abbrev row_in : TypeExpr → (n : Count) × Row_of-Field n
  row_in (Struct' shape row) = (_, row)
  row_in _ = (_, end_of-Field)

  pub extents-Struct : (fields : List Field) → extents_of known (Struct fields) ≡ flat_map extents_of_field fields
  extents-Struct fields =
      let row : (n : Count) × Row_of-Field n = row_in (Struct fields) in
      extents-row row.0 row.1 ∙ ap (flat_map extents_of_field) (items_hidden-the_row-Field-1 fields)

-- ---- the types of a text

sized_from-append : (known : List (Name × Sized)) (xs ys : List Top) → sized_from known (xs ++ ys) ≡ sized_from (sized_from known xs) ys
sized_from-append known [] ys = refl
sized_from-append known (x ∷ xs) ys = sized_from-append (sized_after known x) xs ys

-- one top more in a loop
pub sized-turn : (tops : List Top) (i : ℕ) (top : Top) → i < length tops → top ≡ get_or tops i top → sized_after (sized_from [] (take i tops)) top ≡ sized_from [] (take (i + 1) tops)
sized-turn tops i top h at =
    let rest : take (i + 1) tops ≡ take i tops ++ top ∷ [] = take_more tops i top h ∙ ap (λ (y : Top). take i tops ++ y ∷ []) (sym at) in
    sym (ap (sized_from []) rest ∙ sized_from-append [] (take i tops) (top ∷ []))
