-- A text has no more families than its size counts.
use Rattle.std.proofs.Common.{◌≡◌, ◌≤◌, ℕ, zero, suc, List, [], ◌∷◌, ◌++◌, map, length, Option, Some, None, unwrap_or, Bool, true, false, cond, refl, subst, arith, length-append}
use Rattle.std.specs.Str.{bytes_eq}
use Rattle.std.specs.List.{flat_map}
use Rattle.std.proofs.lemmas.List.{length-map}
use Rattle.smv_core.specs.Values.{Name, Path, Simple}
use Rattle.smv_core.specs.Types.{Types, Shape, Family, find_name, indexed, behind, simple_of, array_of, shape_or_none, shape_of, shape_of_fields, types_after, types_from}
use Rattle.smv_core.specs.FlatOrder.{Body, modules, main, declared_as, body_of}
use Rattle.smv_core.specs.declared.tree.Word.{Word}
use Rattle.smv_core.specs.declared.tree.TypeExpr.{TypeExpr, Boolean, Range, Enum, Named, Array', Struct', end_of-TypeExpr, more_of-TypeExpr, Row_of-Field, end_of-Field, more_of-Field}
use Rattle.smv_core.specs.declared.tree.Item.{Item, Declare, Instance}
use Rattle.smv_core.specs.declared.tree.Top.{Top}
use Rattle.smv_core.specs.declared.tree.Top.TheVariants.{SetType, Alias, Module}
use Rattle.smv_core.specs.declared.tree.Text.{Text}
use Rattle.smv_mentions.specs.Sizes.{Extent, Sized, sized, size_of, under, extents_of, extents_of_fields, sized_after, sized_from, Thing, family, instance, things_of_item, things_in}
use Rattle.law_designs.specs.Entries.{placed_of_item, placed_in, placed_families}
use Rattle.law_designs.specs.Flattening.{flatten}

-- ---- lengths

pub flat-few : {X Y Z : Type 0} (f : X → List Y) (g : X → List Z) → ((x : X) → length (f x) ≤ length (g x)) → (xs : List X) → length (flat_map f xs) ≤ length (flat_map g xs)
flat-few f g h [] = omega arith
flat-few f g h (x ∷ xs) =
    let a = h x in
    let b = flat-few f g h xs in
    let c = length-append (f x) (flat_map f xs) in
    let d = length-append (g x) (flat_map g xs) in
    omega (arith, a, b, c, d)

mapped-few : {X Y Z W : Type 0} (f : X → Y) (g : Z → W) (xs : List X) (zs : List Z) → length xs ≤ length zs → length (map f xs) ≤ length (map g zs)
mapped-few f g xs zs h = let a = length-map xs f in let b = length-map zs g in omega (arith, a, b, h)

-- ---- types

-- each type name has no more families than are counted
abbrev AreCounted : Types → List (Name × Sized) → Type 0
AreCounted [] [] = Unit {0}
AreCounted ((name, shape) ∷ types) ((other, s) ∷ known) = (name ≡ other) × (length shape ≤ length s.families) × AreCounted types known
AreCounted _ _ = ⊥

counted-more : (types : Types) (known : List (Name × Sized)) (name : Name) (shape : Shape) (s : Sized) → AreCounted types known → length shape ≤ length s.families → AreCounted (types ++ (name, shape) ∷ []) (known ++ (name, s) ∷ [])
counted-more [] [] name shape s h le = (refl, le, tt)
counted-more [] (k ∷ known) name shape s h le = absurd h
counted-more (t ∷ types) [] name shape s h le = absurd h
counted-more ((n, t) ∷ types) ((m, k) ∷ known) name shape s h le = (h.0, h.1, counted-more types known name shape s h.2 le)

counted-named : (types : Types) (known : List (Name × Sized)) → AreCounted types known → (name : Name) → length (shape_or_none (find_name types name)) ≤ length (sized known name).families
counted-named [] [] h name = omega arith
counted-named [] (k ∷ known) h name = absurd h
counted-named (t ∷ types) [] h name = absurd h
counted-named ((n, t) ∷ types) ((m, k) ∷ known) h name =
    subst (λ other. length (shape_or_none (find_name ((n, t) ∷ types) name)) ≤ length (sized ((other, k) ∷ known) name).families) h.0 (by_test (bytes_eq n name) (find_name types name) (find_name known name) (counted-named types known h.2 name) h.1)
  where
    by_test : (b : Bool) (o : Option Shape) (p : Option Sized) → length (shape_or_none o) ≤ length (unwrap_or p (record { families = []; size = None })).families → length t ≤ length k.families →
        length (shape_or_none (cond b (Some t) o)) ≤ length (unwrap_or (cond b (Some k) p) (record { families = []; size = None })).families
    by_test true o p rest own = own
    by_test false o p rest own = rest

module _ (types : Types) (known : List (Name × Sized)) (counted : AreCounted types known) where
  array-few : (o : Option Simple) (shape : Shape) (size : Option ℕ) (extents : List Extent) → length shape ≤ length extents → length (array_of o shape) ≤ length (map (under size) extents)
  array-few None shape size extents h = omega arith
  array-few (Some t) shape size extents h = mapped-few (indexed t) (under size) shape extents h

  fields-few : (shape : Shape) (extents : List Extent) → length shape ≤ length extents → (words : List Word) → length (flat_map (λ (word : Word). map (behind (word.name ∷ [])) shape) words) ≤ length (flat_map (λ (word : Word). extents) words)
  fields-few shape extents h words = flat-few (λ (word : Word). map (behind (word.name ∷ [])) shape) (λ (word : Word). extents) (λ word. let a = length-map shape (behind (word.name ∷ [])) in omega (arith, a, h)) words

  mutual
    shape-few : (t : TypeExpr) → length (shape_of types t) ≤ length (extents_of known t)
    shape-few Boolean = omega arith
    shape-few (Range span at) = omega arith
    shape-few (Enum names at) = omega arith
    shape-few (Named word at) = counted-named types known counted word.name
    shape-few (Array' i (more_of-TypeExpr index end_of-TypeExpr) o (more_of-TypeExpr of end_of-TypeExpr)) = array-few (simple_of (shape_of types index)) (shape_of types of) (size_of known index) (extents_of known of) (shape-few of)
    shape-few (Struct' shape fields) = row-few fields

    row-few : {m : _} (fields : Row_of-Field m) → length (shape_of_fields types fields) ≤ length (extents_of_fields known fields)
    row-few end_of-Field = omega arith
    row-few (more_of-Field names of at rest) =
        let a = fields-few (shape_of types of) (extents_of known of) (shape-few of) names in
        let b = row-few rest in
        let c = length-append (flat_map (λ (word : Word). map (behind (word.name ∷ [])) (shape_of types of)) names) (shape_of_fields types rest) in
        let d = length-append (flat_map (λ (word : Word). extents_of known of) names) (extents_of_fields known rest) in
        omega (arith, a, b, c, d)

  after-counted : (top : Top) → AreCounted (types_after types top) (sized_after known top)
  after-counted (SetType word false span at) = counted-more types known word.name _ _ counted (omega arith)
  after-counted (SetType word true span at) = counted-more types known word.name _ _ counted (omega arith)
  after-counted (Alias word of at) = counted-more types known word.name (shape_of types of) _ counted (shape-few of)
  after-counted (Module word formals body at) = counted

all-counted : (types : Types) (known : List (Name × Sized)) → AreCounted types known → (tops : List Top) → AreCounted (types_from types tops) (sized_from known tops)
all-counted types known counted [] = counted
all-counted types known counted (top ∷ tops) = all-counted (types_after types top) (sized_after known top) (after-counted types known counted top) tops

-- ---- families

module _ (types : Types) (known : List (Name × Sized)) (counted : AreCounted types known) (bodies : List (Name × Body)) where
  item-few : (inside : Path → Name → List (Family × ℕ)) (things : Name → List Thing) → ((here : Path) (name : Name) → length (inside here name) ≤ length (things name)) →
      (here : Path) (x : Item) → length (placed_of_item types bodies inside here x) ≤ length (things_of_item known bodies things x)
  item-few inside things h here (Declare role words of at) =
      flat-few (λ (word : Word). map (λ f. (declared_as role (here ++ word.name ∷ []) f, word.at)) (shape_of types of)) (λ (word : Word). map family (extents_of known of))
      (λ word. mapped-few (λ f. (declared_as role (here ++ word.name ∷ []) f, word.at)) family (shape_of types of) (extents_of known of) (shape-few types known counted of)) words
  item-few inside things h here (Instance words name args at) =
      flat-few (λ (word : Word). inside (here ++ word.name ∷ []) name.name) (λ (word : Word). instance ∷ things name.name) (λ word. let a = h (here ++ word.name ∷ []) name.name in omega (arith, a)) words
  item-few inside things h here _ = omega arith

  placed-few : (n : ℕ) (here : Path) (name : Name) → length (placed_in types bodies n here name) ≤ length (things_in known bodies n name)
  placed-few zero here name = omega arith
  placed-few (suc n) here name =
      flat-few (placed_of_item types bodies (placed_in types bodies n) here) (things_of_item known bodies (things_in known bodies n)) (item-few (placed_in types bodies n) (things_in known bodies n) (placed-few n) here) (body_of types bodies name).items

-- no more families than things
pub families-few : (text : Text) → length (flatten text).families ≤ length (things_in (sized_from [] text.tops) (modules text.tops) (length (modules text.tops)) main)
families-few text =
    let a = placed-few (types_from [] text.tops) (sized_from [] text.tops) (all-counted [] [] tt text.tops) (modules text.tops) (length (modules text.tops)) [] main in
    let b : length (flatten text).families ≡ length (placed_families text) = length-map (placed_families text) _ in
    omega (arith, a, b)
