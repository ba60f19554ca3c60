-- The types of a text, one top after the other.
use Rattle.std.proofs.Common.{◌≡◌, ℕ, zero, suc, ◌+◌, ◌≤◌, List, [], ◌∷◌, ◌++◌, length, map, take, drop, min, Bool, true, false, cond, refl, ap, sym, ◌∙◌, arith, add-one, length-append}
use Rattle.std.specs.Prelude.{Option, Some, None, option_and_then, slice_get, nat_lt}
use Rattle.std.specs.Option.{option_map_or}
use Rattle.std.proofs.lemmas.List.{append-nil, append_assoc, map-append, length-map, take-append-drop}
use Rattle.std.proofs.Math.Seq.{take-append_seam}
use Rattle.smv_core.specs.Values.{Name}
use Rattle.smv_core.specs.Types as shapes
use Rattle.smv_core.specs.Types.{Shape, find_name, shape_or_none, types_after, types_from}
use Rattle.smv_core.specs.declared.flat.Simple.TheVariants.{Set}
use Rattle.smv_core.specs.declared.tree.Word.{Word}
use Rattle.smv_core.specs.declared.tree.Span.{Span}
use Rattle.smv_core.specs.declared.tree.Item.{Item}
use Rattle.smv_core.specs.declared.tree.Text.{Text}
use Rattle.smv_core.specs.declared.tree.TypeExpr.{TypeExpr}
use Rattle.smv_core.specs.declared.tree.Top.{Top}
use Rattle.smv_core.specs.declared.tree.Top.TheVariants.{SetType, Alias, Module}
use Rattle.law_designs.specs.Numbers.{set_number}
use Rattle.name_index.specs.Position.{position}
use Rattle.smv_flatten_families.specs.Simples.{numbering}
use Rattle.smv_flatten_families.specs.Types.{Leaf, leaf_of, one_leaf, types_of, leaves, named_leaves, form_leaves, types_in_top, with_leaves, top_leaves, typed, AreTypesSoFar}
use Rattle.smv_flatten_families.specs.declared.types.Form.{Form}
use Rattle.smv_flatten_families.specs.declared.types.Typed.{Typed}
use Rattle.smv_flatten_families.specs.declared.types.Types.{Types}
use Rattle.smv_flatten_families.proofs.NamedLaws.{form-named}

-- ---- what tops add

after-is : (known : shapes.Types) (top : Top) → types_after known top ≡ known ++ types_in_top known top
after-is known (SetType word true span at) = refl
after-is known (SetType word false span at) = refl
after-is known (Alias word of at) = refl
after-is known (Module word formals body at) = sym (append-nil known)

rest : shapes.Types → List Top → shapes.Types
rest known [] = []
rest known (top ∷ tops) = types_in_top known top ++ rest (types_after known top) tops

from-front : (known : shapes.Types) (tops : List Top) → types_from known tops ≡ known ++ rest known tops
unfolding rest
from-front known [] = sym (append-nil known)
from-front known (top ∷ tops) =
    from-front (types_after known top) tops ∙ ap (λ l. l ++ rest (types_after known top) tops) (after-is known top) ∙ append_assoc known (types_in_top known top) (rest (types_after known top) tops)

types-append : (known : shapes.Types) (xs ys : List Top) → types_from known (xs ++ ys) ≡ types_from (types_from known xs) ys
types-append known [] ys = refl
types-append known (x ∷ xs) ys = types-append (types_after known x) xs ys

-- the types before a top are the first ones of the text
pub first-types : (tops : List Top) (i : ℕ) → take (length (types_from [] (take i tops))) (types_from [] tops) ≡ types_from [] (take i tops)
first-types tops i =
    let known = types_from [] (take i tops) in
    ap (λ l. take (length known) (types_from [] l)) (sym (take-append-drop i tops)) ∙ ap (take (length known)) (types-append [] (take i tops) (drop i tops) ∙ from-front known (drop i tops)) ∙ take-append_seam known (rest known (drop i tops))

types-next : (types : shapes.Types) (tops : List Top) (i : ℕ) (top : Top) → slice_get tops i ≡ Some top → types_from types (take (suc i) tops) ≡ types_after (types_from types (take i tops)) top
types-next types [] i top h = cc
types-next types (here ∷ tops) zero top h = let same : here ≡ top = cc in ap (types_after types) same
types-next types (here ∷ tops) (suc i) top h = types-next (types_after types here) tops i top h

next-is : (tops : List Top) (i : ℕ) (top : Top) → slice_get tops i ≡ Some top → types_from [] (take (i + 1) tops) ≡ types_from [] (take i tops) ++ types_in_top (types_from [] (take i tops)) top
next-is tops i top h = rw add-one (types-next [] tops i top h ∙ after-is (types_from [] (take i tops)) top)

module _ (text : Text) (n : ℕ) where
  pub top-SetType : (word : Word) (ordered : Bool) (span : Option Span) (at : ℕ) → top_leaves text n (SetType word ordered span at) ≡ (word.name, one_leaf (Set (set_number (numbering text) word.name))) ∷ []
  unfolding top_leaves
  top-SetType word true span at = refl
  top-SetType word false span at = refl

  pub top-Alias : (word : Word) (of : TypeExpr) (at : ℕ) → top_leaves text n (Alias word of at) ≡ (word.name, leaves text n of) ∷ []
  unfolding top_leaves leaves
  top-Alias word of at = refl

  pub top-Module : (word : Word) (formals : List Word) (body : List Item) (at : ℕ) → top_leaves text n (Module word formals body at) ≡ []
  unfolding top_leaves
  top-Module word formals body at = refl

pub ruleset tops = (top-SetType, top-Alias, top-Module)

-- ---- one type more

module _ (text : Text) (place : ℕ) (top : Top) (got : slice_get text.tops place ≡ Some top) (names : List Name) (forms : List Form) (here : length forms ≡ length (types_from [] (take place text.tops))) where
  abbrev known : shapes.Types
  known = types_from [] (take place text.tops)

  abbrev new : shapes.Types
  new = types_in_top known top

  known-is : take (length forms) (types_of text) ≡ known
  known-is = ap (λ n. take n (types_of text)) here ∙ first-types text.tops place

  new-leaves : (found : Option Typed) → typed text found ≡ top_leaves text (length forms) top → with_leaves text new ≡ typed text found
  unfolding top_leaves
  new-leaves found same = ap (λ l. with_leaves text (types_in_top l top)) (sym known-is) ∙ sym same

  names-of : (types : shapes.Types) → map (λ pair. pair.0) (with_leaves text types) ≡ map (λ pair. pair.0) types
  names-of [] = refl
  names-of (pair ∷ types) = ap (λ l. pair.0 ∷ l) (names-of types)

  shown-of : (types : shapes.Types) → map (λ pair. pair.1) (with_leaves text types) ≡ map (λ pair. map (leaf_of text) pair.1) types
  shown-of [] = refl
  shown-of (pair ∷ types) = ap (λ l. map (leaf_of text) pair.1 ∷ l) (shown-of types)

  -- a top that is no type
  pub no-type : typed text None ≡ top_leaves text (length forms) top → length forms ≡ length (types_from [] (take (place + 1) text.tops))
  no-type same =
      let none : length new ≡ 0 = sym (length-map new (λ pair. pair.0)) ∙ ap length (sym (names-of new) ∙ ap (map (λ pair. pair.0)) (new-leaves None same)) in
      let long : length (known ++ new) ≡ length known + length new = length-append known new in
      let next : length (types_from [] (take (place + 1) text.tops)) ≡ length (known ++ new) = ap length (next-is text.tops place top got) in
      omega (arith, none, long, next, here)

  module _ (found : Typed) (forms' : List Form) (same : typed text (Some found) ≡ top_leaves text (length forms) top) (more : forms' ≡ forms ++ found.form ∷ []) where
    one-name : map (λ pair. pair.0) new ≡ found.name.now ∷ []
    one-name = sym (names-of new) ∙ ap (map (λ pair. pair.0)) (new-leaves (Some found) same)

    one-form : map (λ pair. map (leaf_of text) pair.1) new ≡ form_leaves text found.form ∷ []
    one-form = sym (shown-of new) ∙ ap (map (λ pair. pair.1)) (new-leaves (Some found) same)

    -- a top that is one
    pub type-long : length forms' ≡ length (types_from [] (take (place + 1) text.tops))
    type-long =
        let one : length new ≡ 1 = sym (length-map new (λ pair. pair.0)) ∙ ap length one-name in
        let long : length (known ++ new) ≡ length known + length new = length-append known new in
        let next : length (types_from [] (take (place + 1) text.tops)) ≡ length (known ++ new) = ap length (next-is text.tops place top got) in
        let grown : length forms' ≡ length forms + 1 = ap length more ∙ length-append forms (found.form ∷ []) in
        omega (arith, one, long, next, grown, here)

    now-known : take (length forms') (types_of text) ≡ known ++ new
    now-known = ap (λ n. take n (types_of text)) type-long ∙ first-types text.tops (place + 1) ∙ next-is text.tops place top got

    pub type-names : (names' : List Name) → names' ≡ names ++ found.name.now ∷ [] → names ≡ map (λ pair. pair.0) (take (length forms) (types_of text)) → names' ≡ map (λ pair. pair.0) (take (length forms') (types_of text))
    type-names names' pushed were =
        pushed ∙ ap (λ l. l ++ found.name.now ∷ []) (were ∙ ap (map (λ pair. pair.0)) known-is) ∙ ap (λ l. map (λ pair. pair.0) known ++ l) (sym one-name)
        ∙ sym (map-append (λ pair. pair.0) known new) ∙ ap (map (λ pair. pair.0)) (sym now-known)

    pub type-forms : map (form_leaves text) forms ≡ map (λ pair. map (leaf_of text) pair.1) (take (length forms) (types_of text))
        → map (form_leaves text) forms' ≡ map (λ pair. map (leaf_of text) pair.1) (take (length forms') (types_of text))
    type-forms were =
        ap (map (form_leaves text)) more ∙ map-append (form_leaves text) forms (found.form ∷ []) ∙ ap (λ l. l ++ form_leaves text found.form ∷ []) (were ∙ ap (map (λ pair. map (leaf_of text) pair.1)) known-is)
        ∙ ap (λ l. map (λ pair. map (leaf_of text) pair.1) known ++ l) (sym one-form) ∙ sym (map-append (λ pair. map (leaf_of text) pair.1) known new) ∙ ap (map (λ pair. map (leaf_of text) pair.1)) (sym now-known)

-- ---- by name

abbrev pub found_leaves : Text → List Form → ℕ → Option ℕ → List Leaf
found_leaves text forms place found = option_map_or (form_leaves text) (option_and_then (λ i. cond (nat_lt i place) (slice_get forms i) None) found) []

pub named-found : (types : Types) (place : ℕ) (name : Name) (found : Option ℕ) → AreTypesSoFar types → min place (length (types_of types.simples.text.now)) ≤ length types.forms.items → found ≡ position types.names name
    → named_leaves types.simples.text.now place name ≡ found_leaves types.simples.text.now types.forms.items place found
unfolding named_leaves
named-found types place name found are enough is =
    let text = types.simples.text.now in
    shown (find_name (take place (types_of text)) name)
    ∙ form-named (map (leaf_of text)) (types_of text) (form_leaves text) types.names types.forms.items place name are.names are.forms enough
    ∙ ap (found_leaves text types.forms.items place) (sym is)
  where
    shown : (o : Option Shape) → map (leaf_of types.simples.text.now) (shape_or_none o) ≡ option_map_or (map (leaf_of types.simples.text.now)) o []
    shown None = refl
    shown (Some s) = refl
