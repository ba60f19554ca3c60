-- The claim of an induction in a whole text.
use Rattle.std.proofs.Common.{◌≡◌, ℕ, List, [], ◌∷◌, ◌++◌, map, flat_map, Some, None, Bool, true, false, if◌then◌else◌, refl, sym, ap, ◌∙◌, subst}
use Rattle.std.specs.List.{AllByRecursion, list_any}
use Rattle.std.specs.Str.{bytes_eq}
use Rattle.smv_core.specs.Values.{Name, ordset}
use Rattle.smv_core.specs.Types.{Types, find_name, one_value, types_from}
use Rattle.smv_core.specs.FlatOrder.{main}
use Rattle.smv_core.specs.declared.tree.Word.{Word}
use Rattle.smv_core.specs.declared.tree.Text.{Text}
use Rattle.smv_core.specs.declared.tree.Top.{Top}
use Rattle.smv_core.specs.declared.tree.Top.TheVariants.{SetType, Alias, Module}
use Rattle.smv_core.specs.declared.tree.Item.{Item}
use Rattle.smv_mentions.specs.Scopes.{Piece, Known, no_field, fields_of, piece_of, pieces, pieces_from, known_after}
use Rattle.smv_mentions.specs.NameFaults.{is_type, repeated}
use Rattle.law_lists.proofs.Lists.{head_is, tail_is}
use Rattle.law_designs.proofs.Faultless.{each-front, each-behind}
use Rattle.law_places.specs.Placeless.{placeless_item, placeless_top}
use Rattle.law_exchanged.specs.Changed.{changed_item, changed_top}
use Rattle.law_induction.specs.Strengthened.{is_main, strengthened, IsInductiveBody, AreInductiveTops}
use Rattle.law_strengthened_texts.specs.Stronger.{Found, claims_in, main_claims, is_ordset, ordset_named, innermost}
use Rattle.law_strengthened_texts.proofs.Counting.{named-over}
use Rattle.law_inductive_texts.specs.World.{World, AreFine}
use Rattle.law_text_names.specs.Laws.{word_of_top, NamesNoTop}
use Rattle.law_inductive_texts.specs.Laws.{FaultlessAreInductive}
use Rattle.law_inductive_texts.proofs.Claims.{body-said, bodies-alike}
use Rattle.law_inductive_texts.proofs.Faultless.{world_of, names-fine}
use Rattle.law_inductive_texts.proofs.Types.{words-of-pieces, found-behind, set-found}
use Rattle.law_inductive_texts.proofs.Inductive.{AreOver, body-inductive}

bare-name : (t : Top) → (word_of_top (placeless_top t)).name ≡ (word_of_top t).name
bare-name (SetType word ordered span at) = refl
bare-name (Alias word of at) = refl
bare-name (Module word formals body at) = refl

abbrev items_of : Top → List Item
items_of (SetType word ordered span at) = []
items_of (Alias word of at) = []
items_of (Module word formals body at) = body

module _ (all : List Piece) (var fresh set name : Name) (tops : List Top) (types : Types) (set_is : list_any (is_ordset set) tops ≡ true → find_name types set ≡ Some (one_value (ordset set))) where
  abbrev changed : Top → Top
  changed = changed_top is_main (strengthened var fresh set name)

  changed-name : (t : Top) → (word_of_top (changed t)).name ≡ (word_of_top t).name
  changed-name (SetType word ordered span at) = refl
  changed-name (Alias word of at) = refl
  changed-name (Module word formals body at) = refl

  same-name : (x y : Top) → placeless_top (changed x) ≡ placeless_top y → (word_of_top y).name ≡ (word_of_top x).name
  same-name x y e = sym (bare-name y) ∙ ap (λ t. (word_of_top t).name) (sym e) ∙ bare-name (changed x) ∙ changed-name x

  known-none : (known : Known) (y : Top) → find_name known fresh ≡ None → bytes_eq (word_of_top y).name fresh ≡ false → find_name (known_after known y) fresh ≡ None
  known-none known (SetType word ordered span at) k n = found-behind known ((word.name, Some no_field) ∷ []) fresh k ∙ rw (n) refl
  known-none known (Alias word of at) k n = found-behind known ((word.name, Some (fields_of known of)) ∷ []) fresh k ∙ rw (n) refl
  known-none known (Module word formals body at) k n = found-behind known ((word.name, None) ∷ []) fresh k ∙ rw (n) refl

  next : (known : Known) (x y : Top) → find_name known fresh ≡ None → placeless_top (changed x) ≡ placeless_top y → bytes_eq (word_of_top x).name fresh ≡ false → find_name (known_after known y) fresh ≡ None
  next known x y k e n = known-none known y k (subst (λ m. bytes_eq m fresh ≡ false) (sym (same-name x y e)) n)

  abbrev IsOver : Found → Type 0
  IsOver d = bytes_eq d.word.name name ≡ true → ordset_named tops (innermost var d.binders) ≡ Some set

  abbrev Fine : Piece → Type 0
  Fine piece = AreFine (world_of all piece) piece.mentions

  module-inductive : (known : Known) (word : Word) (formals : List Word) (body : List Item) (at : ℕ) (y : Top) → placeless_top (changed (Module word formals body at)) ≡ placeless_top y → Fine (piece_of known y) → find_name known fresh ≡ None →
      AreOver tops var set name (flat_map (claims_in []) body) → bytes_eq word.name main ≡ true → IsInductiveBody var fresh set name types body
  module-inductive known word formals body at (SetType word' ordered span at') e p k o m = absurd (cc (e))
  module-inductive known word formals body at (Alias word' of at') e p k o m = absurd (cc (e))
  module-inductive known word formals body at (Module word' formals' body' at') e p k o m =
      let w : World = world_of all (piece_of known (Module word' formals' body' at')) in
      let items : map placeless_item (if bytes_eq word.name main then map (changed_item (strengthened var fresh set name)) body else body) ≡ map placeless_item body' = ap items_of e in
      let own : map placeless_item (map (changed_item (strengthened var fresh set name)) body) ≡ map placeless_item body' =
      subst (λ (b : Bool). map placeless_item (if b then map (changed_item (strengthened var fresh set name)) body else body) ≡ map placeless_item body') m items in
      body-inductive w var fresh set tops types (ap is_type k) set_is name body o (bodies-alike w body' (map (changed_item (strengthened var fresh set name)) body) (sym own) (body-said w body' p))

  tops-inductive : (known : Known) (xs ys : List Top) → map placeless_top (map changed xs) ≡ map placeless_top ys → AllByRecursion Fine (pieces_from known ys) → find_name known fresh ≡ None → NamesNoTop fresh xs → AreOver tops var set name (main_claims xs) →
      AreInductiveTops var fresh set name types xs
  tops-inductive known [] ys e p k n o = tt
  tops-inductive known (x ∷ xs) [] e p k n o = absurd (cc (e))
  tops-inductive known (SetType word ordered span at ∷ xs) (y ∷ ys) e p k n o = tops-inductive (known_after known y) xs ys (tail_is e) p.1 (next known (SetType word ordered span at) y k (head_is e) n.0) n.1 o
  tops-inductive known (Alias word of at ∷ xs) (y ∷ ys) e p k n o = tops-inductive (known_after known y) xs ys (tail_is e) p.1 (next known (Alias word of at) y k (head_is e) n.0) n.1 o
  tops-inductive known (Module word formals body at ∷ xs) (y ∷ ys) e p k n o = (
    λ m. module-inductive known word formals body at y (head_is e) p.0 k (each-front (IsOver) (flat_map (claims_in []) body) (main_claims xs) (subst (λ (b : Bool). AreOver tops var set name ((if b then flat_map (claims_in []) body else []) ++ main_claims xs)) m o)) m,
    tops-inductive (known_after known y) xs ys (tail_is e) p.1 (next known (Module word formals body at) y k (head_is e) n.0) n.1 (each-behind (IsOver) (if bytes_eq word.name main then flat_map (claims_in []) body else []) (main_claims xs) o),
  )

pub faultless-inductive : FaultlessAreInductive
faultless-inductive x new name var fresh c set p q found same no_top =
    let own = names-fine x p in
    let distinct : repeated [] (map word_of_top x.tops) ≡ [] = ap (repeated []) (sym (words-of-pieces [] x.tops)) ∙ own.0 in
    tops-inductive (pieces new) var fresh set name x.tops (types_from [] x.tops) (λ h. set-found set [] [] x.tops refl distinct h) [] x.tops new.tops (ap (λ (t : Text). t.tops) same) (names-fine new q).1 refl no_top (named-over x name var c set found)
