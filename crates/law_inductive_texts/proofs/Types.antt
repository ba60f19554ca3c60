-- An ordset's name stands for it where no name of a top is declared twice.
use Rattle.std.proofs.Common.{◌≡◌, List, [], ◌∷◌, ◌++◌, map, Some, None, Bool, true, false, ◌||◌, ◌&&◌, cond, refl, sym, ap, ◌∙◌, subst}
use Rattle.std.specs.List.{list_any}
use Rattle.std.specs.Str.{bytes_eq}
use Rattle.std.proofs.lemmas.Slice.Eq.{bytes_eq-Decides}
use Rattle.smv_core.specs.Values.{Name, scalarset, ordset}
use Rattle.smv_core.specs.Types.{Types, Shape, find_name, one_value, shape_of, types_after, types_from}
use Rattle.smv_core.specs.declared.tree.Word.{Word}
use Rattle.smv_core.specs.declared.tree.Top.{Top}
use Rattle.smv_core.specs.declared.tree.Top.TheVariants.{SetType, Alias, Module}
use Rattle.smv_mentions.specs.Scopes.{Piece, Known, pieces_from, known_after}
use Rattle.smv_mentions.specs.NameFaults.{place_if, repeated}
use Rattle.law_designs.proofs.Faultless.{empty-both, unplaced}
use Rattle.law_induction.proofs.RenamedOutcomes.{bytes-refl}
use Rattle.law_strengthened_texts.specs.Stronger.{is_ordset}
use Rattle.law_text_names.specs.Laws.{word_of_top}

pub words-of-pieces : (known : Known) (tops : List Top) → map (λ (piece : Piece). piece.word) (pieces_from known tops) ≡ map word_of_top tops
words-of-pieces known [] = refl
words-of-pieces known (SetType word ordered span at ∷ tops) = ap (λ l. word ∷ l) (words-of-pieces (known_after known (SetType word ordered span at)) tops)
words-of-pieces known (Alias word of at ∷ tops) = ap (λ l. word ∷ l) (words-of-pieces (known_after known (Alias word of at)) tops)
words-of-pieces known (Module word formals body at ∷ tops) = ap (λ l. word ∷ l) (words-of-pieces (known_after known (Module word formals body at)) tops)

-- ---- what is found in a list that grows

pub found-front : {X : Type 0} (xs ys : List (Name × X)) (name : Name) (v : X) → find_name xs name ≡ Some v → find_name (xs ++ ys) name ≡ Some v
found-front [] ys name v e = absurd (cc (e))
found-front {X} ((other, x) ∷ xs) ys name v e = by_test (bytes_eq other name) e (found-front xs ys name v)
  where
    by_test : (b : Bool) → cond b (Some x) (find_name xs name) ≡ Some v → (find_name xs name ≡ Some v → find_name (xs ++ ys) name ≡ Some v) → cond b (Some x) (find_name (xs ++ ys) name) ≡ Some v
    by_test true q rest = q
    by_test false q rest = rest q

pub found-behind : {X : Type 0} (xs ys : List (Name × X)) (name : Name) → find_name xs name ≡ None → find_name (xs ++ ys) name ≡ find_name ys name
found-behind [] ys name e = refl
found-behind {X} ((other, x) ∷ xs) ys name e = by_test (bytes_eq other name) e (found-behind xs ys name)
  where
    by_test : (b : Bool) → cond b (Some x) (find_name xs name) ≡ None → (find_name xs name ≡ None → find_name (xs ++ ys) name ≡ find_name ys name) → cond b (Some x) (find_name (xs ++ ys) name) ≡ find_name ys name
    by_test true q rest = absurd (cc (q))
    by_test false q rest = rest q

module _ (set : Name) where
  kept : (types : Types) (tops : List Top) (v : Shape) → find_name types set ≡ Some v → find_name (types_from types tops) set ≡ Some v
  kept types [] v e = e
  kept types (SetType word false span at ∷ tops) v e = kept (types_after types (SetType word false span at)) tops v (found-front types ((word.name, one_value (scalarset word.name)) ∷ []) set v e)
  kept types (SetType word true span at ∷ tops) v e = kept (types_after types (SetType word true span at)) tops v (found-front types ((word.name, one_value (ordset word.name)) ∷ []) set v e)
  kept types (Alias word of at ∷ tops) v e = kept (types_after types (Alias word of at)) tops v (found-front types ((word.name, shape_of types of) ∷ []) set v e)
  kept types (Module word formals body at ∷ tops) v e = kept types tops v e

  any-more : (seen : List Name) (name : Name) → list_any (bytes_eq set) seen ≡ true → list_any (bytes_eq set) (name ∷ seen) ≡ true
  any-more seen name e = either (bytes_eq set name) (list_any (bytes_eq set) seen) e
    where
      either : (a b : Bool) → b ≡ true → (a || b) ≡ true
      either true b q = refl
      either false b q = q

  not-both : (a b : Bool) → b ≡ false → (a && b) ≡ false
  not-both true b e = e
  not-both false b e = refl

  -- a name that was seen is none of those behind
  unseen : (seen : List Name) (word : Word) → list_any (bytes_eq set) seen ≡ true → list_any (bytes_eq word.name) seen ≡ false → bytes_eq word.name set ≡ false
  unseen seen word there none = by_test (bytes_eq word.name set) refl
    where
      by_test : (b : Bool) → bytes_eq word.name set ≡ b → bytes_eq word.name set ≡ false
      by_test false e = e
      by_test true e = absurd (let same : list_any (bytes_eq set) seen ≡ false = subst (λ n. list_any (bytes_eq n) seen ≡ false) ((bytes_eq-Decides word.name set).0 e) none in cc (there, same))

  no-ordset : (seen : List Name) (tops : List Top) → list_any (bytes_eq set) seen ≡ true → repeated seen (map word_of_top tops) ≡ [] → list_any (is_ordset set) tops ≡ false
  no-ordset seen [] there e = refl
  no-ordset seen (top ∷ tops) there e =
      let parts = empty-both (place_if (list_any (bytes_eq (word_of_top top).name) seen) (word_of_top top).at) (repeated ((word_of_top top).name ∷ seen) (map word_of_top tops)) e in
      none-of-both (is_ordset set top) (list_any (is_ordset set) tops) (by_top top (unseen seen (word_of_top top) there (unplaced (list_any (bytes_eq (word_of_top top).name) seen) (word_of_top top).at parts.0)))
      (no-ordset ((word_of_top top).name ∷ seen) tops (any-more seen (word_of_top top).name there) parts.1)
    where
      none-of-both : (a b : Bool) → a ≡ false → b ≡ false → (a || b) ≡ false
      none-of-both false b p q = q
      none-of-both true b p q = absurd (cc (p))

      by_top : (t : Top) → bytes_eq (word_of_top t).name set ≡ false → is_ordset set t ≡ false
      by_top (SetType word ordered span at) h = not-both ordered (bytes_eq word.name set) h
      by_top (Alias word of at) h = refl
      by_top (Module word formals body at) h = refl

  -- the names of tops that are no ordset of this name
  still-none : (types : Types) (top : Top) → find_name types set ≡ None → bytes_eq (word_of_top top).name set ≡ false → find_name (types_after types top) set ≡ None
  still-none types (SetType word false span at) e h = found-behind types ((word.name, one_value (scalarset word.name)) ∷ []) set e ∙ ap (λ (b : Bool). cond b (Some (one_value (scalarset word.name))) None) h
  still-none types (SetType word true span at) e h = found-behind types ((word.name, one_value (ordset word.name)) ∷ []) set e ∙ ap (λ (b : Bool). cond b (Some (one_value (ordset word.name))) None) h
  still-none types (Alias word of at) e h = found-behind types ((word.name, shape_of types of) ∷ []) set e ∙ ap (λ (b : Bool). cond b (Some (shape_of types of)) None) h
  still-none types (Module word formals body at) e h = e

  -- it is found behind its own top
  here : (types : Types) → find_name types set ≡ None → (top : Top) → is_ordset set top ≡ true → find_name (types_after types top) set ≡ Some (one_value (ordset set))
  here types none (SetType word true span at) h =
      found-behind types ((word.name, one_value (ordset word.name)) ∷ []) set none ∙ ap (λ (b : Bool). cond b (Some (one_value (ordset word.name))) None) h
      ∙ ap (λ n. Some (one_value (ordset n))) ((bytes_eq-Decides word.name set).0 h)
  here types none (SetType word false span at) h = absurd (cc (h))
  here types none (Alias word of at) h = absurd (cc (h))
  here types none (Module word formals body at) h = absurd (cc (h))

  pub set-found : (types : Types) (seen : List Name) (tops : List Top) → find_name types set ≡ None → repeated seen (map word_of_top tops) ≡ [] → list_any (is_ordset set) tops ≡ true → find_name (types_from types tops) set ≡ Some (one_value (ordset set))
  set-found types seen [] none e h = absurd (cc (h))
  set-found types seen (top ∷ tops) none e h = by_test (is_ordset set top) refl h (λ k q. set-found (types_after types top) ((word_of_top top).name ∷ seen) tops k rest q)
    where
      rest : repeated ((word_of_top top).name ∷ seen) (map word_of_top tops) ≡ []
      rest = (empty-both (place_if (list_any (bytes_eq (word_of_top top).name) seen) (word_of_top top).at) (repeated ((word_of_top top).name ∷ seen) (map word_of_top tops)) e).1

      -- behind a top of this name none is declared
      differ : list_any (is_ordset set) tops ≡ true → bytes_eq (word_of_top top).name set ≡ false
      differ q = by_name (bytes_eq (word_of_top top).name set) refl
        where
          by_name : (b : Bool) → bytes_eq (word_of_top top).name set ≡ b → bytes_eq (word_of_top top).name set ≡ false
          by_name false k = k
          by_name true k = absurd (
              let same : bytes_eq set (word_of_top top).name ≡ true = subst (λ n. bytes_eq set n ≡ true) (sym ((bytes_eq-Decides (word_of_top top).name set).0 k)) (bytes-refl set) in
              let none = no-ordset ((word_of_top top).name ∷ seen) tops (ap (λ (b : Bool). b || list_any (bytes_eq set) seen) same) rest in
              cc (none, q)
              )

      by_test : (b : Bool) → is_ordset set top ≡ b → (b || list_any (is_ordset set) tops) ≡ true → (find_name (types_after types top) set ≡ None → list_any (is_ordset set) tops ≡ true → find_name (types_from (types_after types top) tops) set ≡ Some (one_value (ordset set))) →
          find_name (types_from (types_after types top) tops) set ≡ Some (one_value (ordset set))
      by_test true k q later = kept (types_after types top) tops (one_value (ordset set)) (here types none top k)
      by_test false k q later = later (still-none types top none (differ q)) q
