-- What the tables of a text hold, from what was noted of it.
use Rattle.std.proofs.Common.{◌≡◌, ℕ, ◌+◌, ◌<◌, List, [], ◌∷◌, ◌++◌, map, length, get_or, drop, refl, ap, sym, ◌∙◌, arith, append_assoc, Bor}
use Rattle.std.specs.Prelude.{Some, slice_get}
use Rattle.std.specs.Option.{option_map_or}
use Rattle.std.specs.List.{flat_map}
use Rattle.std.proofs.lemmas.List.{map-append, append-nil}
use Rattle.std.proofs.lemmas.Option.{slice_get_read}
use Rattle.std.proofs.lemmas.List.Folds.{flat_map-map}
use Rattle.std.proofs.lemmas.List.Concat.{flat_map-append}
use Rattle.law_lists.proofs.Places.{drop_read_one}
use Rattle.law_lists.proofs.Lists.{map-map, flat_map-flat_map, map_agree, flat_map_agree}
use Rattle.smv_core.specs.Values.{Name}
use Rattle.smv_core.specs.Types.{names_of}
use Rattle.smv_core.specs.declared.tree.Word.{Word}
use Rattle.smv_core.specs.declared.tree.Text.{Text}
use Rattle.smv_core.specs.declared.tree.Top.{Top}
use Rattle.smv_core.specs.declared.tree.Top.TheVariants.{SetType, Alias, Module}
use Rattle.smv_mentions.specs.declared.pieces.Piece.{Piece as NotedPiece}
use Rattle.smv_mentions.specs.declared.mentions.Mention.{Mention as Noted}
use Rattle.smv_mentions.specs.Mentions.{Mention, declares, binds, follows, names_type, lists_constants, has_fields, instantiates}
use Rattle.smv_mentions.specs.Scopes.{Known, Piece, Constant, known_after, pieces_from, pieces, own_names, constants_in, constants}
use Rattle.smv_mentions.specs.Said.{said, told, told_by, AreNoted}
use Rattle.smv_first_fault.proofs.LeastLaws.{from_here}
use Rattle.smv_scope.specs.Held.{constant_beside, constants_of_list, lists_of}
use Rattle.smv_scope.specs.declared.tables.Constant.{Constant as HeldConstant}
use Rattle.smv_scope.proofs.PieceLaws.{Told}

-- ---- constants

listed : (lists : List (Bor (List Word))) (n : ℕ) (all : List Word) → option_map_or (λ (l : Bor (List Word)). names_of l.now) (slice_get lists n) [] ≡ names_of all → (words : List Word)
    → map (constant_beside lists) (map (λ word. (word.name, record { at = word.at; list = n })) words) ≡ map (λ word. (word.name, record { at = word.at; names = names_of all })) words
listed lists n all same [] = refl
listed lists n all same (word ∷ words) =
    ap (λ (names : List Name). (word.name, constant word.at names) ∷ map (constant_beside lists) (map (λ word. (word.name, record { at = word.at; list = n })) words)) same
    ∙ ap (λ l. (word.name, constant word.at (names_of all)) ∷ l) (listed lists n all same words)
  where
    constant : ℕ → List Name → Constant
    constant at names = record { at = at; names = names }

abbrev col : Bor (List Word) → List (Name × Constant)
col words = constants_of_list words.now

pub constants-step : (lists : List (Bor (List Word))) (old new : List (Name × HeldConstant)) (n : ℕ) (words : Bor (List Word)) → n < length lists → words ≡ get_or lists n words
    → new ≡ old ++ map (λ word. (word.name, record { at = word.at; list = n })) words.now
    → map (constant_beside lists) old ++ flat_map col (drop n lists) ≡ flat_map col lists
    → map (constant_beside lists) new ++ flat_map col (drop (n + 1) lists) ≡ flat_map col lists
constants-step lists old new n words below here more known =
    let got : slice_get lists n ≡ Some words = slice_get_read lists (length lists) n words refl below here in
    let new_ones : map (constant_beside lists) (map (λ word. (word.name, record { at = word.at; list = n })) words.now) ≡ constants_of_list words.now =
    listed lists n words.now (ap (λ o. option_map_or (λ (l : Bor (List Word)). names_of l.now) o []) got) words.now in
    ap (λ l. map (constant_beside lists) l ++ flat_map col (drop (n + 1) lists)) more
    ∙ ap (λ l. l ++ flat_map col (drop (n + 1) lists)) (map-append (constant_beside lists) old (map (λ word. (word.name, record { at = word.at; list = n })) words.now) ∙ ap (λ l. map (constant_beside lists) old ++ l) new_ones)
    ∙ append_assoc (map (constant_beside lists) old) (constants_of_list words.now) (flat_map col (drop (n + 1) lists))
    ∙ ap (λ l. map (constant_beside lists) old ++ flat_map col l) (sym (drop_read_one lists n words below here)) ∙ known

-- ---- tops

abbrev pub tell : Piece → Told
tell piece = (piece.word, piece.formals, piece.mentions)

told-from : (known : Known) (tops : List Top) → map tell (pieces_from known tops) ≡ map told_by tops
told-from known [] = refl
told-from known (SetType word ordered span at ∷ tops) = ap (λ l. told_by (SetType word ordered span at) ∷ l) (told-from (known_after known (SetType word ordered span at)) tops)
told-from known (Alias word of at ∷ tops) = ap (λ l. told_by (Alias word of at) ∷ l) (told-from (known_after known (Alias word of at)) tops)
told-from known (Module word formals body at ∷ tops) = ap (λ l. told_by (Module word formals body at) ∷ l) (told-from (known_after known (Module word formals body at)) tops)

own-first : (mention : Mention) (more : List Mention) → own_names (mention ∷ more) ≡ own_names (mention ∷ []) ++ own_names more
own-first (declares word what) more = refl
own-first (binds around var) more = refl
own-first (follows around parts) more = refl
own-first (names_type word) more = refl
own-first (lists_constants words) more = refl
own-first (has_fields words) more = refl
own-first (instantiates word args) more = refl

own-flat : (mentions : List Noted) → own_names (map said mentions) ≡ flat_map (λ mention. own_names (said mention ∷ [])) mentions
own-flat [] = refl
own-flat (mention ∷ mentions) = own-first (said mention) (map said mentions) ∙ ap (λ l. own_names (said mention ∷ []) ++ l) (own-flat mentions)

constants-first : (mention : Mention) (more : List Mention) → constants_in (mention ∷ more) ≡ flat_map constants_of_list (lists_of mention) ++ constants_in more
constants-first (declares word what) more = refl
constants-first (binds around var) more = refl
constants-first (follows around parts) more = refl
constants-first (names_type word) more = refl
constants-first (lists_constants words) more = ap (λ l. l ++ constants_in more) (sym (append-nil (constants_of_list words)))
constants-first (has_fields words) more = refl
constants-first (instantiates word args) more = refl

constants-flat : (mentions : List Noted) → constants_in (map said mentions) ≡ flat_map constants_of_list (flat_map (λ mention. lists_of (said mention)) mentions)
constants-flat [] = refl
constants-flat (mention ∷ mentions) =
    constants-first (said mention) (map said mentions) ∙ ap (λ l. flat_map constants_of_list (lists_of (said mention)) ++ l) (constants-flat mentions)
    ∙ sym (flat_map-append constants_of_list (lists_of (said mention)) (flat_map (λ mention. lists_of (said mention)) mentions))

module _ (text : Text) (noted : List NotedPiece) (same : AreNoted noted text) where
  pub told-same : map tell (pieces text) ≡ map told noted
  told-same = told-from [] text.tops ∙ sym same

  pub own-all : map (λ piece. flat_map (λ mention. own_names (said mention ∷ [])) piece.mentions.items) noted ≡ map (λ piece. own_names piece.mentions) (pieces text)
  own-all =
      map_agree (λ (piece : NotedPiece). flat_map (λ mention. own_names (said mention ∷ [])) piece.mentions.items) (λ piece. own_names (told piece).2) (λ piece. sym (own-flat piece.mentions.items)) noted
      ∙ sym (map-map (λ (t : Told). own_names t.2) told noted) ∙ ap (map (λ (t : Told). own_names t.2)) (sym told-same) ∙ map-map (λ (t : Told). own_names t.2) tell (pieces text)

  pub constants-all : flat_map constants_of_list (flat_map (λ piece. flat_map (λ mention. lists_of (said mention)) piece.mentions.items) noted) ≡ constants (pieces text)
  constants-all =
      flat_map-flat_map constants_of_list (λ (piece : NotedPiece). flat_map (λ mention. lists_of (said mention)) piece.mentions.items) noted
      ∙ flat_map_agree (λ (piece : NotedPiece). flat_map constants_of_list (flat_map (λ mention. lists_of (said mention)) piece.mentions.items)) (λ piece. constants_in (told piece).2) (λ piece. sym (constants-flat piece.mentions.items)) noted
      ∙ sym (flat_map-map (λ (t : Told). constants_in t.2) told noted) ∙ ap (flat_map (λ (t : Told). constants_in t.2)) (sym told-same) ∙ flat_map-map (λ (t : Told). constants_in t.2) tell (pieces text)

  pub lists-all : (lists : List (Bor (List Word))) → map (λ words. words.now) lists ≡ flat_map (λ piece. flat_map (λ mention. lists_of (said mention)) piece.mentions.items) noted
      → flat_map (λ words. constants_of_list words.now) lists ≡ constants (pieces text)
  lists-all lists are = sym (flat_map-map constants_of_list (λ (words : Bor (List Word)). words.now) lists) ∙ ap (flat_map constants_of_list) are ∙ constants-all
