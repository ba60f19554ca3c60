-- The tops of a text, as they were noted.
use Rattle.std.proofs.Common.{◌≡◌, ℕ, zero, suc, List, [], ◌∷◌, map, take, Bool, true, false, cond, refl, ap, sym, ◌∙◌, Bor}
use Rattle.std.specs.Prelude.{Option, Some, None, option_map, option_and_then, slice_get}
use Rattle.std.specs.Option.{option_map_or, option_copied}
use Rattle.std.proofs.lemmas.Option.{slice_get-map}
use Rattle.std.specs.Str.{bytes_eq}
use Rattle.smv_core.specs.Values.{Name}
use Rattle.smv_core.specs.Types.{find_name}
use Rattle.smv_core.specs.declared.tree.Word.{Word}
use Rattle.smv_core.specs.declared.tree.Text.{Text}
use Rattle.smv_core.specs.declared.tree.Top.{Top}
use Rattle.smv_core.specs.declared.tree.Top.TheVariants.{SetType, Alias, Module}
use Rattle.smv_mentions.specs.declared.pieces.Piece.{Piece as NotedPiece}
use Rattle.smv_mentions.specs.Mentions.{Mention}
use Rattle.smv_mentions.specs.Scopes.{Known, Piece, Body, Own, piece_of, known_after, pieces_from, pieces, body_if_module, module_named, own_names, constants, Scope, scope_of}
use Rattle.smv_mentions.specs.Said.{said, told, told_by, AreNoted}
use Rattle.name_index.specs.Position.{position}
use Rattle.name_index.proofs.Finding.{find_name-place}
use Rattle.smv_scope.specs.Numbered.{known_from, known_before, top_word, top_names, mentions_at, scope_at}
use Rattle.smv_scope.specs.Held.{own_beside, own_of, body_of, piece_noted, constant_beside, constant_of}
use Rattle.smv_scope.specs.declared.tables.Own.{Own as HeldOwn}
use Rattle.smv_scope.specs.declared.tables.Constant.{Constant as HeldConstant}

abbrev pub Told : Type 0
Told = Word × Option (List Word) × List Mention

-- a top, by what it says and what is known before it
abbrev pub untold : Known → Told → Piece
untold known told = record { word = told.0; formals = told.1; known = known; mentions = told.2 }

untold-by : (known : Known) (top : Top) → piece_of known top ≡ untold known (told_by top)
untold-by known (SetType word ordered span at) = refl
untold-by known (Alias word of at) = refl
untold-by known (Module word formals body at) = refl

pieces-from : (known : Known) (tops : List Top) (i : ℕ) → slice_get (pieces_from known tops) i ≡ option_map (untold (known_from known (take i tops))) (slice_get (map told_by tops) i)
pieces-from known [] i = refl
pieces-from known (top ∷ tops) zero = ap Some (untold-by known top)
pieces-from known (top ∷ tops) (suc i) = pieces-from (known_after known top) tops i

pub piece-at : (text : Text) (noted : List NotedPiece) → AreNoted noted text → (i : ℕ) → slice_get (pieces text) i ≡ option_map (piece_noted text i) (slice_get noted i)
piece-at text noted same i =
    pieces-from [] text.tops i ∙ ap (λ l. option_map (untold (known_before text i)) (slice_get l i)) (sym same) ∙ ap (option_map (untold (known_before text i))) (slice_get-map told noted i) ∙ by (slice_get noted i)
  where
    by : (o : Option NotedPiece) → option_map (untold (known_before text i)) (option_map told o) ≡ option_map (piece_noted text i) o
    by None = refl
    by (Some piece) = refl

-- the names of the tops
names-from : (known : Known) (tops : List Top) → map (λ piece. piece.word.name) (pieces_from known tops) ≡ map (λ top. (top_word top).name) tops
names-from known [] = refl
names-from known (top ∷ tops) = ap (λ name. name ∷ map (λ piece. piece.word.name) (pieces_from (known_after known top) tops)) (word-of top) ∙ ap (λ l. (top_word top).name ∷ l) (names-from (known_after known top) tops)
  where
    word-of : (t : Top) → (piece_of known t).word.name ≡ (top_word t).name
    word-of (SetType word ordered span at) = refl
    word-of (Alias word of at) = refl
    word-of (Module word formals body at) = refl

pub piece-names : (text : Text) → map (λ piece. piece.word.name) (pieces text) ≡ top_names text
piece-names text = names-from [] text.tops

-- a module by the number of its name
pub module-place : (text : Text) (name : Name) → module_named (pieces text) name ≡ body_if_module (option_and_then (λ i. slice_get (pieces text) i) (position (top_names text) name))
module-place text name =
    ap body_if_module (find_name-place (λ piece. piece.word.name) (λ piece. piece) (pieces text) name
    ∙ ap (λ names. option_and_then (λ i. option_map (λ piece. piece) (slice_get (pieces text) i)) (position names name)) (piece-names text) ∙ by (position (top_names text) name))
  where
    same : (o : Option Piece) → option_map (λ piece. piece) o ≡ o
    same None = refl
    same (Some piece) = refl

    by : (o : Option ℕ) → option_and_then (λ i. option_map (λ piece. piece) (slice_get (pieces text) i)) o ≡ option_and_then (λ i. slice_get (pieces text) i) o
    by None = refl
    by (Some i) = same (slice_get (pieces text) i)

-- what stands beside a name, in a list of other values
pub find_name-map : {X Y : Type 0} (g : X → Y) (pairs : List (Name × X)) (name : Name) → find_name (map (λ pair. (pair.0, g pair.1)) pairs) name ≡ option_map g (find_name pairs name)
find_name-map g [] name = refl
find_name-map {X} {Y} g (pair ∷ pairs) name = by (bytes_eq pair.0 name) (find_name-map g pairs name)
  where
    by : (b : Bool) → find_name (map (λ pair. (pair.0, g pair.1)) pairs) name ≡ option_map g (find_name pairs name)
        → cond b (Some (g pair.1)) (find_name (map (λ pair. (pair.0, g pair.1)) pairs) name) ≡ option_map g (cond b (Some pair.1) (find_name pairs name))
    by true rest = refl
    by false rest = rest

-- the names that the top of a number declares
pub own-at : (text : Text) (own : List (List (Name × HeldOwn))) → map (map own_beside) own ≡ map (λ piece. own_names piece.mentions) (pieces text) → (i : ℕ)
    → own_names (mentions_at text i) ≡ option_map_or (map own_beside) (slice_get own i) []
own-at text own same i =
    by (slice_get (pieces text) i) ∙ ap (λ o. option_map_or (λ l. l) o []) (sym (slice_get-map (λ piece. own_names piece.mentions) (pieces text) i) ∙ ap (λ l. slice_get l i) (sym same) ∙ slice_get-map (map own_beside) own i) ∙ back (slice_get own i)
  where
    by : (o : Option Piece) → own_names (option_map_or (λ piece. piece.mentions) o []) ≡ option_map_or (λ l. l) (option_map (λ piece. own_names piece.mentions) o) []
    by None = refl
    by (Some piece) = refl

    back : (o : Option (List (Name × HeldOwn))) → option_map_or (λ l. l) (option_map (map own_beside) o) [] ≡ option_map_or (map own_beside) o []
    back None = refl
    back (Some l) = refl

-- ---- look-ups

module _ (text : Text) where
  module _ (noted : List NotedPiece) (known : AreNoted noted text) (i : ℕ) (got : Option (Bor NotedPiece)) (looked : option_copied got ≡ slice_get noted i) where
    pub piece-some : (piece : Bor NotedPiece) → got ≡ Some piece → slice_get (pieces text) i ≡ Some (piece_noted text i piece.now)
    piece-some piece is = piece-at text noted known i ∙ ap (option_map (piece_noted text i)) (sym looked ∙ ap option_copied is)

    pub piece-none : got ≡ None → slice_get (pieces text) i ≡ None
    piece-none is = piece-at text noted known i ∙ ap (option_map (piece_noted text i)) (sym looked ∙ ap option_copied is)

    pub module-some : (piece : Bor NotedPiece) (formals : Bor (List Word)) → got ≡ Some piece → piece.now.formals ≡ Some formals
        → body_if_module (slice_get (pieces text) i) ≡ Some (body_of text (record { place = i; formals = formals }))
    module-some piece formals is has =
        let here : slice_get (pieces text) i ≡ Some (piece_noted text i piece.now) = piece-some piece is in
        ap body_if_module here
        ∙ ap (λ (o : Option (Bor (List Word))). option_map (λ f. body f (map said piece.now.mentions.items)) (option_map (λ (w : Bor (List Word)). w.now) o)) has
        ∙ ap (λ (o : Option Piece). Some (body formals.now (option_map_or (λ p. p.mentions) o []))) (sym here)
      where
        body : List Word → List Mention → Body
        body f mentions = record { formals = f; known = known_before text i; mentions = mentions }

    pub module-not : (piece : Bor NotedPiece) → got ≡ Some piece → piece.now.formals ≡ None → body_if_module (slice_get (pieces text) i) ≡ None
    module-not piece is has =
        ap body_if_module (piece-some piece is)
        ∙ ap (λ (o : Option (Bor (List Word))). option_map (λ f. body f) (option_map (λ (w : Bor (List Word)). w.now) o)) has
      where
        body : List Word → Body
        body f = record { formals = f; known = known_before text i; mentions = map said piece.now.mentions.items }

  pub module-found : (names : List Name) (name : Name) (place : Option ℕ) → names ≡ top_names text → place ≡ position names name
      → module_named (pieces text) name ≡ body_if_module (option_and_then (λ i. slice_get (pieces text) i) place)
  module-found names name place same at = module-place text name ∙ ap (λ o. body_if_module (option_and_then (λ i. slice_get (pieces text) i) o)) (sym (at ∙ ap (λ l. position l name) same))

  module _ (own : List (List (Name × HeldOwn))) (same : map (map own_beside) own ≡ map (λ piece. own_names piece.mentions) (pieces text)) (i : ℕ) (name : Name) where
    pub own-found : (got : Option (Bor (List (Name × HeldOwn)))) (names : Bor (List (Name × HeldOwn))) (found : Option HeldOwn)
        → option_copied got ≡ slice_get own i → got ≡ Some names → found ≡ find_name names.now name
        → find_name (own_names (mentions_at text i)) name ≡ option_map own_of found
    own-found got names found looked is at =
        ap (λ l. find_name l name) (own-at text own same i ∙ ap (λ o. option_map_or (map own_beside) o []) (sym looked ∙ ap option_copied is))
        ∙ find_name-map own_of names.now name ∙ ap (option_map own_of) (sym at)

    pub own-none : (got : Option (Bor (List (Name × HeldOwn)))) → option_copied got ≡ slice_get own i → got ≡ None → find_name (own_names (mentions_at text i)) name ≡ None
    own-none got looked is = ap (λ l. find_name l name) (own-at text own same i ∙ ap (λ o. option_map_or (map own_beside) o []) (sym looked ∙ ap option_copied is))

  module _ (lists : List (Bor (List Word))) (held : List (Name × HeldConstant)) (same : map (constant_beside lists) held ≡ constants (pieces text)) (name : Name) where
    pub constant-found : (found : Option HeldConstant) → found ≡ find_name held name → find_name (constants (pieces text)) name ≡ option_map (constant_of lists) found
    constant-found found at = ap (λ l. find_name l name) (sym same) ∙ find_name-map (constant_of lists) held name ∙ ap (option_map (constant_of lists)) (sym at)

-- ---- the scope of a top

module _ (text : Text) (noted : List NotedPiece) (known : AreNoted noted text) (i : ℕ) (piece : NotedPiece) (here : slice_get noted i ≡ Some piece) where
  pub piece-here : slice_get (pieces text) i ≡ Some (piece_noted text i piece)
  piece-here = piece-at text noted known i ∙ ap (option_map (piece_noted text i)) here

  pub scope-here : scope_at text i ≡ scope_of (pieces text) (piece_noted text i piece)
  scope-here = ap (λ (o : Option Piece). with_own (own_names (option_map_or (λ p. p.mentions) o []))) piece-here
    where
      with_own : List (Name × Own) → Scope
      with_own own = record { tops = pieces text; constants = constants (pieces text); known = known_before text i; own = own }
