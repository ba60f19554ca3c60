-- What is known of names in a text gives places among those of its tree.
use Rattle.std.proofs.Common.{◌≤◌, ℕ, Bool, true, false, cond, List, [], ◌∷◌, map, Option, Some, None, IfSome}
use Rattle.std.specs.List.{AllByRecursion}
use Rattle.std.specs.Option.{option_map}
use Rattle.law_lists.proofs.Each.{each_flat_map, each_append}
use Rattle.smv_core.specs.Values.{Name}
use Rattle.smv_core.specs.Types.{find_name, names_of}
use Rattle.smv_core.specs.declared.tree.Word.{Word}
use Rattle.smv_core.specs.declared.tree.Top.{Top}
use Rattle.smv_core.specs.declared.tree.Top.TheVariants.{SetType, Alias, Module}
use Rattle.smv_core.specs.declared.tree.Text.{Text}
use Rattle.smv_core.specs.declared.tree.TypeExpr.{TypeExpr, Boolean, Range, Enum, Named, Array', Struct', end_of-TypeExpr, more_of-TypeExpr, Row_of-Field, end_of-Field, more_of-Field}
use Rattle.smv_mentions.specs.Mentions.{What, signal, instance, goal, Mention, declares, binds, follows, names_type, lists_constants, has_fields, instantiates, in_item}
use Rattle.smv_mentions.specs.Scopes.{Fields, no_field, Known, fields_if_type, has_name, fields_of, field_among, known_after, Piece, piece_of, pieces_from, pieces, Body, body_if_module, module_named, Own, own_names, behind, Constant, constants_in, constants, Scope, scope_of, first_of_places, is_before, constant_at, resolved, path_places}
use Rattle.law_designs.proofs.Faultless.{each-map}
use Rattle.law_fault_places.specs.TreePlaces.{WordIsWithin, WordsAreWithin, ItemIsWithin, TopIsWithin, TextIsWithin}
use Rattle.law_fault_places.proofs.Firsts.{AreUpTo, named-one, mapped-one, unwrapped-one}
use Rattle.law_fault_places.proofs.Said.{MentionIsWithin, AreSaidWithin, type-said, item-said}

module _ (n : ℕ) where
  abbrev pub IsUpTo : ℕ → Type 0
  IsUpTo at = at ≤ n

  -- ---- fields

  -- places of words that are within give places that are
  abbrev pub AreFieldsWithin : Fields → Type 0
  AreFieldsWithin fields = (words : List Word) → WordsAreWithin n words → AreUpTo n (fields words)

  abbrev pub IsKnownWithin : Known → Type 0
  IsKnownWithin known = AllByRecursion (λ (entry : Name × Option Fields). IfSome entry.1 AreFieldsWithin) known

  none-within : AreFieldsWithin no_field
  none-within [] h = tt
  none-within (word ∷ more) h = (h.0, tt)

  type-within : (o : Option (Option Fields)) → IfSome o (λ (p : Option Fields). IfSome p AreFieldsWithin) → (words : List Word) → WordsAreWithin n words → AreUpTo n (fields_if_type o words)
  type-within None g words h = none-within words h
  type-within (Some None) g words h = none-within words h
  type-within (Some (Some fields)) g words h = g words h

  module _ (known : Known) (good : IsKnownWithin known) where
    mutual
      pub fields-within : (t : TypeExpr) → AreFieldsWithin (fields_of known t)
      fields-within Boolean words h = none-within words h
      fields-within (Range span at) words h = none-within words h
      fields-within (Enum names at) words h = none-within words h
      fields-within (Named word at) words h = type-within (find_name known word.name) (named-one (λ (p : Option Fields). IfSome p AreFieldsWithin) known word.name good) words h
      fields-within (Array' i index o (more_of-TypeExpr of end_of-TypeExpr)) words h = fields-within of words h
      fields-within (Struct' shape fields) [] h = tt
      fields-within (Struct' shape fields) (word ∷ more) h = among-within fields word more h.0 h.1

      among-within : {m : _} (row : Row_of-Field m) (word : Word) (more : List Word) → WordIsWithin n word → WordsAreWithin n more → AreUpTo n (field_among known row word more)
      among-within end_of-Field word more h g = (h, tt)
      among-within (more_of-Field names of at rest) word more h g = by (has_name names word.name) (fields_of known of more) (field_among known rest word more) (fields-within of more g) (among-within rest word more h g)
        where
          by : (b : Bool) (xs ys : List ℕ) → AreUpTo n xs → AreUpTo n ys → AreUpTo n (cond b xs ys)
          by true xs ys p q = p
          by false xs ys p q = q

  known-after : (known : Known) → IsKnownWithin known → (top : Top) → IsKnownWithin (known_after known top)
  known-after known good (SetType word ordered span at) = each_append (λ (entry : Name × Option Fields). IfSome entry.1 AreFieldsWithin) known ((word.name, Some no_field) ∷ []) good (none-within, tt)
  known-after known good (Alias word of at) = each_append (λ (entry : Name × Option Fields). IfSome entry.1 AreFieldsWithin) known ((word.name, Some (fields_of known of)) ∷ []) good (fields-within known good of, tt)
  known-after known good (Module word formals body at) = each_append (λ (entry : Name × Option Fields). IfSome entry.1 AreFieldsWithin) known ((word.name, None) ∷ []) good (tt, tt)

  -- ---- pieces and modules

  pub record IsPieceWithin (piece : Piece) : Type 0 where
    pub word : WordIsWithin n piece.word
    pub formals : IfSome piece.formals (WordsAreWithin n)
    pub known : IsKnownWithin piece.known
    pub said : AreSaidWithin n piece.mentions

  piece-within : (known : Known) → IsKnownWithin known → (top : Top) → TopIsWithin n top → IsPieceWithin (piece_of known top)
  piece-within known good (SetType word ordered span at) h = record { word = h.0; formals = tt; known = good; said = tt }
  piece-within known good (Alias word of at) h = record { word = h.0; formals = tt; known = good; said = type-said n of h.1 }
  piece-within known good (Module word formals body at) h = record { word = h.0; formals = h.1; known = good; said = each_flat_map (ItemIsWithin n) (MentionIsWithin n) (in_item []) (λ x own. item-said n [] x tt own) body h.2 }

  abbrev pub ArePiecesWithin : List Piece → Type 0
  ArePiecesWithin tops = AllByRecursion IsPieceWithin tops

  from-within : (known : Known) → IsKnownWithin known → (tops : List Top) → AllByRecursion (TopIsWithin n) tops → ArePiecesWithin (pieces_from known tops)
  from-within known good [] h = tt
  from-within known good (top ∷ tops) h = (piece-within known good top h.0, from-within (known_after known top) (known-after known good top) tops h.1)

  pub pieces-within : (text : Text) → TextIsWithin n text → ArePiecesWithin (pieces text)
  pieces-within text h = from-within [] tt text.tops h

  pub record IsBodyWithin (body : Body) : Type 0 where
    pub known : IsKnownWithin body.known
    pub said : AreSaidWithin n body.mentions

  body-within : (o : Option Piece) → IfSome o IsPieceWithin → IfSome (body_if_module o) IsBodyWithin
  body-within None h = tt
  body-within (Some piece) h = by piece.formals
    where
      by : (o : Option (List Word)) → IfSome (option_map (λ (formals : List Word). record { formals = formals; known = piece.known; mentions = piece.mentions }) o) IsBodyWithin
      by None = tt
      by (Some formals) = record { known = h.known; said = h.said }

  pub named-pieces : (tops : List Piece) → ArePiecesWithin tops → AllByRecursion (λ (entry : Name × Piece). IsPieceWithin entry.1) (map (λ (piece : Piece). (piece.word.name, piece)) tops)
  named-pieces tops h = each-map IsPieceWithin (λ (entry : Name × Piece). IsPieceWithin entry.1) (λ (piece : Piece). (piece.word.name, piece)) (λ piece own. own) tops h

  module-within : (tops : List Piece) → ArePiecesWithin tops → (name : Name) → IfSome (module_named tops name) IsBodyWithin
  module-within tops h name =
      body-within (find_name (map (λ (piece : Piece). (piece.word.name, piece)) tops) name) (named-one IsPieceWithin (map (λ (piece : Piece). (piece.word.name, piece)) tops) name (named-pieces tops h))

  -- ---- own names and constants

  abbrev pub AreOwnWithin : List (Name × Own) → Type 0
  AreOwnWithin own = AllByRecursion (λ (entry : Name × Own). entry.1.at ≤ n) own

  pub own-within : (said : List Mention) → AreSaidWithin n said → AreOwnWithin (own_names said)
  own-within [] h = tt
  own-within (declares word what ∷ more) h = (h.0, own-within more h.1)
  own-within (binds bound var ∷ more) h = own-within more h.1
  own-within (follows bound parts ∷ more) h = own-within more h.1
  own-within (names_type word ∷ more) h = own-within more h.1
  own-within (lists_constants words ∷ more) h = own-within more h.1
  own-within (has_fields words ∷ more) h = own-within more h.1
  own-within (instantiates word args ∷ more) h = own-within more h.1

  abbrev pub AreConstantsWithin : List (Name × Constant) → Type 0
  AreConstantsWithin constants = AllByRecursion (λ (entry : Name × Constant). entry.1.at ≤ n) constants

  listed-within : (said : List Mention) → AreSaidWithin n said → AreConstantsWithin (constants_in said)
  listed-within [] h = tt
  listed-within (lists_constants words ∷ more) h =
      each_append (λ (entry : Name × Constant). entry.1.at ≤ n) (map (λ (word : Word). (word.name, record { at = word.at; names = names_of words })) words) (constants_in more)
      (each-map (WordIsWithin n) (λ (entry : Name × Constant). entry.1.at ≤ n) (λ (word : Word). (word.name, record { at = word.at; names = names_of words })) (λ word own. own) words h.0) (listed-within more h.1)
  listed-within (declares word what ∷ more) h = listed-within more h.1
  listed-within (binds bound var ∷ more) h = listed-within more h.1
  listed-within (follows bound parts ∷ more) h = listed-within more h.1
  listed-within (names_type word ∷ more) h = listed-within more h.1
  listed-within (has_fields words ∷ more) h = listed-within more h.1
  listed-within (instantiates word args ∷ more) h = listed-within more h.1

  pub constants-within : (tops : List Piece) → ArePiecesWithin tops → AreConstantsWithin (constants tops)
  constants-within tops h = each_flat_map IsPieceWithin (λ (entry : Name × Constant). entry.1.at ≤ n) (λ (piece : Piece). constants_in piece.mentions) (λ piece own. listed-within piece.mentions own.said) tops h

  -- ---- what is behind a name

  -- a name of a module, with the types that the module may name
  abbrev inside : Word → Option Body → Option (Known × Own)
  inside word None = None
  inside word (Some body) = option_map (λ own. (body.known, own)) (find_name (own_names body.mentions) word.name)

  inside-within : (word : Word) (o : Option Body) → IfSome o IsBodyWithin → IfSome (inside word o) (λ (p : Known × Own). IsKnownWithin p.0)
  inside-within word None h = tt
  inside-within word (Some body) h = by (find_name (own_names body.mentions) word.name)
    where
      by : (o : Option Own) → IfSome (option_map (λ own. (body.known, own)) o) (λ (p : Known × Own). IsKnownWithin p.0)
      by None = tt
      by (Some own) = h.known

  behind-within : (tops : List Piece) → ArePiecesWithin tops → (known : Known) → IsKnownWithin known → (what : What) (words : List Word) → WordsAreWithin n words → AreUpTo n (behind tops known what words)
  behind-within tops good known k (signal role of) words h = fields-within known k of words h
  behind-within tops good known k goal words h = none-within words h
  behind-within tops good known k (instance name) [] h = tt
  behind-within tops good known k (instance name) (word ∷ more) h =
      unwrapped-one (AreUpTo n) (option_map (λ (p : Known × Own). behind tops p.0 p.1.what more) (inside word (module_named tops name.name))) (word.at ∷ [])
      (mapped-one (λ (p : Known × Own). IsKnownWithin p.0) (AreUpTo n) (λ (p : Known × Own). behind tops p.0 p.1.what more) (λ p known. behind-within tops good p.0 known p.1.what more h.1)
      (inside word (module_named tops name.name)) (inside-within word (module_named tops name.name) (module-within tops good name.name)))
      (h.0, tt)

  -- ---- paths

  pub record IsScopeWithin (scope : Scope) : Type 0 where
    pub tops : ArePiecesWithin scope.tops
    pub constants : AreConstantsWithin scope.constants
    pub known : IsKnownWithin scope.known
    pub own : AreOwnWithin scope.own

  pub scope-within : (tops : List Piece) → ArePiecesWithin tops → (piece : Piece) → IsPieceWithin piece → IsScopeWithin (scope_of tops piece)
  scope-within tops h piece own = record { tops = h; constants = constants-within tops h; known = own.known; own = own-within piece.mentions own.said }

  pub constant-within : (scope : Scope) → IsScopeWithin scope → (name : Name) → IfSome (constant_at scope name) IsUpTo
  constant-within scope good name =
      mapped-one (λ (c : Constant). c.at ≤ n) IsUpTo (λ (c : Constant). c.at) (λ c own. own) (find_name scope.constants name) (named-one (λ (c : Constant). c.at ≤ n) scope.constants name good.constants)

  resolved-within : (scope : Scope) → IsScopeWithin scope → (own : Option Own) (value : Option ℕ) (word : Word) (more : List Word) → WordIsWithin n word → WordsAreWithin n more → AreUpTo n (resolved scope own value word more)
  resolved-within scope good None None word more h g = (h, tt)
  resolved-within scope good None (Some at) word more h g = none-within more g
  resolved-within scope good (Some own) value word more h g = by (is_before value own.at) (behind scope.tops scope.known own.what more) (behind-within scope.tops good.tops scope.known good.known own.what more g)
    where
      by : (b : Bool) (xs : List ℕ) → AreUpTo n xs → AreUpTo n (cond b (no_field more) xs)
      by true xs p = none-within more g
      by false xs p = p

  pub path-within : (scope : Scope) → IsScopeWithin scope → (bound : Option ℕ) (words : List Word) → WordsAreWithin n words → AreUpTo n (path_places scope bound words)
  path-within scope good bound [] h = tt
  path-within scope good bound (word ∷ more) h = resolved-within scope good (find_name scope.own word.name) (first_of_places bound (constant_at scope word.name)) word more h.0 h.1
