-- The first fault of names and size stands at a place of the tree.
use Rattle.std.proofs.Common.{◌≡◌, ◌≤◌, ℕ, Bool, true, false, not, ◌&&◌, cond, List, [], ◌∷◌, ◌++◌, map, filter, length, Option, Some, None, IfSome, nat_eq, is_none, refl, arith}
use Rattle.std.specs.Str.{bytes_eq}
use Rattle.std.specs.List.{AllByRecursion, flat_map, list_any}
use Rattle.law_lists.proofs.Each.{each_flat_map, each_filter, each_append}
use Rattle.smv_core.specs.Values.{Name}
use Rattle.smv_core.specs.Types.{find_name}
use Rattle.smv_core.specs.FlatOrder.{main}
use Rattle.smv_core.specs.declared.tree.Word.{Word}
use Rattle.smv_core.specs.declared.tree.Text.{Text}
use Rattle.smv_mentions.specs.Mentions.{Mention, declares, binds, follows, names_type, lists_constants, has_fields, instantiates}
use Rattle.smv_mentions.specs.Scopes.{Piece, pieces, Scope, Own, scope_of, has_name, module_named, constant_at, words_of}
use Rattle.smv_mentions.specs.NameFaults.{place_if, is_type, is_port, is_port_if_own, undeclared, formal_undeclared, repeated, later, own_at, is_of_other_list, places_of, doubled, declared_words, contains, recursive, takes_other, miscounted, formals_of, undeclared_in, doubled_in, recursive_in, miscounted_in, name_faults}
use Rattle.smv_mentions.specs.Sizes.{is_too_large}
use Rattle.smv_mentions.specs.FirstFault.{first_of, faults_of_names, fault_at_main, fault_of_size, first_fault}
use Rattle.law_designs.proofs.Faultless.{each-map}
use Rattle.law_fault_places.specs.TreePlaces.{WordIsWithin, WordsAreWithin, TextIsWithin}
use Rattle.law_fault_places.specs.FaultPlaces.{IsFaultOf}
use Rattle.law_fault_places.proofs.Firsts.{first-one, either-one, AreUpTo, lists-placed, placed-if, named-one, mapped-one, unwrapped-one}
use Rattle.law_fault_places.specs.NameFaultPlaces.{numbers_of_names}
use Rattle.law_fault_places.proofs.Said.{MentionIsWithin, AreSaidWithin}
use Rattle.law_fault_places.proofs.Scopes.{IsUpTo, IsPieceWithin, ArePiecesWithin, pieces-within, named-pieces, IsScopeWithin, scope-within, constant-within, path-within}

module _ (n : ℕ) where
  both : (xs ys : List ℕ) → AreUpTo n xs → AreUpTo n ys → AreUpTo n (xs ++ ys)
  both xs ys h g = each_append (IsUpTo n) xs ys h g

  -- ---- fault 7

  undeclared-within : (scope : Scope) → IsScopeWithin n scope → (formals : List Word) (m : Mention) → MentionIsWithin n m → AreUpTo n (undeclared scope formals m)
  undeclared-within scope good formals (names_type word) h = placed-if n (not (is_type (find_name scope.known word.name))) word.at h
  undeclared-within scope good formals (instantiates word args) h = placed-if n (is_none (module_named scope.tops word.name)) word.at h
  undeclared-within scope good formals (follows bound parts) h = path-within n scope good bound (words_of parts) h.1
  undeclared-within scope good formals (declares word what) h = placed-if n (is_port what && not (has_name formals word.name)) word.at h
  undeclared-within scope good formals (binds bound var) h = tt
  undeclared-within scope good formals (lists_constants words) h = tt
  undeclared-within scope good formals (has_fields words) h = tt

  formal-within : (scope : Scope) (word : Word) → WordIsWithin n word → AreUpTo n (formal_undeclared scope word)
  formal-within scope word h = placed-if n (not (is_port_if_own (find_name scope.own word.name))) word.at h

  -- ---- fault 8

  repeated-within : (seen : List Name) (words : List Word) → WordsAreWithin n words → AreUpTo n (repeated seen words)
  repeated-within seen [] h = tt
  repeated-within seen (word ∷ more) h =
      both (place_if (list_any (bytes_eq word.name) seen) word.at) (repeated (word.name ∷ seen) more) (placed-if n (list_any (bytes_eq word.name) seen) word.at h.0) (repeated-within (word.name ∷ seen) more h.1)

  later-within : (o : Option ℕ) (at : ℕ) → IfSome o (IsUpTo n) → at ≤ n → AreUpTo n (later o at)
  later-within None at h g = tt
  later-within (Some other) at h g = (omega (arith, h, g), tt)

  own_at-within : (scope : Scope) → IsScopeWithin n scope → (name : Name) → IfSome (own_at scope name) (IsUpTo n)
  own_at-within scope good name = mapped-one (λ (own : Own). own.at ≤ n) (IsUpTo n) (λ (own : Own). own.at) (λ own h. h) (find_name scope.own name) (named-one (λ (own : Own). own.at ≤ n) scope.own name good.own)

  doubled-within : (scope : Scope) → IsScopeWithin n scope → (m : Mention) → MentionIsWithin n m → AreUpTo n (doubled scope m)
  doubled-within scope good (has_fields words) h = repeated-within [] words h
  doubled-within scope good (lists_constants words) h =
      let test = λ (word : Word). is_of_other_list words (find_name scope.constants word.name) in
      both (repeated [] words) (places_of (filter test words)) (repeated-within [] words h) (each-map (WordIsWithin n) (IsUpTo n) (λ (word : Word). word.at) (λ word own. own) (filter test words) (each_filter (WordIsWithin n) test words h))
  doubled-within scope good (declares word what) h = later-within (constant_at scope word.name) word.at (constant-within n scope good word.name) h
  doubled-within scope good (binds bound var) h =
      both ((later bound var.at) ++ (later (constant_at scope var.name) var.at)) (later (own_at scope var.name) var.at)
      (both (later bound var.at) (later (constant_at scope var.name) var.at) (later-within bound var.at h.0 h.1) (later-within (constant_at scope var.name) var.at (constant-within n scope good var.name) h.1)) (later-within (own_at scope var.name) var.at (own_at-within scope good var.name) h.1)
  doubled-within scope good (follows bound parts) h = tt
  doubled-within scope good (names_type word) h = tt
  doubled-within scope good (instantiates word args) h = tt

  declared-within : (said : List Mention) → AreSaidWithin n said → WordsAreWithin n (declared_words said)
  declared-within [] h = tt
  declared-within (declares word what ∷ more) h = (h.0, declared-within more h.1)
  declared-within (binds bound var ∷ more) h = declared-within more h.1
  declared-within (follows bound parts ∷ more) h = declared-within more h.1
  declared-within (names_type word ∷ more) h = declared-within more h.1
  declared-within (lists_constants words ∷ more) h = declared-within more h.1
  declared-within (has_fields words ∷ more) h = declared-within more h.1
  declared-within (instantiates word args ∷ more) h = declared-within more h.1

  -- ---- faults 10 and 11

  recursive-within : (tops : List Piece) (name : Name) (m : Mention) → MentionIsWithin n m → AreUpTo n (recursive tops name m)
  recursive-within tops name (instantiates word args) h = placed-if n (contains tops (length tops) name word.name) word.at h
  recursive-within tops name (declares word what) h = tt
  recursive-within tops name (binds bound var) h = tt
  recursive-within tops name (follows bound parts) h = tt
  recursive-within tops name (names_type word) h = tt
  recursive-within tops name (lists_constants words) h = tt
  recursive-within tops name (has_fields words) h = tt

  miscounted-within : (tops : List Piece) (m : Mention) → MentionIsWithin n m → AreUpTo n (miscounted tops m)
  miscounted-within tops (instantiates word args) h = placed-if n (takes_other args (module_named tops word.name)) word.at h
  miscounted-within tops (declares word what) h = tt
  miscounted-within tops (binds bound var) h = tt
  miscounted-within tops (follows bound parts) h = tt
  miscounted-within tops (names_type word) h = tt
  miscounted-within tops (lists_constants words) h = tt
  miscounted-within tops (has_fields words) h = tt

  -- ---- the pieces

  module _ (tops : List Piece) (good : ArePiecesWithin n tops) where
    formals-of : (piece : Piece) → IsPieceWithin n piece → WordsAreWithin n (formals_of piece)
    formals-of piece own = unwrapped-one (WordsAreWithin n) piece.formals [] own.formals tt

    undeclared-in : (piece : Piece) → IsPieceWithin n piece → AreUpTo n (undeclared_in tops piece)
    undeclared-in piece own =
        let scope = scope_of tops piece in
        let inside = scope-within n tops good piece own in
        both (flat_map (formal_undeclared scope) (formals_of piece)) (flat_map (undeclared scope (formals_of piece)) piece.mentions)
        (each_flat_map (WordIsWithin n) (IsUpTo n) (formal_undeclared scope) (formal-within scope) (formals_of piece) (formals-of piece own))
        (each_flat_map (MentionIsWithin n) (IsUpTo n) (undeclared scope (formals_of piece)) (undeclared-within scope inside (formals_of piece)) piece.mentions own.said)

    doubled-in : (piece : Piece) → IsPieceWithin n piece → AreUpTo n (doubled_in tops piece)
    doubled-in piece own =
        let scope = scope_of tops piece in
        let inside = scope-within n tops good piece own in
        both ((repeated [] (formals_of piece)) ++ (repeated [] (declared_words piece.mentions))) (flat_map (doubled scope) piece.mentions)
        (both (repeated [] (formals_of piece)) (repeated [] (declared_words piece.mentions)) (repeated-within [] (formals_of piece) (formals-of piece own)) (repeated-within [] (declared_words piece.mentions) (declared-within piece.mentions own.said))) (each_flat_map (MentionIsWithin n) (IsUpTo n) (doubled scope) (doubled-within scope inside) piece.mentions own.said)

    recursive-in : (piece : Piece) → IsPieceWithin n piece → AreUpTo n (recursive_in tops piece)
    recursive-in piece own = each_flat_map (MentionIsWithin n) (IsUpTo n) (recursive tops piece.word.name) (recursive-within tops piece.word.name) piece.mentions own.said

    miscounted-in : (piece : Piece) → IsPieceWithin n piece → AreUpTo n (miscounted_in tops piece)
    miscounted-in piece own = each_flat_map (MentionIsWithin n) (IsUpTo n) (miscounted tops) (miscounted-within tops) piece.mentions own.said

    all-within : AllByRecursion (λ (p : ℕ × List ℕ). (list_any (nat_eq p.0) numbers_of_names ≡ true) × AreUpTo n p.1) (name_faults tops)
    all-within = (
      (refl, each_flat_map (IsPieceWithin n) (IsUpTo n) (undeclared_in tops) undeclared-in tops good),
      (
        (
          refl,
          both (repeated [] (map (λ (piece : Piece). piece.word) tops)) (flat_map (doubled_in tops) tops)
              (repeated-within [] (map (λ (piece : Piece). piece.word) tops) (each-map (IsPieceWithin n) (WordIsWithin n) (λ (piece : Piece). piece.word) (λ piece own. own.word) tops good))
              (each_flat_map (IsPieceWithin n) (IsUpTo n) (doubled_in tops) doubled-in tops good),
        ),
        (
          (refl, placed-if n (is_none (module_named tops main)) 0 (omega arith)),
          (
            (refl, each_flat_map (IsPieceWithin n) (IsUpTo n) (recursive_in tops) recursive-in tops good),
            ((refl, each_flat_map (IsPieceWithin n) (IsUpTo n) (miscounted_in tops) miscounted-in tops good), tt),
          ),
        ),
      ),
    )

  -- ---- the size

  main-within : (o : Option Piece) → IfSome o (IsPieceWithin n) → IfSome (fault_at_main o) (IsFaultOf numbers_of_names n)
  main-within None h = tt
  main-within (Some piece) h = record { number = refl; place = h.word }

  size-within : (text : Text) → TextIsWithin n text → IfSome (fault_of_size text) (IsFaultOf numbers_of_names n)
  size-within text h = by (is_too_large text)
    where
      by : (b : Bool) → IfSome (cond b (fault_at_main (find_name (map (λ (piece : Piece). (piece.word.name, piece)) (pieces text)) main)) None) (IsFaultOf numbers_of_names n)
      by true =
          main-within (find_name (map (λ (piece : Piece). (piece.word.name, piece)) (pieces text)) main)
          (named-one (IsPieceWithin n) (map (λ (piece : Piece). (piece.word.name, piece)) (pieces text)) main (named-pieces n (pieces text) (pieces-within n text h)))
      by false = tt

  pub first-within : (text : Text) → TextIsWithin n text → IfSome (first_fault text) (IsFaultOf numbers_of_names n)
  first-within text h =
      either-one (IsFaultOf numbers_of_names n) (first_of (faults_of_names text)) (fault_of_size text)
      (first-one (IsFaultOf numbers_of_names n) (faults_of_names text) (lists-placed numbers_of_names n (name_faults (pieces text)) (all-within (pieces text) (pieces-within n text h)))) (size-within text h)
