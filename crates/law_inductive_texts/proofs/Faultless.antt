-- What a text without faults of names says is fine.
use Rattle.std.proofs.Common.{◌≡◌, ℕ, List, [], ◌∷◌, ◌++◌, map, flat_map, Option, Some, None, option_map, Bool, true, false, not, ◌||◌, refl}
use Rattle.std.specs.List.{AllByRecursion}
use Rattle.std.proofs.lemmas.Bool.{not-false}
use Rattle.smv_core.specs.Types.{find_name}
use Rattle.smv_core.specs.declared.tree.Word.{Word}
use Rattle.smv_core.specs.declared.tree.Text.{Text}
use Rattle.smv_mentions.specs.Mentions.{Mention, declares, binds, follows, names_type, lists_constants, has_fields, instantiates}
use Rattle.smv_mentions.specs.Scopes.{Piece, Own, Constant, Scope, constants, constant_at, pieces, scope_of, words_of, own_names, no_field, first_of_places, resolved, path_places}
use Rattle.smv_mentions.specs.NameFaults.{is_type, later, own_at, repeated, declared_words, undeclared, formal_undeclared, doubled, doubled_in, formals_of, undeclared_in, without_main, recursive_in, miscounted_in}
use Rattle.smv_mentions.specs.FirstFault.{first_of, faults_at, faults_of_names, fault_of_size, first_fault}
use Rattle.law_designs.proofs.Faultless.{empty-both, empty-three, empty-each, no_fault-in, none-first, no_places, unplaced}
use Rattle.law_inductive_texts.specs.World.{World, IsFinePath, IsFine, AreFine}

abbrev is_there : {X : Type 0} → Option X → Bool
is_there None = false
is_there (Some x) = true

-- what is declared in a piece of a text
abbrev pub world_of : List Piece → Piece → World
world_of tops piece = record {
  is_type = λ name. is_type (find_name piece.known name);
  is_declared = λ name. is_there (find_name (own_names piece.mentions) name) || is_there (find_name (constants tops) name);
}

not-later : (o : Option ℕ) (at : ℕ) → later o at ≡ [] → o ≡ None
not-later None at e = refl
not-later (Some other) at e = absurd (cc (e))

not-there : {X : Type 0} (f : X → ℕ) (o : Option X) → option_map f o ≡ None → is_there o ≡ false
not-there f None e = refl
not-there f (Some x) e = absurd (cc (e))

none-of-both : (a b : Bool) → a ≡ false → b ≡ false → (a || b) ≡ false
none-of-both false b p q = q
none-of-both true b p q = absurd (cc (p))

nothing-behind : (more : List Word) → no_field more ≡ [] → more ≡ []
nothing-behind [] e = refl
nothing-behind (word ∷ more) e = absurd (cc (e))

module _ (tops : List Piece) (piece : Piece) where
  abbrev scope : Scope
  scope = scope_of tops piece

  abbrev w : World
  w = world_of tops piece

  path-fine : (bound : Option ℕ) (words : List Word) → path_places scope bound words ≡ [] → IsFinePath w bound words
  path-fine bound [] e = tt
  path-fine None (word ∷ more) e = by_found (find_name scope.own word.name) (find_name scope.constants word.name) e
    where
      by_found : (o : Option Own) (c : Option Constant) → resolved scope o (first_of_places None (option_map (λ (k : Constant). k.at) c)) word more ≡ [] → (is_there o || is_there c) ≡ true
      by_found None None q = absurd (cc (q))
      by_found (Some own) c q = refl
      by_found None (Some k) q = refl
  path-fine (Some at) (word ∷ more) e = by_found (find_name scope.own word.name) (find_name scope.constants word.name) e
    where
      by_found : (o : Option Own) (c : Option Constant) → resolved scope o (first_of_places (Some at) (option_map (λ (k : Constant). k.at) c)) word more ≡ [] → (is_there o || is_there c) ≡ false → more ≡ []
      by_found None None q = λ r. nothing-behind more q
      by_found (Some own) c q = λ r. absurd (cc (r))
      by_found None (Some k) q = λ r. absurd (cc (r))

  mention-fine : (m : Mention) → undeclared scope (formals_of piece) m ≡ [] → doubled scope m ≡ [] → IsFine w m
  mention-fine (declares word what) p q = tt
  mention-fine (binds bound var) p q =
      let parts = empty-three (later bound var.at) (later (constant_at scope var.name) var.at) (later (own_at scope var.name) var.at) q in (
        not-later bound var.at parts.0,
        none-of-both (is_there (find_name scope.own var.name)) (is_there (find_name scope.constants var.name)) (not-there (λ (o : Own). o.at) (find_name scope.own var.name) (not-later (own_at scope var.name) var.at parts.2))
            (not-there (λ (k : Constant). k.at) (find_name scope.constants var.name) (not-later (constant_at scope var.name) var.at parts.1)),
      )
  mention-fine (follows bound parts) p q = path-fine bound (words_of parts) p
  mention-fine (names_type word) p q = not-false (is_type (find_name scope.known word.name)) (unplaced (not (is_type (find_name scope.known word.name))) word.at p)
  mention-fine (lists_constants words) p q = tt
  mention-fine (has_fields words) p q = tt
  mention-fine (instantiates word args) p q = tt

  mentions-fine : (ms : List Mention) → AllByRecursion (λ m. undeclared scope (formals_of piece) m ≡ []) ms → AllByRecursion (λ m. doubled scope m ≡ []) ms → AreFine w ms
  mentions-fine [] p q = tt
  mentions-fine (m ∷ ms) p q = (mention-fine m p.0 q.0, mentions-fine ms p.1 q.1)

  piece-fine : undeclared_in tops piece ≡ [] → doubled_in tops piece ≡ [] → AreFine w piece.mentions
  piece-fine p q = mentions-fine piece.mentions
      (empty-each (undeclared scope (formals_of piece)) piece.mentions (empty-both (flat_map (formal_undeclared scope) (formals_of piece)) (flat_map (undeclared scope (formals_of piece)) piece.mentions) p).1)
      (empty-each (doubled scope) piece.mentions (empty-three (repeated [] (formals_of piece)) (repeated [] (declared_words piece.mentions)) (flat_map (doubled scope) piece.mentions) q).2)

pieces-both : (tops ps : List Piece) → AllByRecursion (λ piece. undeclared_in tops piece ≡ []) ps → AllByRecursion (λ piece. doubled_in tops piece ≡ []) ps → AllByRecursion (λ (piece : Piece). AreFine (world_of tops piece) piece.mentions) ps
pieces-both tops [] p q = tt
pieces-both tops (piece ∷ ps) p q = (piece-fine tops piece p.0 q.0, pieces-both tops ps p.1 q.1)

abbrev behind_eight : List Piece → List (ℕ × List ℕ)
behind_eight tops = (9, without_main tops) ∷ (10, flat_map (recursive_in tops) tops) ∷ (11, flat_map (miscounted_in tops) tops) ∷ []

abbrev behind_seven : List Piece → List (ℕ × List ℕ)
behind_seven tops = (8, repeated [] (map (λ piece. piece.word) tops) ++ flat_map (doubled_in tops) tops) ∷ behind_eight tops

-- no name of a top is declared twice, and what the tops say is fine
pub names-fine : (text : Text) → first_fault text ≡ None → (repeated [] (map (λ piece. piece.word) (pieces text)) ≡ []) × AllByRecursion (λ (piece : Piece). AreFine (world_of (pieces text) piece) piece.mentions) (pieces text)
names-fine text e =
    let tops : List Piece = pieces text in
    let none : faults_of_names text ≡ [] = no_fault-in (faults_of_names text) (none-first (first_of (faults_of_names text)) (fault_of_size text) e) in
    let seven = empty-both (faults_at (7, flat_map (undeclared_in tops) tops)) (flat_map faults_at (behind_seven tops)) none in
    let twice : List ℕ = repeated [] (map (λ piece. piece.word) tops) ++ flat_map (doubled_in tops) tops in
    let eight = empty-both (faults_at (8, twice)) (flat_map faults_at (behind_eight tops)) seven.1 in
    let apart = empty-both (repeated [] (map (λ piece. piece.word) tops)) (flat_map (doubled_in tops) tops) (no_places 8 twice eight.0) in
    (apart.0, pieces-both tops tops (empty-each (undeclared_in tops) tops (no_places 7 (flat_map (undeclared_in tops) tops) seven.0)) (empty-each (doubled_in tops) tops apart.1))
