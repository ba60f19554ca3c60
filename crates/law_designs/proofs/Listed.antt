-- Where no name has a fault, a list of constants is the one to which its first constant belongs.
use Rattle.std.proofs.Common.{◌≡◌, ℕ, List, [], ◌∷◌, ◌++◌, map, flat_map, filter, Option, Some, None, option_map, IfSome, Bool, true, false, cond, not, refl}
use Rattle.std.specs.List.{AllByRecursion}
use Rattle.std.proofs.lemmas.Bool.{not-false}
use Rattle.law_lists.proofs.Each.{each_weaker}
use Rattle.smv_core.specs.Values.{Name}
use Rattle.smv_core.specs.Types.{find_name, names_of}
use Rattle.smv_core.specs.Outcome.{same_path}
use Rattle.smv_core.specs.declared.tree.Word.{Word}
use Rattle.smv_core.specs.declared.tree.Text.{Text}
use Rattle.smv_mentions.specs.Mentions.{Mention, declares, binds, follows, names_type, lists_constants, has_fields, instantiates}
use Rattle.smv_mentions.specs.Scopes.{Piece, Constant, Scope, constants, pieces, scope_of}
use Rattle.smv_mentions.specs.NameFaults.{is_of_other_list, places_of, repeated, declared_words, doubled, doubled_in, formals_of, undeclared_in, without_main, recursive_in, miscounted_in}
use Rattle.smv_mentions.specs.FirstFault.{first_of, faults_at, faults_of_names, fault_of_size, first_fault}
use Rattle.law_designs.specs.Kinds.{enumeration}
use Rattle.law_designs.proofs.TypeNumbers.{paths-decide}
use Rattle.law_designs.proofs.Faultless.{empty-both, empty-three, empty-each, no_fault-in, none-first, no_places}
use Rattle.law_designs.specs.Owned.{IsOwned}

-- the list is the one to which its first constant belongs, where constants are listed
abbrev pub IsFine : List (Name × Constant) → Mention → Type 0
IsFine constants (lists_constants words) = IsOwned constants (enumeration (names_of words))
IsFine constants _ = Unit {0}

-- the first of some words is not left over
first-left : (p : Word → Bool) (word : Word) (words : List Word) → places_of (filter p (word ∷ words)) ≡ [] → p word ≡ false
first-left p word words e = by_test (p word) e
  where
    by_test : (b : Bool) → places_of (cond b (word ∷ filter p words) (filter p words)) ≡ [] → b ≡ false
    by_test true e = absurd (cc (e))
    by_test false e = refl

own-list : (all : List (Name × Constant)) (word : Word) (words : List Word) → is_of_other_list (word ∷ words) (find_name all word.name) ≡ false → IsOwned all (enumeration (names_of (word ∷ words)))
own-list all word words e = by_found (find_name all word.name) e
  where
    by_found : (o : Option Constant) → is_of_other_list (word ∷ words) o ≡ false → IfSome (option_map (λ (c : Constant). c.names) o) (λ list. list ≡ names_of (word ∷ words))
    by_found None e = tt
    by_found (Some c) e = (paths-decide c.names (names_of (word ∷ words))).0 (not-false (same_path c.names (names_of (word ∷ words))) e)

list-fine : (scope : Scope) (words : List Word) → doubled scope (lists_constants words) ≡ [] → IsOwned scope.constants (enumeration (names_of words))
list-fine scope [] h = tt
list-fine scope (word ∷ words) h =
    let p : Word → Bool = λ w. is_of_other_list (word ∷ words) (find_name scope.constants w.name) in
    own-list scope.constants word words (first-left p word words (empty-both (repeated [] (word ∷ words)) (places_of (filter p (word ∷ words))) h).1)

mention-fine : (scope : Scope) (m : Mention) → doubled scope m ≡ [] → IsFine scope.constants m
mention-fine scope (lists_constants words) h = list-fine scope words h
mention-fine scope (binds bound var) h = tt
mention-fine scope (declares word what) h = tt
mention-fine scope (follows o parts) h = tt
mention-fine scope (names_type word) h = tt
mention-fine scope (has_fields words) h = tt
mention-fine scope (instantiates word args) h = tt

piece-fine : (tops : List Piece) (piece : Piece) → doubled_in tops piece ≡ [] → AllByRecursion (IsFine (constants tops)) piece.mentions
piece-fine tops piece h =
    let scope = scope_of tops piece in
    let all = empty-three (repeated [] (formals_of piece)) (repeated [] (declared_words piece.mentions)) (flat_map (doubled scope) piece.mentions) h in
    each_weaker (λ m. doubled scope m ≡ []) (IsFine scope.constants) (mention-fine scope) piece.mentions (empty-each (doubled scope) piece.mentions all.2)

abbrev behind_eight : List Piece → List (ℕ × List ℕ)
behind_eight tops = (9, without_main tops) ∷ (10, flat_map (recursive_in tops) tops) ∷ (11, flat_map (miscounted_in tops) tops) ∷ []

abbrev behind_seven : List Piece → List (ℕ × List ℕ)
behind_seven tops = (8, repeated [] (map (λ piece. piece.word) tops) ++ flat_map (doubled_in tops) tops) ∷ behind_eight tops

-- all that the tops of a text list
pub pieces-fine : (text : Text) → first_fault text ≡ None → AllByRecursion (λ (piece : Piece). AllByRecursion (IsFine (constants (pieces text))) piece.mentions) (pieces text)
pieces-fine text names =
    let tops : List Piece = pieces text in
    let none : faults_of_names text ≡ [] = no_fault-in (faults_of_names text) (none-first (first_of (faults_of_names text)) (fault_of_size text) names) in
    let seven = empty-both (faults_at (7, flat_map (undeclared_in tops) tops)) (flat_map faults_at (behind_seven tops)) none in
    let twice : List ℕ = repeated [] (map (λ piece. piece.word) tops) ++ flat_map (doubled_in tops) tops in
    let eight = empty-both (faults_at (8, twice)) (flat_map faults_at (behind_eight tops)) seven.1 in
    let apart : AllByRecursion (λ piece. doubled_in tops piece ≡ []) tops = empty-each (doubled_in tops) tops (empty-both (repeated [] (map (λ piece. piece.word) tops)) (flat_map (doubled_in tops) tops) (no_places 8 twice eight.0)).1 in
    each_weaker (λ piece. doubled_in tops piece ≡ []) (λ (piece : Piece). AllByRecursion (IsFine (constants tops)) piece.mentions) (piece-fine tops) tops apart
