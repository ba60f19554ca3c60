-- In a text without a fault of names no constant stands twice in an enumeration.
use Rattle.std.proofs.Common.{◌≡◌, ℕ, List, [], ◌∷◌, ◌++◌, map, Bool, true, false, not, ◌||◌, refl, sym, subst}
use Rattle.std.specs.List.{flat_map, filter, list_any}
use Rattle.std.specs.Str.{bytes_eq}
use Rattle.std.proofs.lemmas.Slice.Eq.{bytes_eq-Decides}
use Rattle.law_lists.proofs.Lists.{map-nil}
use Rattle.smv_core.specs.Values.{Name}
use Rattle.smv_core.specs.Types.{find_name, names_of}
use Rattle.smv_core.specs.Outcome.{same_path}
use Rattle.smv_core.specs.declared.tree.Word.{Word}
use Rattle.smv_mentions.specs.Mentions.{Mention, declares, instantiates, lists_constants, has_fields, names_type, binds, follows}
use Rattle.smv_mentions.specs.Scopes.{Piece, Scope, pieces, scope_of}
use Rattle.smv_mentions.specs.NameFaults.{place_if, repeated, places_of, is_of_other_list, doubled, doubled_in, declared_words, formals_of, undeclared_in, name_faults}
use Rattle.smv_mentions.specs.FirstFault.{first_of, faults_at, faults_of_names, fault_of_size}
use Rattle.law_designs.specs.Flattening.{different, enum_of}
use Rattle.law_designs.proofs.Faultless.{empty-both, no_fault-in, none-first, unplaced}
use Rattle.law_obligations.specs.Sets.{Has, first, later}
use Rattle.law_obligations.proofs.OneOfEach.{Has-from_flat_map}
use Rattle.law_obligations.proofs.Lookups.{Has-from_filter}
use Rattle.smv_problem.specs.WellFormed.{AreDistinct}
use Rattle.law_problems.specs.Fit.{ConstantsAreDistinct}
use Rattle.law_problems.proofs.FitOrders.{none-each}

-- ---- lists without a name twice

any-seen : (name : Name) (seen : List Name) → Has seen name → list_any (bytes_eq name) seen ≡ true
any-seen name [] h = elim h [ ]
any-seen name (_ ∷ seen) first = rw ((bytes_eq-Decides name name).1 refl) refl
any-seen name (other ∷ seen) (later h) = by_test (bytes_eq name other) (any-seen name seen h)
  where
    by_test : (b : Bool) → list_any (bytes_eq name) seen ≡ true → (b || list_any (bytes_eq name) seen) ≡ true
    by_test true e = refl
    by_test false e = e

-- no word has a name that was seen before
unseen : (seen : List Name) (words : List Word) → repeated seen words ≡ [] → (name : Name) → Has (names_of words) name → Has seen name → ⊥
unseen seen [] e name h k = elim h [ ]
unseen seen (word ∷ words) e _ first k =
    let no : list_any (bytes_eq word.name) seen ≡ false = unplaced (list_any (bytes_eq word.name) seen) word.at (empty-both (place_if (list_any (bytes_eq word.name) seen) word.at) (repeated (word.name ∷ seen) words) e).0 in
    let yes : list_any (bytes_eq word.name) seen ≡ true = any-seen word.name seen k in
    cc (no, yes)
unseen seen (word ∷ words) e name (later h) k = unseen (word.name ∷ seen) words (empty-both (place_if (list_any (bytes_eq word.name) seen) word.at) (repeated (word.name ∷ seen) words) e).1 name h (later k)

distinct : (seen : List Name) (words : List Word) → repeated seen words ≡ [] → AreDistinct (names_of words)
distinct seen [] e = tt
distinct seen (word ∷ words) e =
    let rest : repeated (word.name ∷ seen) words ≡ [] = (empty-both (place_if (list_any (bytes_eq word.name) seen) word.at) (repeated (word.name ∷ seen) words) e).1 in
    (λ other h same. unseen (word.name ∷ seen) words rest other h (subst (Has (word.name ∷ seen)) same first), distinct (word.name ∷ seen) words rest)

-- ---- the enumerations of a text

from-different : {X : Type 0} (same : X → X → Bool) (xs : List X) {x : X} → Has (different same xs) x → Has xs x
from-different same [] h = elim h [ ]
from-different same (y ∷ xs) first = first
from-different same (y ∷ xs) (later h) = later (from-different same xs (Has-from_filter (λ z. not (same y z)) (different same xs) h).0)

-- the words of an enumeration that is said
from-enum : (m : Mention) (list : List Name) → Has (enum_of m) list → (words : List Word) × (m ≡ lists_constants words) × (list ≡ names_of words)
from-enum (lists_constants words) _ first = (words, refl, refl)
from-enum (lists_constants words) list (later h) = elim h [ ]
from-enum (declares word what) list h = elim h [ ]
from-enum (instantiates word args) list h = elim h [ ]
from-enum (has_fields words) list h = elim h [ ]
from-enum (names_type word) list h = elim h [ ]
from-enum (binds bound var) list h = elim h [ ]
from-enum (follows bound parts) list h = elim h [ ]

in_mention : (scope : Scope) (m : Mention) → doubled scope m ≡ [] → (list : List Name) → Has (enum_of m) list → AreDistinct list
in_mention scope m e list h =
    let w = from-enum m list h in
    let in_list : doubled scope (lists_constants w.0) ≡ [] = subst (λ (m : Mention). doubled scope m ≡ []) w.1 e in
    subst AreDistinct (sym w.2) (distinct [] w.0 (empty-both (repeated [] w.0) (places_of (filter (λ word. is_of_other_list w.0 (find_name scope.constants word.name)) w.0)) in_list).0)

in_piece : (tops : List Piece) (piece : Piece) → doubled_in tops piece ≡ [] → (m : Mention) → Has piece.mentions m → (list : List Name) → Has (enum_of m) list → AreDistinct list
in_piece tops piece e m i list h =
    let declared : List ℕ = repeated [] (declared_words piece.mentions) in
    let mentioned : List ℕ = flat_map (doubled (scope_of tops piece)) piece.mentions in
    let said : mentioned ≡ [] = (empty-both (repeated [] (formals_of piece) ++ declared) mentioned e).1 in
    in_mention (scope_of tops piece) m (none-each (doubled (scope_of tops piece)) piece.mentions said i) list h

pub constants_are_distinct : ConstantsAreDistinct
constants_are_distinct text e list h =
    let tops : List Piece = pieces text in
    let none : flat_map faults_at (name_faults tops) ≡ [] = no_fault-in (faults_of_names text) (none-first (first_of (faults_of_names text)) (fault_of_size text) e) in
    let behind_seven = (empty-both (faults_at (7, flat_map (undeclared_in tops) tops)) _ none).1 in
    let eight : (repeated [] (map (λ (piece : Piece). piece.word) tops) ++ flat_map (doubled_in tops) tops) ≡ [] =
    map-nil _ (repeated [] (map (λ (piece : Piece). piece.word) tops) ++ flat_map (doubled_in tops) tops) (empty-both (faults_at (8, repeated [] (map (λ (piece : Piece). piece.word) tops) ++ flat_map (doubled_in tops) tops)) _ behind_seven).0 in
    let all_pieces : flat_map (doubled_in tops) tops ≡ [] = (empty-both (repeated [] (map (λ (piece : Piece). piece.word) tops)) (flat_map (doubled_in tops) tops) eight).1 in
    let said : Has (flat_map (λ (piece : Piece). flat_map enum_of piece.mentions) tops) list = from-different same_path (flat_map (λ (piece : Piece). flat_map enum_of piece.mentions) tops) h in
    let r = Has-from_flat_map (λ (piece : Piece). flat_map enum_of piece.mentions) tops said in
    let q = Has-from_flat_map enum_of r.0.mentions r.2 in
    in_piece tops r.0 (none-each (doubled_in tops) tops all_pieces r.1) q.0 q.1 list q.2
