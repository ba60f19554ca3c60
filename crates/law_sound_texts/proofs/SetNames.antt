-- In a text without a fault of names no two set types have one name.
use Rattle.std.proofs.Common.{◌≡◌, List, [], ◌∷◌, ◌++◌, map, None, Bool, true, false, ◌||◌, refl, subst, ◌∙◌}
use Rattle.std.specs.List.{flat_map, list_any}
use Rattle.std.specs.Str.{bytes_eq}
use Rattle.std.proofs.lemmas.Slice.Eq.{bytes_eq-Decides}
use Rattle.law_lists.proofs.Lists.{map-nil}
use Rattle.smv_core.specs.Values.{Name}
use Rattle.smv_core.specs.declared.flat.SetInfo.{SetInfo}
use Rattle.smv_core.specs.declared.tree.Word.{Word}
use Rattle.smv_core.specs.declared.tree.Text.{Text}
use Rattle.smv_core.specs.declared.tree.Top.{Top}
use Rattle.smv_core.specs.declared.tree.Top.TheVariants.{SetType, Alias, Module}
use Rattle.smv_mentions.specs.Scopes.{Known, Piece, known_after, pieces, pieces_from}
use Rattle.smv_mentions.specs.NameFaults.{place_if, repeated, doubled_in, undeclared_in, name_faults}
use Rattle.smv_mentions.specs.FirstFault.{first_of, faults_at, faults_of_names, fault_of_size, first_fault}
use Rattle.law_designs.specs.Flattening.{set_of, flatten}
use Rattle.law_designs.proofs.Faultless.{no_fault-in, unplaced, none-first}
use Rattle.law_obligations.specs.Sets.{Has, first, later}
use Rattle.law_obligations.specs.Covers.{AreApart}
use Rattle.law_flat_kinds.proofs.NoFaults.{nil-left, nil-right}

-- the tops of such a text have names of their own
abbrev words_of : List Piece → List Word
words_of ps = map (λ (piece : Piece). piece.word) ps

none-repeated : (text : Text) → first_fault text ≡ None → repeated [] (words_of (pieces text)) ≡ []
none-repeated text e =
    let tops : List Piece = pieces text in
    let none : flat_map faults_at (name_faults tops) ≡ [] = no_fault-in (faults_of_names text) (none-first (first_of (faults_of_names text)) (fault_of_size text) e) in
    let behind_seven = nil-right (faults_at (7, flat_map (undeclared_in tops) tops)) _ none in
    nil-left (repeated [] (words_of tops)) (flat_map (doubled_in tops) tops) (map-nil _ (repeated [] (words_of tops) ++ flat_map (doubled_in tops) tops) (nil-left (faults_at (8, repeated [] (words_of tops) ++ flat_map (doubled_in tops) tops)) _ behind_seven))

any-seen : (name : Name) (seen : List Name) → Has seen name → list_any (bytes_eq name) seen ≡ true
any-seen name [] h = elim h [ ]
any-seen name (_ ∷ seen) first = rw ((bytes_eq-Decides name name).1 refl) refl
any-seen name (other ∷ seen) (later h) = by_test (bytes_eq name other) (any-seen name seen h)
  where
    by_test : (b : Bool) → list_any (bytes_eq name) seen ≡ true → (b || list_any (bytes_eq name) seen) ≡ true
    by_test true e = refl
    by_test false e = e

-- no word has a name that was seen before
unseen : (seen : List Name) (words : List Word) → repeated seen words ≡ [] → (word : Word) → Has words word → (name : Name) → Has seen name → name ≡ word.name → ⊥
unseen seen [] e word h name k same = elim h [ ]
unseen seen (word ∷ words) e _ first name k same =
    let no : list_any (bytes_eq word.name) seen ≡ false = unplaced (list_any (bytes_eq word.name) seen) word.at (nil-left (place_if (list_any (bytes_eq word.name) seen) word.at) (repeated (word.name ∷ seen) words) e) in
    let yes : list_any (bytes_eq word.name) seen ≡ true = any-seen word.name seen (subst (Has seen) same k) in
    cc (no, yes)
unseen seen (other ∷ words) e word (later h) name k same = unseen (other.name ∷ seen) words (nil-right (place_if (list_any (bytes_eq other.name) seen) other.at) (repeated (other.name ∷ seen) words) e) word h name (later k) same

-- each set type has the name of a top
abbrev AreNamed : List SetInfo → List Word → Type 0
AreNamed sets words = (info : SetInfo) → Has sets info → (word : Word) × Has words word × (info.name ≡ word.name)

one_more : (sets : List SetInfo) (words : List Word) (word : Word) → AreNamed sets words → AreNamed sets (word ∷ words)
one_more sets words word h info k = let r = h info k in (r.0, later r.1, r.2)

sets-apart : (known : Known) (seen : List Name) (tops : List Top) → repeated seen (words_of (pieces_from known tops)) ≡ [] → AreApart (flat_map set_of tops) × AreNamed (flat_map set_of tops) (words_of (pieces_from known tops))
sets-apart known seen [] e = (tt, λ info h. elim h [ ])
sets-apart known seen (SetType word ordered span at ∷ tops) e =
    let after : Known = known_after known (SetType word ordered span at) in
    let words : List Word = words_of (pieces_from after tops) in
    let behind : repeated (word.name ∷ seen) words ≡ [] = nil-right (place_if (list_any (bytes_eq word.name) seen) word.at) (repeated (word.name ∷ seen) words) e in
    let rest : AreApart (flat_map set_of tops) × AreNamed (flat_map set_of tops) words = sets-apart after (word.name ∷ seen) tops behind in
    ((λ other h same. let r = rest.1 other h in unseen (word.name ∷ seen) words behind r.0 r.1 word.name first (same ∙ r.2), rest.0), λ info h. at_one info h rest.1)
  where
    at_one : (info : SetInfo) → Has (set_of (SetType word ordered span at) ++ flat_map set_of tops) info → AreNamed (flat_map set_of tops) (words_of (pieces_from (known_after known (SetType word ordered span at)) tops)) →
        (w : Word) × Has (word ∷ words_of (pieces_from (known_after known (SetType word ordered span at)) tops)) w × (info.name ≡ w.name)
    at_one _ first rest = (word, first, refl)
    at_one info (later h) rest = let r = rest info h in (r.0, later r.1, r.2)
sets-apart known seen (Alias word of at ∷ tops) e =
    let after : Known = known_after known (Alias word of at) in
    let words : List Word = words_of (pieces_from after tops) in
    let rest = sets-apart after (word.name ∷ seen) tops (nil-right (place_if (list_any (bytes_eq word.name) seen) word.at) (repeated (word.name ∷ seen) words) e) in
    (rest.0, one_more (flat_map set_of tops) words word rest.1)
sets-apart known seen (Module word formals body at ∷ tops) e =
    let after : Known = known_after known (Module word formals body at) in
    let words : List Word = words_of (pieces_from after tops) in
    let rest = sets-apart after (word.name ∷ seen) tops (nil-right (place_if (list_any (bytes_eq word.name) seen) word.at) (repeated (word.name ∷ seen) words) e) in
    (rest.0, one_more (flat_map set_of tops) words word rest.1)

pub text-apart : (text : Text) → first_fault text ≡ None → AreApart (flatten text).sets
text-apart text e = (sets-apart [] [] text.tops (none-repeated text e)).0
