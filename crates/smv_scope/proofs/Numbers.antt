-- What is known before the top of a number.
use Rattle.std.proofs.Common.{◌≡◌, ℕ, zero, suc, ◌+◌, ◌<◌, List, [], ◌∷◌, ◌++◌, map, length, take, Bool, true, false, cond, ◌&&◌, nat_lt, refl, ap, sym, ◌∙◌, arith, append_assoc}
use Rattle.std.specs.Prelude.{Option, Some, None, option_map, option_and_then, is_some, slice_get}
use Rattle.std.proofs.lemmas.List.{map-append, length-map}
use Rattle.std.proofs.lemmas.Bool.Decides.{nat_tests}
use Rattle.law_lists.proofs.Lists.{map-take}
use Rattle.law_lists.proofs.Places.{get_there}
use Rattle.smv_core.specs.Values.{Name}
use Rattle.smv_core.specs.Types.{find_name}
use Rattle.smv_core.specs.declared.tree.Word.{Word}
use Rattle.smv_core.specs.declared.tree.Text.{Text}
use Rattle.smv_core.specs.declared.tree.Top.{Top}
use Rattle.smv_core.specs.declared.tree.Top.TheVariants.{SetType, Alias, Module}
use Rattle.smv_mentions.specs.Scopes.{Known, Fields, known_after, fields_if_type, no_field}
use Rattle.smv_mentions.specs.NameFaults.{is_type}
use Rattle.name_index.specs.Position.{position}
use Rattle.name_index.proofs.Finding.{find_name-pairs, position-take, position-within}
use Rattle.smv_scope.specs.Numbered.{known_from, known_before, top_word, top_names, value_of, fields_at, is_type_top, type_number}

abbrev entry : Known → Top → Name × Option Fields
entry known top = ((top_word top).name, value_of known top)

known_after-is : (known : Known) (top : Top) → known_after known top ≡ known ++ entry known top ∷ []
known_after-is known (SetType word ordered span at) = refl
known_after-is known (Alias word of at) = refl
known_after-is known (Module word formals body at) = refl

abbrev first : Name × Option Fields → Name
first pair = pair.0

abbrev names_in : List Top → List Name
names_in tops = map (λ top. (top_word top).name) tops

-- the names that are known are those of the tops
known-names : (known : Known) (tops : List Top) → map first (known_from known tops) ≡ map first known ++ names_in tops
known-names known [] = sym (append-nil-is (map first known))
  where
    append-nil-is : (l : List Name) → l ++ [] ≡ l
    append-nil-is [] = refl
    append-nil-is (x ∷ l) = ap (λ k. x ∷ k) (append-nil-is l)
known-names known (top ∷ tops) =
    known-names (known_after known top) tops ∙ ap (λ k. map first k ++ names_in tops) (known_after-is known top) ∙ ap (λ l. l ++ names_in tops) (map-append first known (entry known top ∷ []))
    ∙ append_assoc (map first known) ((top_word top).name ∷ []) (names_in tops)

-- what was known stays known
known-front : (known : Known) (tops : List Top) (i : ℕ) (e : Name × Option Fields) → slice_get known i ≡ Some e → slice_get (known_from known tops) i ≡ Some e
known-front known [] i e h = h
known-front known (top ∷ tops) i e h =
    known-front (known_after known top) tops i e (ap (λ k. slice_get k i) (known_after-is known top) ∙ stays known i h)
  where
    stays : (l : Known) (j : ℕ) → slice_get l j ≡ Some e → slice_get (l ++ entry known top ∷ []) j ≡ Some e
    stays [] j g = cc
    stays (x ∷ l) zero g = g
    stays (x ∷ l) (suc j) g = stays l j g

last-is : (l : Known) (e : Name × Option Fields) → slice_get (l ++ e ∷ []) (length l) ≡ Some e
last-is [] e = refl
last-is (x ∷ l) e = last-is l e

long-after : (known : Known) (top : Top) → length (known_after known top) ≡ suc (length known)
long-after known top = ap length (known_after-is known top) ∙ more known
  where
    more : (l : Known) → length (l ++ entry known top ∷ []) ≡ suc (length l)
    more [] = refl
    more (x ∷ l) = ap suc (more l)

-- what a top adds to what is known before it
known-at : (known : Known) (tops : List Top) (i : ℕ) (top : Top) → slice_get tops i ≡ Some top → (j : ℕ) → j ≡ length known + i
    → slice_get (known_from known tops) j ≡ Some (entry (known_from known (take i tops)) top)
known-at known [] i top h j e = cc
known-at known (here ∷ tops) zero top h j e =
    let same : here ≡ top = cc in
    let at : j ≡ length known = omega arith in
    known-front (known_after known here) tops j _ (ap (λ k. slice_get k j) (known_after-is known here) ∙ ap (slice_get (known ++ entry known here ∷ [])) at ∙ last-is known (entry known here)) ∙ ap (λ t. Some (entry known t)) same
known-at known (here ∷ tops) (suc i) top h j e =
    let long : length (known_after known here) ≡ suc (length known) = long-after known here in
    known-at (known_after known here) tops i top h j (omega arith)

-- the front of a list
take-get : {A : Type 0} (k : ℕ) (xs : List A) (i : ℕ) → i < k → slice_get (take k xs) i ≡ slice_get xs i
take-get zero xs i h = absurd (omega arith)
take-get (suc k) [] i h = refl
take-get (suc k) (x ∷ xs) zero h = refl
take-get (suc k) (x ∷ xs) (suc i) h = take-get k xs i (omega arith)

take-take : {A : Type 0} (k : ℕ) (xs : List A) (i : ℕ) → i < k → take i (take k xs) ≡ take i xs
take-take zero xs i h = absurd (omega arith)
take-take (suc k) [] zero h = refl
take-take (suc k) [] (suc i) h = refl
take-take (suc k) (x ∷ xs) zero h = refl
take-take (suc k) (x ∷ xs) (suc i) h = ap (λ l. x ∷ l) (take-take k xs i (omega arith))

-- the value of the top of a number
abbrev pub value_at : Text → ℕ → Option (Option Fields)
value_at text i = option_map (value_of (known_before text i)) (slice_get text.tops i)

value-before : (text : Text) (k i : ℕ) (top : Top) → i < k → slice_get text.tops i ≡ Some top → option_map (λ pair. pair.1) (slice_get (known_before text k) i) ≡ value_at text i
value-before text k i top h e =
    ap (option_map (λ pair. pair.1)) (known-at [] (take k text.tops) i top (take-get k text.tops i h ∙ e) i (omega arith))
    ∙ ap (λ tops. Some (value_of (known_from [] tops) top)) (take-take k text.tops i h) ∙ ap (option_map (value_of (known_before text i))) (sym e)

abbrev at_place : Text → ℕ → ℕ → Option (Option Fields)
at_place text k i = option_map (λ pair. pair.1) (slice_get (known_before text k) i)

top-within : (text : Text) (i : ℕ) → i < length (top_names text) → (top : Top) × (slice_get text.tops i ≡ Some top)
top-within text i h = get_there text.tops i (simp length-map at h)

known-place : (text : Text) (k : ℕ) (o : Option ℕ) → ((i : ℕ) → o ≡ Some i → i < length (top_names text))
    → option_and_then (at_place text k) (option_and_then (λ i. cond (nat_lt i k) (Some i) None) o) ≡ option_and_then (λ i. cond (nat_lt i k) (value_at text i) None) o
known-place text k None h = refl
known-place text k (Some i) h = by (nat_lt i k) (λ e. grind (arith, nat_tests))
  where
    by : (b : Bool) → (b ≡ true → i < k) → option_and_then (at_place text k) (cond b (Some i) None) ≡ cond b (value_at text i) None
    by true below = let w : (top : Top) × (slice_get text.tops i ≡ Some top) = top-within text i (h i refl) in value-before text k i w.0 (below refl) w.1
    by false below = refl

-- what is known of a name before the top of a number
pub known-named : (text : Text) (k : ℕ) (name : Name)
    → find_name (known_before text k) name ≡ option_and_then (λ i. cond (nat_lt i k) (value_at text i) None) (position (top_names text) name)
known-named text k name =
    find_name-pairs (known_before text k) name
    ∙ ap (λ names. option_and_then (at_place text k) (position names name)) (known-names [] (take k text.tops) ∙ map-take (λ top. (top_word top).name) k text.tops)
    ∙ ap (option_and_then (at_place text k)) (position-take k (top_names text) name)
    ∙ known-place text k (position (top_names text) name) (position-within (top_names text) name)

-- what is wrong with field names behind the type of a number or behind none
abbrev pub fields_of_number : Text → Option ℕ → Fields
fields_of_number text None words = no_field words
fields_of_number text (Some i) words = fields_at text i words

abbrev number_of : ℕ → ℕ → Option Top → Option ℕ
number_of k i o = cond (nat_lt i k && is_type_top o) (Some i) None

-- a name stands for the type of its number
pub named-fields : (text : Text) (k : ℕ) (name : Name) (words : List Word) → fields_if_type (find_name (known_before text k) name) words ≡ fields_of_number text (type_number text k name) words
named-fields text k name words = ap (λ o. fields_if_type o words) (known-named text k name) ∙ by (position (top_names text) name)
  where
    top : (i : ℕ) (b : Bool) (o : Option Top) → slice_get text.tops i ≡ o
        → fields_if_type (cond b (option_map (value_of (known_before text i)) o) None) words ≡ fields_of_number text (cond (b && is_type_top o) (Some i) None) words
    top i false o e = refl
    top i true None e = refl
    top i true (Some (SetType word ordered span at)) e = ap (λ o. fields_if_type (option_map (value_of (known_before text i)) o) words) (sym e)
    top i true (Some (Alias word of at)) e = ap (λ o. fields_if_type (option_map (value_of (known_before text i)) o) words) (sym e)
    top i true (Some (Module word formals body at)) e = refl

    by : (o : Option ℕ) → fields_if_type (option_and_then (λ i. cond (nat_lt i k) (value_at text i) None) o) words
        ≡ fields_of_number text (option_and_then (λ i. cond (nat_lt i k && is_type_top (slice_get text.tops i)) (Some i) None) o) words
    by None = refl
    by (Some i) = top i (nat_lt i k) (slice_get text.tops i) refl

-- a name is that of a type where the type has a number
pub named-type : (text : Text) (k : ℕ) (name : Name) → is_type (find_name (known_before text k) name) ≡ is_some (type_number text k name)
named-type text k name = ap is_type (known-named text k name) ∙ by (position (top_names text) name)
  where
    top : (i : ℕ) (b : Bool) (o : Option Top) → is_type (cond b (option_map (value_of (known_before text i)) o) None) ≡ is_some (cond (b && is_type_top o) (Some i) None)
    top i false o = refl
    top i true None = refl
    top i true (Some (SetType word ordered span at)) = refl
    top i true (Some (Alias word of at)) = refl
    top i true (Some (Module word formals body at)) = refl

    by : (o : Option ℕ) → is_type (option_and_then (λ i. cond (nat_lt i k) (value_at text i) None) o)
        ≡ is_some (option_and_then (λ i. cond (nat_lt i k && is_type_top (slice_get text.tops i)) (Some i) None) o)
    by None = refl
    by (Some i) = top i (nat_lt i k) (slice_get text.tops i)

-- a type's number is below, and that of a top
pub number-within : (text : Text) (k : ℕ) (name : Name) (number : Option ℕ) (found : ℕ) → number ≡ type_number text k name → number ≡ Some found → (found < k) × (found < length text.tops)
number-within text k name number found same some = by (position (top_names text) name) (position-within (top_names text) name) (sym same ∙ some)
  where
    test : (i : ℕ) (b c : Bool) → (b ≡ true → i < k) → i < length (top_names text) → cond (b && c) (Some i) None ≡ Some found → (found < k) × (found < length text.tops)
    test i true true below long e =
        let s : i ≡ found = cc in
        let b : i < k = below refl in
        let l : i < length text.tops = simp length-map at long in
        (omega arith, omega arith)
    test i true false below long e = cc
    test i false c below long e = cc

    by : (o : Option ℕ) → ((i : ℕ) → o ≡ Some i → i < length (top_names text)) → option_and_then (λ i. cond (nat_lt i k && is_type_top (slice_get text.tops i)) (Some i) None) o ≡ Some found
        → (found < k) × (found < length text.tops)
    by None h e = cc
    by (Some i) h e = test i (nat_lt i k) (is_type_top (slice_get text.tops i)) (λ b. grind (arith, nat_tests)) (h i refl) e

pub ruleset numbered = (named-type)
