-- A text has no more enumerations, and none of them more constants, than there are different constants.
use Rattle.std.proofs.Common.{◌≡◌, ◌≤◌, ◌+◌, suc, List, [], ◌∷◌, ◌++◌, map, filter, length, Option, Some, None, Bool, true, false, not, cond, ◌||◌, nat_lt, refl, sym, ap, ◌∙◌, subst, arith}
use Rattle.std.specs.Str.{bytes_eq}
use Rattle.std.specs.List.{AllByRecursion, flat_map, list_any, list_all}
use Rattle.std.proofs.lemmas.List.{length-map, map-append}
use Rattle.std.proofs.lemmas.Slice.Eq.{bytes_eq-Decides}
use Rattle.std.proofs.lemmas.Bool.{or_from, or_parts, and_parts}
use Rattle.law_obligations.proofs.Facts.{not_named}
use Rattle.law_lists.proofs.Each.{each_filter, each_append, each_weaker}
use Rattle.law_lists.proofs.Lists.{map-nil}
use Rattle.smv_core.specs.Values.{Name}
use Rattle.smv_core.specs.Types.{find_name, names_of}
use Rattle.smv_core.specs.Outcome.{same_path}
use Rattle.smv_core.specs.declared.tree.Word.{Word}
use Rattle.smv_core.specs.declared.tree.Text.{Text}
use Rattle.smv_mentions.specs.Mentions.{Mention, declares, binds, follows, names_type, lists_constants, has_fields, instantiates}
use Rattle.smv_mentions.specs.Scopes.{Constant, Piece, constants, constants_in, pieces, scope_of}
use Rattle.smv_mentions.specs.NameFaults.{place_if, places_of, repeated, is_of_other_list, doubled, declared_words, formals_of, doubled_in}
use Rattle.smv_mentions.specs.FirstFault.{first_fault}
use Rattle.smv_mentions.specs.Sizes.{count_different, constant_names}
use Rattle.law_designs.specs.Flattening.{different, enum_of, flatten}
use Rattle.law_designs.proofs.TypeNumbers.{paths-decide}
use Rattle.law_designs.proofs.Faultless.{empty-both, empty-each, unplaced}
use Rattle.law_sound_texts.proofs.Limits.{none-named, within-limits}

-- ---- names in lists

abbrev IsIn : List Name → Name → Type 0
IsIn names name = list_any (bytes_eq name) names ≡ true

abbrev IsOut : List Name → Name → Type 0
IsOut names name = list_any (bytes_eq name) names ≡ false

-- no name stands twice
abbrev AreOnce : List Name → Type 0
AreOnce [] = Unit {0}
AreOnce (x ∷ xs) = IsOut xs x × AreOnce xs

same-is : (x y : Name) → bytes_eq x y ≡ true → x ≡ y
same-is x y = (bytes_eq-Decides x y).0

is-same : (x y : Name) → x ≡ y → bytes_eq x y ≡ true
is-same x y = (bytes_eq-Decides x y).1

-- in a list, where it is not the first
in-rest : (a b : Bool) → (a || b) ≡ true → a ≡ false → b ≡ true
in-rest true b e h = absurd (cc (h))
in-rest false b e h = e

-- ---- different names are no more than there are

abbrev without : Name → List Name → List Name
without y xs = filter (λ x. not (bytes_eq x y)) xs

without-each : (P Q : Name → Type 0) (y : Name) → ((x : Name) → bytes_eq x y ≡ false → P x → Q x) → (xs : List Name) → AllByRecursion P xs → AllByRecursion Q (without y xs)
without-each P Q y h [] k = tt
without-each P Q y h (x ∷ xs) k = by_test (bytes_eq x y) refl (without-each P Q y h xs k.1)
  where
    by_test : (b : Bool) → bytes_eq x y ≡ b → AllByRecursion Q (without y xs) → AllByRecursion Q (cond (not b) (x ∷ without y xs) (without y xs))
    by_test true e rest = rest
    by_test false e rest = (h x e k.0, rest)

-- what is not in a list is not in a part of it
out-of-part : (y z : Name) (xs : List Name) → IsOut xs z → IsOut (without y xs) z
out-of-part y z [] e = e
out-of-part y z (x ∷ xs) e = by_test (bytes_eq x y) (out-of-part y z xs (or_parts (bytes_eq z x) (list_any (bytes_eq z) xs) e).1)
  where
    by_test : (b : Bool) → IsOut (without y xs) z → IsOut (cond (not b) (x ∷ without y xs) (without y xs)) z
    by_test true rest = rest
    by_test false rest = or_from (bytes_eq z x) (list_any (bytes_eq z) (without y xs)) (or_parts (bytes_eq z x) (list_any (bytes_eq z) xs) e).0 rest

without-once : (y : Name) (xs : List Name) → AreOnce xs → AreOnce (without y xs)
without-once y [] h = tt
without-once y (x ∷ xs) h = by_test (bytes_eq x y) (without-once y xs h.1)
  where
    by_test : (b : Bool) → AreOnce (without y xs) → AreOnce (cond (not b) (x ∷ without y xs) (without y xs))
    by_test true rest = rest
    by_test false rest = (out-of-part y x xs h.0, rest)

-- a name that is not there is not left out
without-none : (y : Name) (xs : List Name) → IsOut xs y → length (without y xs) ≡ length xs
without-none y [] h = refl
without-none y (x ∷ xs) h =
    let g : (bytes_eq y x ≡ false) × IsOut xs y = or_parts (bytes_eq y x) (list_any (bytes_eq y) xs) h in
    by_test (bytes_eq x y) (not_named y x g.0) (without-none y xs g.1)
  where
    by_test : (b : Bool) → b ≡ false → length (without y xs) ≡ length xs → length (cond (not b) (x ∷ without y xs) (without y xs)) ≡ suc (length xs)
    by_test true e rest = absurd (cc (e))
    by_test false e rest = ap suc rest

-- at most one is left out
without-one : (y : Name) (xs : List Name) → AreOnce xs → length xs ≤ suc (length (without y xs))
without-one y [] h = omega arith
without-one y (x ∷ xs) h = by_test (bytes_eq x y) refl (without-one y xs h.1)
  where
    by_test : (b : Bool) → bytes_eq x y ≡ b → length xs ≤ suc (length (without y xs)) → suc (length xs) ≤ suc (length (cond (not b) (x ∷ without y xs) (without y xs)))
    by_test true e rest = let g = without-none y xs (subst (IsOut xs) (same-is x y e) h.0) in omega (arith, g)
    by_test false e rest = omega (arith, rest)

-- where a name was seen, what is not among those seen is among the others
seen-in : (y : Name) (more seen xs : List Name) → IsIn seen y → AllByRecursion (IsIn (y ∷ more)) xs → AllByRecursion (IsOut seen) xs → AllByRecursion (IsIn more) xs
seen-in y more seen [] e there fresh = tt
seen-in y more seen (x ∷ xs) e there fresh = (in-rest (bytes_eq x y) (list_any (bytes_eq x) more) there.0 (by_test (bytes_eq x y) refl), seen-in y more seen xs e there.1 fresh.1)
  where
    by_test : (b : Bool) → bytes_eq x y ≡ b → bytes_eq x y ≡ false
    by_test true h = let k : IsOut seen y = subst (IsOut seen) (same-is x y h) fresh.0 in absurd (cc (e, k))
    by_test false h = h

counted-of : (ys seen xs : List Name) → AreOnce xs → AllByRecursion (IsIn ys) xs → AllByRecursion (IsOut seen) xs → length xs ≤ count_different seen ys
counted-of [] seen [] once there fresh = omega arith
counted-of [] seen (x ∷ xs) once there fresh = absurd (cc (there.0))
counted-of (y ∷ more) seen xs once there fresh =
    by_test (list_any (bytes_eq y) seen) refl (λ e. counted-of more seen xs once (seen-in y more seen xs e there fresh) fresh)
    (counted-of more (y ∷ seen) (without y xs) (without-once y xs once) (without-each (IsIn (y ∷ more)) (IsIn more) y (λ x e h. in-rest (bytes_eq x y) (list_any (bytes_eq x) more) h e) xs there)
    (without-each (IsOut seen) (IsOut (y ∷ seen)) y (λ x e h. or_from (bytes_eq x y) (list_any (bytes_eq x) seen) e h) xs fresh))
  where
    by_test : (b : Bool) → list_any (bytes_eq y) seen ≡ b → (list_any (bytes_eq y) seen ≡ true → length xs ≤ count_different seen more) → length (without y xs) ≤ count_different (y ∷ seen) more →
        length xs ≤ cond b (count_different seen more) (1 + count_different (y ∷ seen) more)
    by_test true e own rest = own e
    by_test false e own rest = let g = without-one y xs once in omega (arith, g, rest)

pub different-counted : (ys xs : List Name) → AreOnce xs → AllByRecursion (IsIn ys) xs → length xs ≤ count_different [] ys
different-counted ys xs once there = counted-of ys [] xs once there (none xs)
  where
    none : (xs : List Name) → AllByRecursion (IsOut []) xs
    none [] = tt
    none (x ∷ xs) = (refl, none xs)

-- ---- the lists of a text

-- the names of a list stand once, are constants of the text, and belong to this list
pub record IsFine (known : List (Name × Constant)) (names : List Name) : Type 0 where
  pub once : AreOnce names
  pub there : AllByRecursion (IsIn (map (λ (name, c). name) known)) names
  pub own : AllByRecursion (λ (name : Name). (c : Constant) × (find_name known name ≡ Some c) × (c.names ≡ names)) names

-- words that are not repeated have different names
once-named : (seen : List Name) (words : List Word) → repeated seen words ≡ [] → AreOnce (names_of words) × AllByRecursion (IsOut seen) (names_of words)
once-named seen [] e = (tt, tt)
once-named seen (word ∷ more) e =
    let g : (place_if (list_any (bytes_eq word.name) seen) word.at ≡ []) × (repeated (word.name ∷ seen) more ≡ []) = empty-both (place_if (list_any (bytes_eq word.name) seen) word.at) (repeated (word.name ∷ seen) more) e in
    let rest = once-named (word.name ∷ seen) more g.1 in
    ((first-out (names_of more) rest.1, rest.0), (unplaced (list_any (bytes_eq word.name) seen) word.at g.0, others (names_of more) rest.1))
  where
    first-out : (xs : List Name) → AllByRecursion (IsOut (word.name ∷ seen)) xs → IsOut xs word.name
    first-out [] h = refl
    first-out (x ∷ xs) h =
        or_from (bytes_eq word.name x) (list_any (bytes_eq word.name) xs) (not_named x word.name (or_parts (bytes_eq x word.name) (list_any (bytes_eq x) seen) h.0).0) (first-out xs h.1)

    others : (xs : List Name) → AllByRecursion (IsOut (word.name ∷ seen)) xs → AllByRecursion (IsOut seen) xs
    others [] h = tt
    others (x ∷ xs) h = ((or_parts (bytes_eq x word.name) (list_any (bytes_eq x) seen) h.0).1, others xs h.1)

-- what is among the names is found
found-in : (known : List (Name × Constant)) (name : Name) → IsIn (map (λ (name, c). name) known) name → (c : Constant) × (find_name known name ≡ Some c)
found-in [] name e = absurd (cc (e))
found-in ((other, d) ∷ known) name e = by_test (bytes_eq other name) refl (λ h. found-in known name (in-rest (bytes_eq name other) (list_any (bytes_eq name) (map (λ (name, c). name) known)) e (not_named other name h)))
  where
    by_test : (b : Bool) → bytes_eq other name ≡ b → (bytes_eq other name ≡ false → (c : Constant) × (find_name known name ≡ Some c)) → (c : Constant) × (cond b (Some d) (find_name known name) ≡ Some c)
    by_test true e rest = (d, refl)
    by_test false e rest = rest e

-- no word is one of another list
each-own : (known : List (Name × Constant)) (all words : List Word) → filter (λ (word : Word). is_of_other_list all (find_name known word.name)) words ≡ [] → AllByRecursion (IsIn (map (λ (name, c). name) known)) (names_of words) →
    AllByRecursion (λ (name : Name). (c : Constant) × (find_name known name ≡ Some c) × (c.names ≡ names_of all)) (names_of words)
each-own known all [] e there = tt
each-own known all (word ∷ words) e there = by_test (is_of_other_list all (find_name known word.name)) refl e (λ h. each-own known all words h there.1)
  where
    own : (o : Option Constant) → ((c : Constant) × (o ≡ Some c)) → is_of_other_list all o ≡ false → (c : Constant) × (o ≡ Some c) × (c.names ≡ names_of all)
    own None f e = absurd (let g = f.1 in cc (g))
    own (Some c) f e = (c, refl, (paths-decide c.names (names_of all)).0 (not-not (same_path c.names (names_of all)) e))
      where
        not-not : (b : Bool) → not b ≡ false → b ≡ true
        not-not true e = refl
        not-not false e = absurd (cc (e))

    by_test : (b : Bool) → is_of_other_list all (find_name known word.name) ≡ b → cond b (word ∷ filter (λ (word : Word). is_of_other_list all (find_name known word.name)) words) (filter (λ (word : Word). is_of_other_list all (find_name known word.name)) words) ≡ [] →
        (filter (λ (word : Word). is_of_other_list all (find_name known word.name)) words ≡ [] → AllByRecursion (λ (name : Name). (c : Constant) × (find_name known name ≡ Some c) × (c.names ≡ names_of all)) (names_of words)) →
        AllByRecursion (λ (name : Name). (c : Constant) × (find_name known name ≡ Some c) × (c.names ≡ names_of all)) (names_of (word ∷ words))
    by_test true h e rest = absurd (cc (e))
    by_test false h e rest = (own (find_name known word.name) (found-in known word.name there.0) h, rest e)

each-parts : {X : Type 0} (P : X → Type 0) (xs ys : List X) → AllByRecursion P (xs ++ ys) → AllByRecursion P xs × AllByRecursion P ys
each-parts P [] ys h = (tt, h)
each-parts P (x ∷ xs) ys h = let r = each-parts P xs ys h.1 in ((h.0, r.0), r.1)

-- each name is in its list
all-in : (xs : List Name) → AllByRecursion (IsIn xs) xs
all-in [] = tt
all-in (x ∷ xs) = (by_own (bytes_eq x x) (is-same x x refl), each_weaker (IsIn xs) (IsIn (x ∷ xs)) (λ y h. by_other (bytes_eq y x) h) xs (all-in xs))
  where
    by_own : (b : Bool) → b ≡ true → (b || list_any (bytes_eq x) xs) ≡ true
    by_own true e = refl
    by_own false e = absurd (cc (e))

    by_other : (b : Bool) {c : Bool} → c ≡ true → (b || c) ≡ true
    by_other true e = refl
    by_other false e = e

abbrev names_in : List (Name × Constant) → List Name
names_in known = map (λ (name, c). name) known

word-names : (words : List Word) (all : List Name) → names_in (map (λ (word : Word). (word.name, record { at = word.at; names = all })) words) ≡ names_of words
word-names [] all = refl
word-names (word ∷ words) all = ap (λ l. word.name ∷ l) (word-names words all)

module _ (tops : List Piece) where
  abbrev known : List (Name × Constant)
  known = constants tops

  abbrev AreKnown : List (Name × Constant) → Type 0
  AreKnown list = AllByRecursion (IsIn (names_in known)) (names_in list)

  known-parts : (xs ys : List (Name × Constant)) → AreKnown (xs ++ ys) → AreKnown xs × AreKnown ys
  known-parts xs ys h = each-parts (IsIn (names_in known)) (names_in xs) (names_in ys) (subst (AllByRecursion (IsIn (names_in known))) (map-append (λ (name, c). name) xs ys) h)

  mentions-fine : (piece : Piece) (ms : List Mention) → AreKnown (constants_in ms) → AllByRecursion (λ m. doubled (scope_of tops piece) m ≡ []) ms → AllByRecursion (IsFine known) (flat_map enum_of ms)
  mentions-fine piece [] k h = tt
  mentions-fine piece (lists_constants words ∷ ms) k h =
      let own : (repeated [] words ≡ []) × (places_of (filter (λ (word : Word). is_of_other_list words (find_name known word.name)) words) ≡ []) = empty-both (repeated [] words) (places_of (filter (λ (word : Word). is_of_other_list words (find_name known word.name)) words)) h.0 in
      let parts = known-parts (map (λ (word : Word). (word.name, record { at = word.at; names = names_of words })) words) (constants_in ms) k in
      let there : AllByRecursion (IsIn (names_in known)) (names_of words) = subst (AllByRecursion (IsIn (names_in known))) (word-names words (names_of words)) parts.0 in
      (record { once = (once-named [] words own.0).0; there = there; own = each-own known words words (map-nil _ (filter (λ (word : Word). is_of_other_list words (find_name known word.name)) words) own.1) there }, mentions-fine piece ms parts.1 h.1)
  mentions-fine piece (declares word what ∷ ms) k h = mentions-fine piece ms k h.1
  mentions-fine piece (binds o word ∷ ms) k h = mentions-fine piece ms k h.1
  mentions-fine piece (follows o parts ∷ ms) k h = mentions-fine piece ms k h.1
  mentions-fine piece (names_type word ∷ ms) k h = mentions-fine piece ms k h.1
  mentions-fine piece (has_fields words ∷ ms) k h = mentions-fine piece ms k h.1
  mentions-fine piece (instantiates word args ∷ ms) k h = mentions-fine piece ms k h.1

  pieces-fine : (some : List Piece) → AreKnown (flat_map (λ (piece : Piece). constants_in piece.mentions) some) → AllByRecursion (λ (piece : Piece). doubled_in tops piece ≡ []) some →
      AllByRecursion (IsFine known) (flat_map (λ (piece : Piece). flat_map enum_of piece.mentions) some)
  pieces-fine [] k h = tt
  pieces-fine (piece ∷ some) k h =
      let parts = known-parts (constants_in piece.mentions) (flat_map (λ (piece : Piece). constants_in piece.mentions) some) k in
      let own = empty-both (repeated [] (formals_of piece) ++ repeated [] (declared_words piece.mentions)) (flat_map (doubled (scope_of tops piece)) piece.mentions) h.0 in
      each_append (IsFine known) (flat_map enum_of piece.mentions) (flat_map (λ (piece : Piece). flat_map enum_of piece.mentions) some)
      (mentions-fine piece piece.mentions parts.0 (empty-each (doubled (scope_of tops piece)) piece.mentions own.1)) (pieces-fine some parts.1 h.1)

-- ---- different lists

-- a list is the same as none behind it
abbrev AreApart : List (List Name) → Type 0
AreApart [] = Unit {0}
AreApart (l ∷ ls) = AllByRecursion (λ m. same_path l m ≡ false) ls × AreApart ls

filter-apart : (p : List Name → Bool) (ls : List (List Name)) → AreApart ls → AreApart (filter p ls)
filter-apart p [] h = tt
filter-apart p (l ∷ ls) h = by_test (p l) (filter-apart p ls h.1)
  where
    by_test : (b : Bool) → AreApart (filter p ls) → AreApart (cond b (l ∷ filter p ls) (filter p ls))
    by_test true rest = (each_filter (λ m. same_path l m ≡ false) p ls h.0, rest)
    by_test false rest = rest

-- what is kept passes the test
kept-passes : (l : List Name) (ls : List (List Name)) → AllByRecursion (λ m. same_path l m ≡ false) (filter (λ m. not (same_path l m)) ls)
kept-passes l [] = tt
kept-passes l (m ∷ ls) = by_test (same_path l m) refl (kept-passes l ls)
  where
    by_test : (b : Bool) → same_path l m ≡ b → AllByRecursion (λ m. same_path l m ≡ false) (filter (λ m. not (same_path l m)) ls) →
        AllByRecursion (λ m. same_path l m ≡ false) (cond (not b) (m ∷ filter (λ m. not (same_path l m)) ls) (filter (λ m. not (same_path l m)) ls))
    by_test true e rest = rest
    by_test false e rest = (e, rest)

different-apart : (ls : List (List Name)) → AreApart (different same_path ls)
different-apart [] = tt
different-apart (l ∷ ls) = (kept-passes l (different same_path ls), filter-apart (λ m. not (same_path l m)) (different same_path ls) (different-apart ls))

different-each : (P : List Name → Type 0) (ls : List (List Name)) → AllByRecursion P ls → AllByRecursion P (different same_path ls)
different-each P [] h = tt
different-each P (l ∷ ls) h = (h.0, each_filter P (λ m. not (same_path l m)) (different same_path ls) (different-each P ls h.1))

-- ---- first names

abbrev first_name : List Name → Name
first_name [] = []
first_name (x ∷ names) = x

abbrev IsSome : List Name → Type 0
IsSome names = nat_lt 0 (length names) ≡ true

module _ (known : List (Name × Constant)) where
  -- lists with one first name are one list
  one-list : (l m : List Name) → IsSome l → IsSome m → IsFine known l → IsFine known m → first_name l ≡ first_name m → l ≡ m
  one-list [] m p q f g e = absurd (cc (p))
  one-list (x ∷ l) [] p q f g e = absurd (cc (q))
  one-list (x ∷ l) (y ∷ m) p q f g e =
      let a : (c : Constant) × (find_name known x ≡ Some c) × (c.names ≡ x ∷ l) = f.own.0 in
      let b : (c : Constant) × (find_name known y ≡ Some c) × (c.names ≡ y ∷ m) = g.own.0 in
      let found : find_name known x ≡ Some b.0 = subst (λ z. find_name known z ≡ Some b.0) (sym e) b.1 in
      let same : a.0 ≡ b.0 = same-constant a.0 b.0 (sym a.1 ∙ found) in
      sym a.2 ∙ ap (λ (c : Constant). c.names) same ∙ b.2
    where
      same-constant : (c d : Constant) → Some c ≡ Some d → c ≡ d
      same-constant c d e = cc

  first-out : (l : List Name) (ls : List (List Name)) → IsSome l → IsFine known l → AllByRecursion (λ m. same_path l m ≡ false) ls → AllByRecursion IsSome ls → AllByRecursion (IsFine known) ls → IsOut (map first_name ls) (first_name l)
  first-out l [] p f apart some fine = refl
  first-out l (m ∷ ls) p f apart some fine = or_from (bytes_eq (first_name l) (first_name m)) (list_any (bytes_eq (first_name l)) (map first_name ls)) (by_test (bytes_eq (first_name l) (first_name m)) refl) (first-out l ls p f apart.1 some.1 fine.1)
    where
      by_test : (b : Bool) → bytes_eq (first_name l) (first_name m) ≡ b → bytes_eq (first_name l) (first_name m) ≡ false
      by_test true e = let k : same_path l m ≡ true = (paths-decide l m).1 (one-list l m p some.0 f fine.0 (same-is (first_name l) (first_name m) e)) in let h : same_path l m ≡ false = apart.0 in absurd (cc (k, h))
      by_test false e = e

  firsts-once : (ls : List (List Name)) → AreApart ls → AllByRecursion IsSome ls → AllByRecursion (IsFine known) ls → AreOnce (map first_name ls)
  firsts-once [] apart some fine = tt
  firsts-once (l ∷ ls) apart some fine = (first-out l ls some.0 fine.0 apart.0 some.1 fine.1, firsts-once ls apart.1 some.1 fine.1)

  firsts-there : (ls : List (List Name)) → AllByRecursion IsSome ls → AllByRecursion (IsFine known) ls → AllByRecursion (IsIn (names_in known)) (map first_name ls)
  firsts-there [] some fine = tt
  firsts-there (l ∷ ls) some fine = (own l some.0 fine.0, firsts-there ls some.1 fine.1)
    where
      own : (l : List Name) → IsSome l → IsFine known l → IsIn (names_in known) (first_name l)
      own [] p f = absurd (cc (p))
      own (x ∷ l) p f = f.there.0

-- ---- the text

each-some : (ls : List (List Name)) → list_all (λ (names : List Name). nat_lt 0 (length names)) ls ≡ true → AllByRecursion IsSome ls
each-some [] e = tt
each-some (l ∷ ls) e = let g : (nat_lt 0 (length l) ≡ true) × (list_all (λ (names : List Name). nat_lt 0 (length names)) ls ≡ true) = and_parts _ _ e in (g.0, each-some ls g.1)

text-fine : (text : Text) → first_fault text ≡ None → AllByRecursion (IsFine (constants (pieces text))) (flatten text).enums
text-fine text e =
    different-each (IsFine (constants (pieces text))) (flat_map (λ (piece : Piece). flat_map enum_of piece.mentions) (pieces text))
    (pieces-fine (pieces text) (pieces text) (all-in (constant_names text)) (none-named text e).doubled)

-- no enumeration has more constants than there are different ones
pub constants-few : (text : Text) → first_fault text ≡ None → AllByRecursion (λ (names : List Name). length names ≤ 4096) (flatten text).enums
constants-few text e = each_weaker (IsFine (constants (pieces text))) (λ (names : List Name). length names ≤ 4096) (λ names f. few names f) (flatten text).enums (text-fine text e)
  where
    few : (names : List Name) → IsFine (constants (pieces text)) names → length names ≤ 4096
    few names f =
        let a = different-counted (constant_names text) names f.once f.there in
        let b = (within-limits text e).constants in
        omega (arith, a, b)

-- nor are there more enumerations, where each has a constant
pub enumerations-few : (text : Text) → first_fault text ≡ None → list_all (λ (names : List Name). nat_lt 0 (length names)) (flatten text).enums ≡ true → length (flatten text).enums ≤ 4096
enumerations-few text e some =
    let enums = (flatten text).enums in
    let each = each-some enums some in
    let fine = text-fine text e in
    let apart = different-apart (flat_map (λ (piece : Piece). flat_map enum_of piece.mentions) (pieces text)) in
    let a = different-counted (constant_names text) (map first_name enums) (firsts-once (constants (pieces text)) enums apart each fine) (firsts-there (constants (pieces text)) enums each fine) in
    let b = (within-limits text e).constants in
    let c = length-map enums first_name in
    omega (arith, a, b, c)
