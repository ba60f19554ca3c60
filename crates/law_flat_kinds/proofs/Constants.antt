-- A constant of a text has the kind of its enumeration: the first list that has it is the one that it was first read in.
use Rattle.std.proofs.Common.{◌≡◌, ℕ, ◌+◌, ◌<◌, List, [], ◌∷◌, ◌++◌, map, flat_map, filter, find, length, get_or, Option, Some, None, option_map, Bool, true, false, cond, not, ◌||◌, nat_lt, refl, sym, ap, ◌∙◌, subst, arith}
use Rattle.std.specs.Str.{bytes_eq}
use Rattle.std.specs.Option.{option_or}
use Rattle.std.specs.List.{list_any, position_or_len}
use Rattle.std.proofs.lemmas.Bool.{lt-ltb}
use Rattle.std.proofs.lemmas.List.Folds.{find_at, find-append}
use Rattle.std.proofs.lemmas.Option.{get_or_from_slice_get, same_Some}
use Rattle.std.proofs.lemmas.Slice.Eq.{bytes_eq-Decides}
use Rattle.law_lists.proofs.Booleans.{same_tests}
use Rattle.smv_core.specs.Values.{Name, Path}
use Rattle.smv_core.specs.Types.{find_name, names_of}
use Rattle.smv_core.specs.Outcome.{same_path}
use Rattle.smv_core.specs.declared.tree.Word.{Word}
use Rattle.smv_core.specs.declared.tree.Text.{Text}
use Rattle.smv_mentions.specs.Mentions.{Mention, declares, binds, follows, names_type, lists_constants, has_fields, instantiates}
use Rattle.smv_mentions.specs.Scopes.{Constant, Piece, constants, constants_in, pieces}
use Rattle.law_designs.specs.Kinds.{enumeration}
use Rattle.law_designs.specs.FlatKinds as typed
use Rattle.law_designs.specs.FlatKinds.{kind_in}
use Rattle.law_designs.specs.Numbers.{constant_in}
use Rattle.law_designs.specs.Flattening.{flatten, different, enum_of, scope_in}
use Rattle.law_designs.proofs.Lookups.{find-passes}
use Rattle.law_designs.proofs.TypeNumbers.{paths-decide}
use Rattle.law_flat_kinds.proofs.Relation.{flat_kind}

map-or : {X Y : Type 0} (f : X → Y) (a b : Option X) → option_map f (option_or a b) ≡ option_or (option_map f a) (option_map f b)
map-or f None b = refl
map-or f (Some x) b = refl

position-below : {X : Type 0} (p : X → Bool) (xs : List X) → list_any p xs ≡ true → position_or_len p xs < length xs
position-below p [] e = absurd (cc (e))
position-below p (x ∷ xs) e = by_test (p x) e (position-below p xs)
  where
    by_test : (b : Bool) → (b || list_any p xs) ≡ true → (list_any p xs ≡ true → position_or_len p xs < length xs) → cond (not b) (1 + position_or_len p xs) 0 < length (x ∷ xs)
    by_test true e rest = omega arith
    by_test false e rest = let own = rest e in omega (arith, own)

module _ (name : Name) where
  abbrev has : List Name → Bool
  has names = list_any (bytes_eq name) names

  abbrev names_found : List (Name × Constant) → Option (List Name)
  names_found cs = option_map (λ (c : Constant). c.names) (find_name cs name)

  -- the first constant of the name is of the first list that has it
  abbrev Agree : List (Name × Constant) → List (List Name) → Type 0
  Agree cs ls = names_found cs ≡ find has ls

  name-append : (xs ys : List (Name × Constant)) → find_name (xs ++ ys) name ≡ option_or (find_name xs name) (find_name ys name)
  name-append [] ys = refl
  name-append ((other, x) ∷ xs) ys = by_test (bytes_eq other name) (name-append xs ys)
    where
      by_test : (b : Bool) → find_name (xs ++ ys) name ≡ option_or (find_name xs name) (find_name ys name) → cond b (Some x) (find_name (xs ++ ys) name) ≡ option_or (cond b (Some x) (find_name xs name)) (find_name ys name)
      by_test true rest = refl
      by_test false rest = rest

  agree-append : (cs ds : List (Name × Constant)) (ls ms : List (List Name)) → Agree cs ls → Agree ds ms → Agree (cs ++ ds) (ls ++ ms)
  agree-append cs ds ls ms h k =
      ap (option_map (λ (c : Constant). c.names)) (name-append cs ds) ∙ map-or (λ (c : Constant). c.names) (find_name cs name) (find_name ds name)
      ∙ ap (λ o. option_or o (names_found ds)) h ∙ ap (option_or (find has ls)) k ∙ sym (find-append has ls ms)

  turned : (other : Name) → bytes_eq other name ≡ bytes_eq name other
  turned other = same_tests (bytes_eq other name) (bytes_eq name other)
      (λ e. (bytes_eq-Decides name other).1 (sym ((bytes_eq-Decides other name).0 e))) (λ e. (bytes_eq-Decides other name).1 (sym ((bytes_eq-Decides name other).0 e)))

  words-agree : (ns : List Name) (words : List Word) → names_found (map (λ word. (word.name, record { at = word.at; names = ns })) words) ≡ cond (has (names_of words)) (Some ns) None
  words-agree ns [] = refl
  words-agree ns (word ∷ words) = ap (λ b. option_map (λ (c : Constant). c.names) (cond b (Some (record { at = word.at; names = ns })) (find_name (map (λ word. (word.name, record { at = word.at; names = ns })) words) name))) (turned word.name)
      ∙ by_test (bytes_eq name word.name) (words-agree ns words)
    where
      by_test : (b : Bool) → names_found (map (λ word. (word.name, record { at = word.at; names = ns })) words) ≡ cond (has (names_of words)) (Some ns) None →
          option_map (λ (c : Constant). c.names) (cond b (Some (record { at = word.at; names = ns })) (find_name (map (λ word. (word.name, record { at = word.at; names = ns })) words) name)) ≡ cond (b || has (names_of words)) (Some ns) None
      by_test true rest = refl
      by_test false rest = rest

  mentions-agree : (ms : List Mention) → Agree (constants_in ms) (flat_map enum_of ms)
  mentions-agree [] = refl
  mentions-agree (lists_constants words ∷ ms) =
      agree-append (map (λ word. (word.name, record { at = word.at; names = names_of words })) words) (constants_in ms) (names_of words ∷ []) (flat_map enum_of ms) (words-agree (names_of words) words) (mentions-agree ms)
  mentions-agree (declares word what ∷ ms) = mentions-agree ms
  mentions-agree (binds o word ∷ ms) = mentions-agree ms
  mentions-agree (follows o parts ∷ ms) = mentions-agree ms
  mentions-agree (names_type word ∷ ms) = mentions-agree ms
  mentions-agree (has_fields words ∷ ms) = mentions-agree ms
  mentions-agree (instantiates word args ∷ ms) = mentions-agree ms

  pieces-agree : (tops : List Piece) → Agree (constants tops) (flat_map (λ piece. flat_map enum_of piece.mentions) tops)
  pieces-agree [] = refl
  pieces-agree (piece ∷ tops) =
      agree-append (constants_in piece.mentions) (constants tops) (flat_map enum_of piece.mentions) (flat_map (λ piece. flat_map enum_of piece.mentions) tops) (mentions-agree piece.mentions) (pieces-agree tops)

  -- ---- each list once

  -- what has not the name may be left out
  filter-found : (x : List Name) → has x ≡ false → (ls : List (List Name)) → find has (filter (λ y. not (same_path x y)) ls) ≡ find has ls
  filter-found x lacks [] = refl
  filter-found x lacks (y ∷ ls) = by_test (same_path x y) refl (filter-found x lacks ls)
    where
      by_test : (b : Bool) → same_path x y ≡ b → find has (filter (λ y. not (same_path x y)) ls) ≡ find has ls →
          find has (cond (not b) (y ∷ filter (λ y. not (same_path x y)) ls) (filter (λ y. not (same_path x y)) ls)) ≡ cond (has y) (Some y) (find has ls)
      by_test true e rest = let without : has y ≡ false = subst (λ z. has z ≡ false) ((paths-decide x y).0 e) lacks in rest ∙ ap (λ b. cond b (Some y) (find has ls)) (sym without)
      by_test false e rest = ap (cond (has y) (Some y)) rest

  different-first : (ls : List (List Name)) (l : List Name) → find has ls ≡ Some l → find has (different same_path ls) ≡ Some l
  different-first [] l e = e
  different-first (x ∷ ls) l e = by_test (has x) refl e (different-first ls l)
    where
      by_test : (b : Bool) → has x ≡ b → cond b (Some x) (find has ls) ≡ Some l → (find has ls ≡ Some l → find has (different same_path ls) ≡ Some l) → cond b (Some x) (find has (filter (λ y. not (same_path x y)) (different same_path ls))) ≡ Some l
      by_test true h e rest = e
      by_test false h e rest = filter-found x h (different same_path ls) ∙ rest e

  -- the first list that has the name stands where it stands first
  position-same : (ls : List (List Name)) (l : List Name) → find has ls ≡ Some l → position_or_len has ls ≡ position_or_len (same_path l) ls
  position-same [] l e = refl
  position-same (x ∷ ls) l e = by_tests (has x) (same_path l x) refl refl e (position-same ls l)
    where
      by_tests : (b d : Bool) → has x ≡ b → same_path l x ≡ d → cond b (Some x) (find has ls) ≡ Some l → (find has ls ≡ Some l → position_or_len has ls ≡ position_or_len (same_path l) ls) →
          cond (not b) (1 + position_or_len has ls) 0 ≡ cond (not d) (1 + position_or_len (same_path l) ls) 0
      by_tests true true h k e rest = refl
      by_tests true false h k e rest = let yes : same_path l x ≡ true = (paths-decide l x).1 (sym (same_Some x l e)) in absurd (cc (yes, k))
      by_tests false true h k e rest =
          let passes : has l ≡ true = find-passes has ls l e in
          let lacks : has l ≡ false = subst (λ y. has y ≡ false) (sym ((paths-decide l x).0 k)) h in
          absurd (cc (passes, lacks))
      by_tests false false h k e rest = ap (λ n. 1 + n) (rest e)

  -- the constant's list and place
  listed : (ls : List (List Name)) (l : List Name) → find has ls ≡ Some l → nat_lt (position_or_len (bytes_eq name) (get_or ls (position_or_len has ls) [])) (length (get_or ls (position_or_len has ls) [])) ≡ true
  listed ls l e =
      let own : get_or ls (position_or_len has ls) [] ≡ l = get_or_from_slice_get ls (position_or_len has ls) l [] (sym (find_at has ls) ∙ e) in
      subst (λ k. nat_lt (position_or_len (bytes_eq name) k) (length k) ≡ true) (sym own) (lt-ltb (position_or_len (bytes_eq name) l) (length l) (position-below (bytes_eq name) l (find-passes has ls l e)))

pub constant-kinded : (text : Text) (here : Path) (name : Name) (c : Constant) → find_name (constants (pieces text)) name ≡ Some c → (vars : typed.FlatVars) (at : ℕ) →
    kind_in (flatten text) vars (constant_in (scope_in text here) (name ∷ []) at) ≡ Some (flat_kind (scope_in text here) (enumeration c.names))
constant-kinded text here name c e vars at =
    let lists : List (List Name) = flat_map (λ piece. flat_map enum_of piece.mentions) (pieces text) in
    let found : find (has name) lists ≡ Some c.names = sym (pieces-agree name (pieces text)) ∙ ap (option_map (λ (c : Constant). c.names)) e in
    let kept : find (has name) (different same_path lists) ≡ Some c.names = different-first name lists c.names found in
    let enums : List (List Name) = different same_path lists in
    ap (λ b. cond b (Some (typed.enumeration (position_or_len (has name) enums))) None) (listed name enums c.names kept) ∙ ap (λ k. Some (typed.enumeration k)) (position-same name enums c.names kept)
