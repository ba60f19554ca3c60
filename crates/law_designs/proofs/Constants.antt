-- A constant that some enumeration of the text lists has a number.
use Rattle.std.proofs.Common.{◌≡◌, List, [], ◌∷◌, map, flat_map, find, Some, Bool, true, false, cond, ◌||◌, refl, sym, ap, ◌∙◌, subst}
use Rattle.std.specs.Str.{bytes_eq}
use Rattle.std.specs.List.{list_any}
use Rattle.std.proofs.lemmas.List.Folds.{list_any-append}
use Rattle.std.proofs.lemmas.Slice.Eq.{bytes_eq-Decides}
use Rattle.law_lists.proofs.Anys.{any-flat_map}
use Rattle.law_lists.proofs.Booleans.{same_tests}
use Rattle.smv_core.specs.Values.{Name, Path}
use Rattle.smv_core.specs.Types.{find_name, names_of}
use Rattle.smv_core.specs.Outcome.{same_path}
use Rattle.smv_core.specs.declared.tree.Word.{Word}
use Rattle.smv_core.specs.declared.tree.Text.{Text}
use Rattle.smv_mentions.specs.Mentions.{Mention, declares, binds, follows, names_type, lists_constants, has_fields, instantiates}
use Rattle.smv_mentions.specs.Scopes.{Constant, Piece, constants, constants_in, pieces}
use Rattle.law_designs.specs.Flattening.{different, enum_of, scope_in}
use Rattle.law_designs.specs.Agreement.{IsConstant}
use Rattle.law_designs.proofs.Lookups.{any-found, find-passes}
use Rattle.law_designs.proofs.Different.{different-keeps}
use Rattle.law_designs.proofs.TypeNumbers.{paths-decide}

module _ (name : Name) where
  abbrev is_named : Name × Constant → Bool
  is_named (other, c) = bytes_eq other name

  abbrev has : List Name → Bool
  has names = list_any (bytes_eq name) names

  found-named : (list : List (Name × Constant)) (c : Constant) → find_name list name ≡ Some c → list_any is_named list ≡ true
  found-named [] c e = absurd (cc)
  found-named ((other, d) ∷ list) c e = by_test (bytes_eq other name) e (found-named list c)
    where
      by_test : (b : Bool) → cond b (Some d) (find_name list name) ≡ Some c → (find_name list name ≡ Some c → list_any is_named list ≡ true) → (b || list_any is_named list) ≡ true
      by_test true e rest = refl
      by_test false e rest = rest e

  turned : (other : Name) → bytes_eq other name ≡ bytes_eq name other
  turned other = same_tests (bytes_eq other name) (bytes_eq name other)
      (λ e. (bytes_eq-Decides name other).1 (sym ((bytes_eq-Decides other name).0 e))) (λ e. (bytes_eq-Decides other name).1 (sym ((bytes_eq-Decides name other).0 e)))

  words-same : (words all : List Word) → list_any is_named (map (λ word. (word.name, record { at = word.at; names = names_of all })) words) ≡ has (names_of words)
  words-same [] all = refl
  words-same (word ∷ words) all = rw (turned word.name, words-same words all) refl

  mentions-same : (ms : List Mention) → list_any is_named (constants_in ms) ≡ list_any has (flat_map enum_of ms)
  mentions-same [] = refl
  mentions-same (lists_constants words ∷ ms) =
      list_any-append is_named (map (λ word. (word.name, record { at = word.at; names = names_of words })) words) (constants_in ms) ∙ rw (words-same words words, mentions-same ms) refl
  mentions-same (declares word what ∷ ms) = mentions-same ms
  mentions-same (binds o word ∷ ms) = mentions-same ms
  mentions-same (follows o parts ∷ ms) = mentions-same ms
  mentions-same (names_type word ∷ ms) = mentions-same ms
  mentions-same (has_fields words ∷ ms) = mentions-same ms
  mentions-same (instantiates word args ∷ ms) = mentions-same ms

  pieces-same : (tops : List Piece) → list_any (λ piece. list_any is_named (constants_in piece.mentions)) tops ≡ list_any (λ piece. list_any has (flat_map enum_of piece.mentions)) tops
  pieces-same [] = refl
  pieces-same (piece ∷ tops) = rw (mentions-same piece.mentions, pieces-same tops) refl

  found-passes : (p : List Name → Bool) (lists : List (List Name)) (l : List Name) → find p lists ≡ Some l → has l ≡ true → list_any has lists ≡ true
  found-passes p [] l e h = absurd (cc)
  found-passes p (k ∷ lists) l e h = by_test (p k) e (λ g. found-passes p lists l g h)
    where
      by_test : (b : Bool) → cond b (Some k) (find p lists) ≡ Some l → (find p lists ≡ Some l → list_any has lists ≡ true) → (has k || list_any has lists) ≡ true
      by_test true e rest = let same : k ≡ l = cc in ap (λ b. b || list_any has lists) (subst (λ m. has m ≡ true) (sym same) h)
      by_test false e rest = by_own (has k) (rest e)
        where
          by_own : (b : Bool) → list_any has lists ≡ true → (b || list_any has lists) ≡ true
          by_own true g = refl
          by_own false g = g

  found-same : (lists : List (List Name)) (l : List Name) → find has lists ≡ Some l → list_any (same_path l) lists ≡ true
  found-same [] l e = absurd (cc)
  found-same (k ∷ lists) l e = by_test (has k) e (found-same lists l)
    where
      by_own : (b : Bool) → list_any (same_path l) lists ≡ true → (b || list_any (same_path l) lists) ≡ true
      by_own true g = refl
      by_own false g = g

      by_test : (b : Bool) → cond b (Some k) (find has lists) ≡ Some l → (find has lists ≡ Some l → list_any (same_path l) lists ≡ true) → (same_path l k || list_any (same_path l) lists) ≡ true
      by_test true e rest = let same : l ≡ k = cc in ap (λ b. b || list_any (same_path l) lists) ((paths-decide l k).1 same)
      by_test false e rest = by_own (same_path l k) (rest e)

  different-has : (lists : List (List Name)) → list_any has lists ≡ true → list_any has (different same_path lists) ≡ true
  different-has lists e =
      let own : (l : List Name) × (find has lists ≡ Some l) = any-found has lists e in
      let kept : (k : List Name) × (find (same_path own.0) (different same_path lists) ≡ Some k) =
      any-found (same_path own.0) (different same_path lists) (different-keeps same_path paths-decide own.0 lists (found-same lists own.0 own.1)) in
      let same : own.0 ≡ kept.0 = (paths-decide own.0 kept.0).0 (find-passes (same_path own.0) (different same_path lists) kept.0 kept.1) in
      found-passes (same_path own.0) (different same_path lists) kept.0 kept.1 (subst (λ l. has l ≡ true) same (find-passes has lists own.0 own.1))

-- a constant of the text is listed
pub constant-listed : (text : Text) (instance : Path) (name : Name) (c : Constant) → find_name (constants (pieces text)) name ≡ Some c → IsConstant (scope_in text instance) (name ∷ [])
constant-listed text instance name c e =
    different-has name (flat_map (λ piece. flat_map enum_of piece.mentions) (pieces text))
    (any-flat_map (has name) (λ piece. flat_map enum_of piece.mentions) (pieces text) ∙ sym (pieces-same name (pieces text)) ∙ sym (any-flat_map (is_named name) (λ piece. constants_in piece.mentions) (pieces text))
    ∙ found-named name (constants (pieces text)) c e)
