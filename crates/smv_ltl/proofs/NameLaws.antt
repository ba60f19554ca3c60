-- The first free names, one by one.
use Rattle.std.proofs.Common.{◌≡◌, ◌<◌, ◌≤◌, ◌+◌, ◌-◌, ℕ, zero, suc, List, [], ◌∷◌, ◌++◌, length, take, not, Bool, true, false, cond, ◌||◌, is_some, refl, sym, ap, ◌∙◌, append_assoc, arith}
use Rattle.std.specs.List.{list_any, filter, count_by}
use Rattle.std.specs.Str.{bytes_eq}
use Rattle.std.proofs.lemmas.List.{append-nil, length-append}
use Rattle.std.proofs.lemmas.List.Sums.{length-filter}
use Rattle.std.proofs.lemmas.Slice.Eq.{bytes_eq-Decides}
use Rattle.smv_core.specs.Values.{Name}
use Rattle.smv_core.specs.Notation.{Tokens}
use Rattle.smv_core.specs.declared.token.Token.{Token}
use Rattle.smv_core.specs.declared.token.TokenKind.{TokenKind}
use Rattle.smv_core.specs.declared.token.TokenKind.TheVariants.{Ident, Number, Sign, Reserved}
use Rattle.law_formula_texts.specs.Laws.{name_in, names_of}
use Rattle.law_formulas.specs.Monitors.{numbered}
use Rattle.name_index.specs.Position.{position}
use Rattle.name_index.proofs.Finding.{position-known}
use Rattle.smv_ltl.specs.Names.{free_from, is_name}

bytes_eq-sym : (x y : Name) → bytes_eq x y ≡ bytes_eq y x
bytes_eq-sym x y = by (bytes_eq x y) (bytes_eq y x) refl refl
  where
    by : (b c : Bool) → bytes_eq x y ≡ b → bytes_eq y x ≡ c → b ≡ c
    by true true e k = refl
    by false false e k = refl
    by true false e k = let h = (bytes_eq-Decides y x).1 (sym ((bytes_eq-Decides x y).0 e)) in absurd cc
    by false true e k = let h = (bytes_eq-Decides x y).1 (sym ((bytes_eq-Decides y x).0 k)) in absurd cc

turned : (names : List Name) (name : Name) → list_any (λ x. bytes_eq x name) names ≡ list_any (bytes_eq name) names
turned [] name = refl
turned (x ∷ names) name = rw (bytes_eq-sym x name) (ap (λ b. bytes_eq name x || b) (turned names name))

pub used_is : (names : List Name) (name : Name) → is_some (position names name) ≡ list_any (bytes_eq name) names
used_is names name = position-known names name ∙ turned names name

abbrev is_named : Token → Bool
is_named t = is_name t.kind

names-kept : (ts : Tokens) → length (filter is_named ts) ≡ length (names_of ts)
names-kept [] = refl
names-kept (t ∷ ts) = by t.kind (names-kept ts)
  where
    by : (k : TokenKind) → length (filter is_named ts) ≡ length (names_of ts) → length (cond (is_name k) (t ∷ filter is_named ts) (filter is_named ts)) ≡ length (name_in k ++ names_of ts)
    by (Ident name) h = ap suc h
    by (Number n) h = h
    by (Sign place) h = h
    by (Reserved place) h = h

-- as many tokens are names as there are names
pub counted : (ts : Tokens) → count_by (λ (t : Token). is_name t.kind) ts ≡ length (names_of ts)
counted ts = sym (length-filter is_named ts) ∙ names-kept ts

module _ (used : List Name) where
  abbrev is_free : Name → Bool
  is_free name = not (list_any (bytes_eq name) used)

  -- one name
  one-is : (k : ℕ) (b : Bool) → is_free (numbered k) ≡ b → free_from used k 1 ≡ cond b (numbered k ∷ []) []
  one-is k b e = ap (λ c. cond c (numbered k ∷ []) []) e

  pub alone_used : (old : List Name) (k : ℕ) (name : Name) → name ≡ numbered k → list_any (bytes_eq name) used ≡ true → old ≡ old ++ free_from used k 1
  alone_used old k name is e =
      let h : is_free (numbered k) ≡ false = ap (λ (n : Name). not (list_any (bytes_eq n) used)) (sym is) ∙ ap not e in
      sym (ap (λ (l : List Name). old ++ l) (one-is k false h) ∙ append-nil old)

  pub alone_free : (old : List Name) (k : ℕ) (name : Name) → name ≡ numbered k → list_any (bytes_eq name) used ≡ false → old ++ name ∷ [] ≡ old ++ free_from used k 1
  alone_free old k name is e =
      let h : is_free (numbered k) ≡ true = ap (λ (n : Name). not (list_any (bytes_eq n) used)) (sym is) ∙ ap not e in
      ap (λ (n : Name). old ++ n ∷ []) is ∙ sym (ap (λ (l : List Name). old ++ l) (one-is k true h))

  -- those from a number on
  next : (bound k : ℕ) → k < bound → free_from used k (bound - k) ≡ cond (is_free (numbered k)) (numbered k ∷ free_from used (k + 1) (bound - (k + 1))) (free_from used (k + 1) (bound - (k + 1)))
  next bound k lt = let more : bound - k ≡ suc (bound - (k + 1)) = omega (arith, lt) in ap (λ n. free_from used k n) more

  abbrev rest_of : ℕ → ℕ → List Name
  rest_of bound k = free_from used (k + 1) (bound - (k + 1))

  -- one name further, of so many that are wanted
  pub step : (count bound k : ℕ) (old new : List Name) → k < bound → length old < count → new ≡ old ++ free_from used k 1 →
      new ++ take (count - length new) (free_from used (k + 1) (bound - (k + 1))) ≡ old ++ take (count - length old) (free_from used k (bound - k))
  step count bound k old new lt room n = by (is_free (numbered k)) refl
    where
      by : (b : Bool) → is_free (numbered k) ≡ b → new ++ take (count - length new) (rest_of bound k) ≡ old ++ take (count - length old) (free_from used k (bound - k))
      by true e =
          let rest = rest_of bound k in
          let made : new ≡ old ++ numbered k ∷ [] = n ∙ ap (λ (l : List Name). old ++ l) (one-is k true e) in
          let long : length new ≡ length old + 1 = ap (λ (l : List Name). length l) made ∙ length-append old (numbered k ∷ []) in
          let whole : free_from used k (bound - k) ≡ numbered k ∷ rest = next bound k lt ∙ ap (λ c. cond c (numbered k ∷ rest) rest) e in
          let wanted : count - length old ≡ suc (count - length new) = omega (arith, long, room) in
          ap (λ (l : List Name). l ++ take (count - length new) rest) made ∙ append_assoc old (numbered k ∷ []) (take (count - length new) rest)
          ∙ sym (ap (λ (l : List Name). old ++ take (count - length old) l) whole ∙ ap (λ (i : ℕ). old ++ take i (numbered k ∷ rest)) wanted)
      by false e =
          let rest = rest_of bound k in
          let made : new ≡ old = n ∙ ap (λ (l : List Name). old ++ l) (one-is k false e) ∙ append-nil old in
          let whole : free_from used k (bound - k) ≡ rest = next bound k lt ∙ ap (λ c. cond c (numbered k ∷ rest) rest) e in
          ap (λ (l : List Name). l ++ take (count - length l) rest) made ∙ sym (ap (λ (l : List Name). old ++ take (count - length old) l) whole)

  abbrev no_names : List Name
  no_names = []

  take-none : (n : ℕ) → take n no_names ≡ no_names
  take-none zero = refl
  take-none (suc n) = refl

  -- no name further
  pub ended : (bound count k : ℕ) (names : List Name) → bound ≤ k → names ++ take count (free_from used k (bound - k)) ≡ names
  ended bound count k names le =
      let none : bound - k ≡ 0 = omega (arith, le) in
      ap (λ (n : ℕ). names ++ take count (free_from used k n)) none ∙ ap (λ (l : List Name). names ++ l) (take-none count) ∙ append-nil names

  one-long : (k : ℕ) → length (free_from used k 1) ≤ 1
  one-long k = by (is_free (numbered k)) refl
    where
      by : (b : Bool) → is_free (numbered k) ≡ b → length (free_from used k 1) ≤ 1
      by true e = let h = ap (λ (l : List Name). length l) (one-is k true e) in omega (arith, h)
      by false e = let h = ap (λ (l : List Name). length l) (one-is k false e) in omega (arith, h)

  -- one name further, there are no more than are wanted
  pub still_fits : (count k : ℕ) (old new : List Name) → length old < count → new ≡ old ++ free_from used k 1 → length new ≤ count
  still_fits count k old new room n =
      let long : length new ≡ length old + length (free_from used k 1) = ap (λ (l : List Name). length l) n ∙ length-append old (free_from used k 1) in
      omega (arith, room, long, one-long k)

  -- none is wanted any more
  pub enough : (count k n : ℕ) (names : List Name) → length names ≡ count → names ++ take (count - length names) (free_from used k n) ≡ names
  enough count k n names e =
      let none : count - length names ≡ 0 = omega (arith, e) in
      ap (λ (i : ℕ). names ++ take i (free_from used k n)) none ∙ append-nil names

pub ruleset alone = (alone_used, alone_free)

pub ruleset stepping = (ended, enough)
