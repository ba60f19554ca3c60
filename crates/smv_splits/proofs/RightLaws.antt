-- Names that are to the right of exactly one equation.
use Rattle.std.proofs.Common.{◌≡◌, ℕ, zero, suc, ◌+◌, ◌<◌, List, [], ◌∷◌, ◌++◌, drop, length, get_or, Bool, true, false, ◌&&◌, ◌||◌, not, cond, refl, ap, sym, ◌∙◌, arith, nat_eq}
use Rattle.std.specs.Prelude.{Option, Some, None, is_some, is_none, if◌then◌else◌}
use Rattle.std.specs.List.{list_any}
use Rattle.std.specs.Str.{bytes_eq}
use Rattle.std.proofs.lemmas.List.{append_assoc}
use Rattle.std.proofs.lemmas.List.Folds.{list_any-append}
use Rattle.std.proofs.lemmas.Bool.Decides.{nat_tests}
use Rattle.std.proofs.lemmas.Slice.Eq.{bytes_eq-Decides}
use Rattle.law_lists.proofs.Places.{drop_read_one}
use Rattle.smv_core.specs.Values.{Name}
use Rattle.smv_core.specs.declared.tree.Word.{Word}
use Rattle.smv_core.specs.declared.flat.FlatPair.{FlatPair}
use Rattle.name_index.specs.Position.{position}
use Rattle.name_index.proofs.Finding.{position-known}
use Rattle.smv_first_fault.proofs.LeastLaws.{from_here}
use Rattle.law_splits.specs.SplitFaults.{equations_of}
use Rattle.smv_splits.specs.Parts.{repeated_if, repeated, right_names, is_in_one}

abbrev among : List Name → Name → Bool
among names name = list_any (λ x. bytes_eq x name) names

-- how often a name stands in a list
abbrev times : Name → List Name → ℕ
times name [] = 0
times name (x ∷ names) = cond (bytes_eq x name) (suc (times name names)) (times name names)

one-more : (names : List Name) (x name : Name) → among (names ++ x ∷ []) name ≡ (among names name || bytes_eq x name)
one-more names x name = list_any-append (λ y. bytes_eq y name) names (x ∷ []) ∙ ap (λ b. among names name || b) (or-false (bytes_eq x name))
  where
    or-false : (b : Bool) → (b || false) ≡ b
    or-false true = refl
    or-false false = refl

-- among those that stand before it is one that stands in the list, or twice there
abbrev is_repeated : Bool → ℕ → Bool
is_repeated true zero = false
is_repeated true (suc n) = true
is_repeated false zero = false
is_repeated false (suc zero) = false
is_repeated false (suc (suc n)) = true

once-more : (b : Bool) (n : ℕ) → is_repeated b (suc n) ≡ (b || is_repeated true n)
once-more true n = refl
once-more false zero = refl
once-more false (suc n) = refl

repeated-is : (name : Name) (before names : List Name) → among (repeated before names) name ≡ is_repeated (among before name) (times name names)
repeated-is name before [] = by (among before name)
  where
    by : (b : Bool) → false ≡ is_repeated b zero
    by true = refl
    by false = refl
repeated-is name before (x ∷ names) =
    list_any-append (λ y. bytes_eq y name) (repeated_if before x) (repeated (before ++ x ∷ []) names)
    ∙ ap (λ b. among (repeated_if before x) name || b) (repeated-is name (before ++ x ∷ []) names ∙ ap (λ b. is_repeated b (times name names)) (one-more before x name))
    ∙ ap (λ b. among (if b then x ∷ [] else []) name || is_repeated (among before name || bytes_eq x name) (times name names)) (position-known before x)
    ∙ at (bytes_eq x name) refl
  where
    at : (c : Bool) → bytes_eq x name ≡ c → (among (if among before x then x ∷ [] else []) name || is_repeated (among before name || bytes_eq x name) (times name names)) ≡ is_repeated (among before name) (cond (bytes_eq x name) (suc (times name names)) (times name names))
    at true e =
        let same : x ≡ name = (bytes_eq-Decides x name).0 e in
        ap (λ y. among (if among before y then x ∷ [] else []) name || is_repeated (among before name || bytes_eq x name) (times name names)) same
        ∙ rw e (found (among before name) (times name names))
      where
        found : (b : Bool) (n : ℕ) → (among (if b then x ∷ [] else []) name || is_repeated (b || true) n) ≡ is_repeated b (suc n)
        found true n = ap (λ c. (c || false) || is_repeated true n) e
        found false zero = refl
        found false (suc n) = refl
    at false e = rw e (other (among before x) (among before name))
      where
        other : (b c : Bool) → (among (if b then x ∷ [] else []) name || is_repeated (c || false) (times name names)) ≡ is_repeated c (times name names)
        other true c = ap (λ d. (d || false) || is_repeated (c || false) (times name names)) e ∙ nothing c
          where
            nothing : (c : Bool) → is_repeated (c || false) (times name names) ≡ is_repeated c (times name names)
            nothing true = refl
            nothing false = refl
        other false true = refl
        other false false = refl

known-is : (name : Name) (names : List Name) → among names name ≡ is_repeated true (times name names)
known-is name [] = refl
known-is name (x ∷ names) = by (bytes_eq x name) (known-is name names)
  where
    by : (b : Bool) → among names name ≡ is_repeated true (times name names) → (b || among names name) ≡ is_repeated true (cond b (suc (times name names)) (times name names))
    by true e = refl
    by false e = e

times-equations : (pairs : List FlatPair) (word : Word) → times word.name (right_names pairs) ≡ length (equations_of pairs word)
times-equations [] word = refl
times-equations (pair ∷ pairs) word = by (bytes_eq pair.right.name word.name) (times-equations pairs word)
  where
    by : (b : Bool) → times word.name (right_names pairs) ≡ length (equations_of pairs word) →
        cond b (suc (times word.name (right_names pairs))) (times word.name (right_names pairs)) ≡ length (cond b (pair ∷ equations_of pairs word) (equations_of pairs word))
    by true e = ap suc e
    by false e = e

none-some : {X : Type 0} (o : Option X) → is_none o ≡ not (is_some o)
none-some None = refl
none-some (Some x) = refl

-- a name that is there and not repeated is there once
pub in-one-is : (pairs : List FlatPair) (word : Word) → is_in_one (right_names pairs) (repeated [] (right_names pairs)) word ≡ nat_eq (length (equations_of pairs word)) 1
in-one-is pairs word =
    ap (λ b. b && is_none (position (repeated [] (right_names pairs)) word.name)) (position-known (right_names pairs) word.name ∙ known-is word.name (right_names pairs))
    ∙ ap (λ b. is_repeated true (times word.name (right_names pairs)) && b) (none-some (position (repeated [] (right_names pairs)) word.name) ∙ ap not (position-known (repeated [] (right_names pairs)) word.name ∙ repeated-is word.name [] (right_names pairs)))
    ∙ by (times word.name (right_names pairs)) ∙ ap (λ n. nat_eq n 1) (times-equations pairs word)
  where
    by : (n : ℕ) → (is_repeated true n && not (is_repeated false n)) ≡ nat_eq n 1
    by zero = refl
    by (suc zero) = refl
    by (suc (suc n)) = let e : nat_eq (suc (suc n)) 1 ≡ false = grind (arith, nat_tests) in sym e

-- one step of noting names
pub noted-step : (pairs : List FlatPair) (n : ℕ) (pair : FlatPair) (names names' again again' : List Name) → n < length pairs → pair ≡ get_or pairs n pair →
    names' ≡ names ++ pair.right.name ∷ [] → again' ≡ again ++ repeated_if names pair.right.name →
    (names ++ right_names (drop n pairs) ≡ right_names pairs) × (again ++ repeated names (right_names (drop n pairs)) ≡ repeated [] (right_names pairs)) →
    (names' ++ right_names (drop (n + 1) pairs) ≡ right_names pairs) × (again' ++ repeated names' (right_names (drop (n + 1) pairs)) ≡ repeated [] (right_names pairs))
noted-step pairs n pair names names' again again' below here put more known =
    let rest = drop_read_one pairs n pair below here in
    let a : names ++ pair.right.name ∷ right_names (drop (n + 1) pairs) ≡ right_names pairs = ap (λ l. names ++ right_names l) (sym rest) ∙ known.0 in
    let b : again ++ (repeated_if names pair.right.name ++ repeated (names ++ pair.right.name ∷ []) (right_names (drop (n + 1) pairs))) ≡ repeated [] (right_names pairs) = ap (λ l. again ++ repeated names (right_names l)) (sym rest) ∙ known.1 in (
      ap (λ l. l ++ right_names (drop (n + 1) pairs)) put ∙ append_assoc names (pair.right.name ∷ []) (right_names (drop (n + 1) pairs)) ∙ a,
      ap (λ l. l ++ repeated names' (right_names (drop (n + 1) pairs))) more ∙ ap (λ l. (again ++ repeated_if names pair.right.name) ++ repeated l (right_names (drop (n + 1) pairs))) put
          ∙ append_assoc again (repeated_if names pair.right.name) (repeated (names ++ pair.right.name ∷ []) (right_names (drop (n + 1) pairs))) ∙ b,
    )
