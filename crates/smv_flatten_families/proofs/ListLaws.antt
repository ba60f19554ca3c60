-- The different ones of some lists, one after the other.
use Rattle.std.proofs.Common.{◌≡◌, ℕ, List, [], ◌∷◌, ◌++◌, length, map, filter, Bool, true, false, cond, not, ◌||◌, refl, ap, sym, subst, ◌∙◌, Bor}
use Rattle.std.specs.Prelude.{Option, Some, None, is_some}
use Rattle.std.specs.List.{list_any}
use Rattle.std.specs.HashMap.{get}
use Rattle.std.proofs.lemmas.List.{append-nil, map-append, length-map}
use Rattle.std.proofs.lemmas.List.Elements.{filter-append}
use Rattle.law_lists.proofs.Booleans.{same_tests}
use Rattle.smv_core.specs.Values.{Path}
use Rattle.smv_core.specs.Types.{names_of}
use Rattle.smv_core.specs.Outcome.{same_path}
use Rattle.smv_core.specs.declared.tree.Word.{Word}
use Rattle.law_designs.specs.Flattening.{different}
use Rattle.law_designs.proofs.Different.{different-keeps}
use Rattle.law_designs.proofs.TypeNumbers.{paths-decide}
use Rattle.smv_flatten_families.specs.Paths.{first_place, found_or}
use Rattle.smv_flatten_families.specs.Lists.{AreLists}
use Rattle.smv_flatten_families.specs.declared.enums.Lists.{Lists}
use Rattle.smv_flatten_families.proofs.PathLaws.{first_place-push, place-known}
use Rattle.smv_flatten_families.proofs.NumberLaws.{path-sym}

-- one more is one more of the different ones, unless it is there
pub different-push : {X : Type 0} (same : X → X → Bool) (xs : List X) (y : X) → different same (xs ++ y ∷ []) ≡ different same xs ++ cond (list_any (λ x. same x y) xs) [] (y ∷ [])
different-push same [] y = refl
different-push {X} same (x ∷ xs) y =
    ap (λ l. x ∷ filter (λ z. not (same x z)) l) (different-push same xs y)
    ∙ ap (λ l. x ∷ l) (filter-append (λ z. not (same x z)) (different same xs) (cond (list_any (λ x. same x y) xs) [] (y ∷ [])))
    ∙ ap (λ l. x ∷ filter (λ z. not (same x z)) (different same xs) ++ l) (by (list_any (λ x. same x y) xs) (same x y) refl)
  where
    by : (b c : Bool) → same x y ≡ c → filter (λ z. not (same x z)) (cond b [] (y ∷ [])) ≡ cond (c || b) [] (y ∷ [])
    by true true e = refl
    by true false e = refl
    by false true e = ap (λ t. cond (not t) (y ∷ []) []) e
    by false false e = ap (λ t. cond (not t) (y ∷ []) []) e

filter-less : {X : Type 0} (p test : X → Bool) (xs : List X) → list_any p (filter test xs) ≡ true → list_any p xs ≡ true
filter-less p test [] e = e
filter-less {X} p test (x ∷ xs) e = by (test x) e (filter-less p test xs)
  where
    either : (c : Bool) → (c || list_any p (filter test xs)) ≡ true → (list_any p (filter test xs) ≡ true → list_any p xs ≡ true) → (c || list_any p xs) ≡ true
    either true e ih = refl
    either false e ih = ih e

    behind : (c : Bool) → list_any p xs ≡ true → (c || list_any p xs) ≡ true
    behind true e = refl
    behind false e = e

    by : (b : Bool) → list_any p (cond b (x ∷ filter test xs) (filter test xs)) ≡ true → (list_any p (filter test xs) ≡ true → list_any p xs ≡ true) → (p x || list_any p xs) ≡ true
    by true e ih = either (p x) e ih
    by false e ih = behind (p x) (ih e)

-- what is among the different ones is among all
different-less : (p : Path → Bool) (xs : List Path) → list_any p (different same_path xs) ≡ true → list_any p xs ≡ true
different-less p [] e = e
different-less p (x ∷ xs) e = by (p x) e (different-less p xs)
  where
    by : (c : Bool) → (c || list_any p (filter (λ y. not (same_path x y)) (different same_path xs))) ≡ true → (list_any p (different same_path xs) ≡ true → list_any p xs ≡ true) → (c || list_any p xs) ≡ true
    by true e ih = refl
    by false e ih = ih (filter-less p (λ y. not (same_path x y)) (different same_path xs) e)

-- one of the lists is the same as this one where one of the different ones is
pub any-different : (xs : List Path) (q : Path) → list_any (λ x. same_path x q) xs ≡ is_some (first_place (different same_path xs) q)
any-different xs q =
    turned xs
    ∙ same_tests (list_any (same_path q) xs) (list_any (same_path q) (different same_path xs)) (different-keeps same_path paths-decide q xs) (different-less (same_path q) xs)
    ∙ sym (turned (different same_path xs)) ∙ sym (place-known (different same_path xs) q)
  where
    turned : (l : List Path) → list_any (λ x. same_path x q) l ≡ list_any (same_path q) l
    turned [] = refl
    turned (x ∷ l) = ap (λ b. b || list_any (λ x. same_path x q) l) (path-sym x q) ∙ ap (λ b. same_path q x || b) (turned l)

-- what has a place keeps it
found-stays : (o : Option ℕ) (b : Bool) (n : ℕ) → is_some o ≡ true → o ≡ found_or o b n
found-stays None b n e = absurd (cc)
found-stays (Some i) b n e = refl

-- a list that is among them
pub list-known : (lists : Lists) (seen : List Path) (names : Path) (found : Option ℕ) (i : ℕ) → found ≡ get same_path lists.places names → found ≡ Some i → AreLists lists seen → AreLists lists (seen ++ names ∷ [])
list-known lists seen names found i at known are =
    let there : is_some (first_place (different same_path seen) names) ≡ true = ap is_some (sym (at ∙ are.places names) ∙ known) in
    let same : different same_path (seen ++ names ∷ []) ≡ different same_path seen =
    different-push same_path seen names ∙ ap (λ b. different same_path seen ++ cond b [] (names ∷ [])) (any-different seen names ∙ there) ∙ append-nil (different same_path seen) in
    record { words = are.words ∙ sym same; places = λ q. are.places q ∙ ap (λ l. first_place l q) (sym same) }

-- a list that is not
pub list-new : (lists lists' : Lists) (seen : List Path) (words : Bor (List Word)) (names : Path) (place : ℕ) (found : Option ℕ) → names ≡ names_of words.now → place ≡ length lists.words.items
    → found ≡ get same_path lists.places names → found ≡ None → lists'.words.items ≡ lists.words.items ++ words ∷ []
    → ((other : Path) → get same_path lists'.places other ≡ found_or (get same_path lists.places other) (same_path names other) place)
    → AreLists lists seen → AreLists lists' (seen ++ names_of words.now ∷ [])
list-new lists lists' seen words names place found is long at new more noted are =
    let there : is_some (first_place (different same_path seen) names) ≡ false = ap is_some (sym (at ∙ are.places names) ∙ new) in
    let same : different same_path (seen ++ names ∷ []) ≡ different same_path seen ++ names ∷ [] =
    different-push same_path seen names ∙ ap (λ b. different same_path seen ++ cond b [] (names ∷ [])) (any-different seen names ∙ there) in
    let size : place ≡ length (different same_path seen) = long ∙ sym (length-map lists.words.items (λ words. names_of words.now)) ∙ ap length are.words in
    let held : AreLists lists' (seen ++ names ∷ []) = record {
      words =
          ap (map (λ words. names_of words.now)) more ∙ map-append (λ words. names_of words.now) lists.words.items (words ∷ []) ∙ ap (λ l. l ++ names_of words.now ∷ []) are.words
          ∙ ap (λ n. different same_path seen ++ n ∷ []) (sym is) ∙ sym same;
      places = λ q.
          noted q ∙ ap (λ o. found_or o (same_path names q) place) (are.places q) ∙ ap (found_or (first_place (different same_path seen) q) (same_path names q)) size
          ∙ sym (first_place-push (different same_path seen) names q) ∙ ap (λ l. first_place l q) (sym same);
    } in
    subst (λ n. AreLists lists' (seen ++ n ∷ [])) is held
