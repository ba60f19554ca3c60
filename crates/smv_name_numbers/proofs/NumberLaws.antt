-- The first place of a name among all names is its number.
use Rattle.std.proofs.Common.{◌≡◌, ℕ, suc, List, [], ◌∷◌, ◌++◌, map, flat_map, Option, Some, Result, Ok, Err, Bool, if◌then◌else◌, option_map, refl, sym, ap, ◌∙◌}
use Rattle.std.specs.Prelude.{unwrap_or}
use Rattle.std.specs.Result.{IfOk}
use Rattle.std.specs.Str.{bytes_eq}
use Rattle.std.proofs.lemmas.Slice.Eq.{bytes_eq-Decides}
use Rattle.law_lists.proofs.Booleans.{same_tests}
use Rattle.law_lists.proofs.Lists.{map_agree}
use Rattle.smv_core.specs.Values.{Name}
use Rattle.law_obligations.specs.Outlines.{place_of}
use Rattle.name_index.specs.Position.{position}
use Rattle.smv_core.specs.declared.flat.SetInfo.{SetInfo}
use Rattle.smv_problem.specs.Written.{name_number, set_numbers_of}
use Rattle.smv_name_numbers.specs.Places.{place_among}

turned : (x name : Name) → bytes_eq x name ≡ bytes_eq name x
turned x name =
    same_tests (bytes_eq x name) (bytes_eq name x)
    (λ e. (bytes_eq-Decides name x).1 (sym ((bytes_eq-Decides x name).0 e))) (λ e. (bytes_eq-Decides x name).1 (sym ((bytes_eq-Decides name x).0 e)))

place-is : (names : List Name) (name : Name) → position names name ≡ place_of (bytes_eq name) names
place-is [] name = refl
place-is (x ∷ names) name =
    ap (λ (b : Bool). if b then Some 0 else option_map suc (position names name)) (turned x name) ∙ ap (λ (o : Option ℕ). if bytes_eq name x then Some 0 else option_map suc o) (place-is names name)

numbers-are : (enums : List (List Name)) (all : List Name) (numbers : List (List ℕ)) → all ≡ [] ∷ flat_map (λ names. names) enums → numbers ≡ map (map (place_among all)) enums → numbers ≡ map (map (name_number enums)) enums
numbers-are enums all numbers whole is =
    is ∙ map_agree (map (place_among all)) (map (name_number enums)) (map_agree (place_among all) (name_number enums)
    (λ name. ap (λ (names : List Name). unwrap_or (position names name) 0) whole ∙ ap (λ (o : Option ℕ). unwrap_or o 0) (place-is ([] ∷ flat_map (λ names. names) enums) name))) enums

-- after the calls that make the index
pub numbers-made : {E : Type 0} (r : Result (List (List ℕ)) E) (enums : List (List Name)) (fresh pushed all : List Name) (empty : Name) → fresh ≡ [] → empty ≡ [] → pushed ≡ fresh ++ empty ∷ [] → all ≡ pushed ++ flat_map (λ names. names) enums →
    IfOk r (λ numbers. numbers ≡ map (map (place_among all)) enums) → IfOk r (λ numbers. numbers ≡ map (map (name_number enums)) enums)
numbers-made (Err e) enums fresh pushed all empty f n p a h = tt
numbers-made (Ok numbers) enums fresh pushed all empty f n p a h =
    numbers-are enums all numbers (a ∙ ap (λ (l : List Name). l ++ flat_map (λ names. names) enums) (p ∙ (ap (λ (l : List Name). l ++ empty ∷ []) f ∙ ap (λ (name : Name). name ∷ []) n))) h

nothing-behind : (names : List Name) → names ++ [] ≡ names
nothing-behind [] = refl
nothing-behind (name ∷ names) = ap (λ l. name ∷ l) (nothing-behind names)

set-numbers-are : (sets : List SetInfo) (all : List Name) (numbers : List ℕ) → all ≡ [] ∷ map (λ (info : SetInfo). info.name) sets → numbers ≡ map (λ (info : SetInfo). place_among all info.name) sets → numbers ≡ set_numbers_of sets
set-numbers-are sets all numbers whole is =
    let names = map (λ (info : SetInfo). info.name) sets in
    is ∙ map_agree (λ (info : SetInfo). place_among all info.name) (λ (info : SetInfo). name_number (names ∷ []) info.name) (λ info.
    ap (λ (l : List Name). unwrap_or (position l info.name) 0) (whole ∙ ap (λ (l : List Name). [] ∷ l) (sym (nothing-behind names))) ∙ ap (λ (o : Option ℕ). unwrap_or o 0) (place-is ([] ∷ (names ++ [])) info.name)) sets

-- and for set types
pub set-numbers-made : {E : Type 0} (r : Result (List ℕ) E) (sets : List SetInfo) (fresh pushed all : List Name) (empty : Name) → fresh ≡ [] → empty ≡ [] → pushed ≡ fresh ++ empty ∷ [] → all ≡ pushed ++ map (λ (info : SetInfo). info.name) sets →
    IfOk r (λ numbers. numbers ≡ map (λ (info : SetInfo). place_among all info.name) sets) → IfOk r (λ numbers. numbers ≡ set_numbers_of sets)
set-numbers-made (Err e) sets fresh pushed all empty f n p a h = tt
set-numbers-made (Ok numbers) sets fresh pushed all empty f n p a h =
    set-numbers-are sets all numbers (a ∙ ap (λ (l : List Name). l ++ map (λ (info : SetInfo). info.name) sets) (p ∙ (ap (λ (l : List Name). l ++ empty ∷ []) f ∙ ap (λ (name : Name). name ∷ []) n))) h
