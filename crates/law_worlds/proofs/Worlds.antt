-- The world of a well-formed case, by the numbers of its problem.
use Rattle.std.proofs.Common.{◌≡◌, ℕ, zero, suc, List, [], ◌∷◌, ◌++◌, map, length, get_or, true, false, ◌&&◌, refl, sym, ap, subst, ◌∙◌, bytes_eq, nat_eq}
use Rattle.std.specs.Prelude.{unwrap_or}
use Rattle.std.specs.List.{flat_map, slice_get}
use Rattle.std.proofs.lemmas.Slice.Eq.{bytes_eq-Decides}
use Rattle.std.proofs.lemmas.List.{length-map}
use Rattle.law_lists.proofs.Numbers.{nat_eq-is}
use Rattle.law_lists.proofs.Booleans.{same_tests}
use Rattle.smv_core.specs.Values.{Name}
use Rattle.smv_core.specs.declared.flat.SetInfo.{SetInfo}
use Rattle.law_obligations.specs.Sets.{Has, first, later}
use Rattle.law_obligations.specs.Places.{World}
use Rattle.law_obligations.proofs.Same.{nat_eq-itself}
use Rattle.law_obligations.proofs.Members.{Has-left, Has-right}
use Rattle.law_obligations.specs.Outlines.{place_of}
use Rattle.law_obligations.specs.Readings.{PosedCase}
use Rattle.smv_spots.specs.Spots.{is_ordset, name_of, both_or_none, AreTypes}
use Rattle.smv_problem.specs.Written.{written, written_type, name_number, set_numbers_of, orders_of}
use Rattle.smv_problem.specs.WellFormed.{IsWellFormed}
use Rattle.smv_typed_spots.proofs.TypedLaws.{found}
use Rattle.smv_problem_spots.specs.Worlds.{IsWorldOf, name_at, name_number_at, is_one_constant}

-- ---- lists

get_map : {X Y : Type 0} (f : X → Y) (d : X) (e : Y) → e ≡ f d → (xs : List X) (k : ℕ) → get_or (map f xs) k e ≡ f (get_or xs k d)
get_map f d e same [] k = same
get_map f d e same (x ∷ xs) zero = refl
get_map f d e same (x ∷ xs) (suc k) = get_map f d e same xs k

-- ---- numbers of names

-- names that are numbered are told apart as their numbers are
numbers_tell : (names : List Name) (a b : Name) → Has names a → Has names b → bytes_eq a b ≡ nat_eq (unwrap_or (place_of (bytes_eq a) names) 0) (unwrap_or (place_of (bytes_eq b) names) 0)
numbers_tell names a b h k =
    let x = found names a h in
    let y = found names b k in
    let number : Name → ℕ = λ name. unwrap_or (place_of (bytes_eq name) names) 0 in
    same_tests (bytes_eq a b) (nat_eq (number a) (number b))
    (λ e. subst (λ c. nat_eq (number a) (number c) ≡ true) ((bytes_eq-Decides a b).0 e) (nat_eq-itself (number a)))
    (λ e.
    let px : number a ≡ x.0 = ap (λ o. unwrap_or o 0) x.1.is_found in
    let py : number b ≡ y.0 = ap (λ o. unwrap_or o 0) y.1.is_found in
    let same : x.0 ≡ y.0 = sym px ∙ (nat_eq-is (number a) (number b) e ∙ py) in
    (bytes_eq-Decides a b).1 (sym x.1.is_there ∙ (ap (λ k. get_or names k []) same ∙ y.1.is_there)))

numbered : (enums : List (List Name)) (a b : Name) → Has ([] ∷ flat_map (λ names. names) enums) a → Has ([] ∷ flat_map (λ names. names) enums) b → bytes_eq a b ≡ nat_eq (name_number enums a) (name_number enums b)
numbered enums a b h k = numbers_tell ([] ∷ flat_map (λ names. names) enums) a b h k

-- a name at a place, or none
at_place : (names : List Name) (k : ℕ) → Has ([] ∷ names) (get_or names k [])
at_place [] k = first
at_place (name ∷ names) zero = later first
at_place (name ∷ names) (suc k) = past (at_place names k)
  where
    past : {x : Name} → Has ([] ∷ names) x → Has ([] ∷ name ∷ names) x
    past first = first
    past (later h) = later (later h)

in_list : (enums : List (List Name)) (list : ℕ) (name : Name) → Has ([] ∷ get_or enums list []) name → Has ([] ∷ flat_map (λ names. names) enums) name
in_list [] list name h = h
in_list (names ∷ enums) zero name h = here h
  where
    here : {x : Name} → Has ([] ∷ names) x → Has ([] ∷ (names ++ flat_map (λ names. names) enums)) x
    here first = first
    here (later h) = later (Has-left (flat_map (λ names. names) enums) h)
in_list (names ∷ enums) (suc list) name h = past (in_list enums list name h)
  where
    past : {x : Name} → Has ([] ∷ flat_map (λ names. names) enums) x → Has ([] ∷ (names ++ flat_map (λ names. names) enums)) x
    past first = first
    past (later h) = later (Has-right names h)

constant_number : (enums all : List (List Name)) (list k : ℕ) → name_number_at (map (map (name_number all)) enums) list k ≡ name_number all (name_at enums list k)
constant_number enums all list k =
    ap (λ numbers. get_or numbers k 0) (get_map (map (name_number all)) [] [] refl enums list) ∙ get_map (name_number all) [] 0 refl (get_or enums list []) k

constants_tell : (enums : List (List Name)) (list k other m : ℕ) → bytes_eq (name_at enums list k) (name_at enums other m) ≡ is_one_constant (map (map (name_number enums)) enums) list k other m
constants_tell enums list k other m =
    numbered enums (name_at enums list k) (name_at enums other m) (in_list enums list (name_at enums list k) (at_place (get_or enums list []) k)) (in_list enums other (name_at enums other m) (at_place (get_or enums other []) m))
    ∙ (ap (λ n. nat_eq n (name_number enums (name_at enums other m))) (sym (constant_number enums enums list k))
    ∙ ap (λ n. nat_eq (name_number_at (map (map (name_number enums)) enums) list k) n) (sym (constant_number enums enums other m)))

-- ---- set types

abbrev names_of : List SetInfo → List Name
names_of sets = map (λ (info : SetInfo). info.name) sets

set_name : (all : List (List Name)) (sets : List SetInfo) (set : ℕ) → get_or (map (λ (info : SetInfo). name_number all info.name) sets) set 0 ≡ name_number all (name_of (slice_get sets set))
set_name all [] set = refl
set_name all (info ∷ sets) zero = refl
set_name all (info ∷ sets) (suc set) = set_name all sets set

name_there : (sets : List SetInfo) (set : ℕ) → Has ([] ∷ flat_map (λ names. names) (names_of sets ∷ [])) (name_of (slice_get sets set))
name_there sets set = in_list (names_of sets ∷ []) 0 (name_of (slice_get sets set)) (at sets set)
  where
    past : {names : List Name} {x y : Name} → Has ([] ∷ names) x → Has ([] ∷ y ∷ names) x
    past first = first
    past (later h) = later (later h)

    at : (sets : List SetInfo) (set : ℕ) → Has ([] ∷ names_of sets) (name_of (slice_get sets set))
    at [] set = first
    at (info ∷ sets) zero = later first
    at (info ∷ sets) (suc set) = past (at sets set)

set_names_tell : (sets : List SetInfo) (s t : ℕ) → bytes_eq (name_of (slice_get sets s)) (name_of (slice_get sets t)) ≡ nat_eq (get_or (set_numbers_of sets) s 0) (get_or (set_numbers_of sets) t 0)
set_names_tell sets s t =
    let all = names_of sets ∷ [] in
    numbered all (name_of (slice_get sets s)) (name_of (slice_get sets t)) (name_there sets s) (name_there sets t)
    ∙ (ap (λ n. nat_eq n (name_number all (name_of (slice_get sets t)))) (sym (set_name all sets s)) ∙ ap (λ n. nat_eq (get_or (set_numbers_of sets) s 0) n) (sym (set_name all sets t)))

types_written : (w : World) (sets : List SetInfo) → AreTypes w sets (map (written_type w) sets)
types_written w [] = tt
types_written w (info ∷ sets) = (refl, refl, types_written w sets)

ordered_there : (sets : List SetInfo) (set : ℕ) → is_ordset (slice_get sets set) ≡ get_or (orders_of sets) set false
ordered_there [] set = refl
ordered_there (info ∷ sets) zero = refl
ordered_there (info ∷ sets) (suc set) = ordered_there sets set

module _ (c : PosedCase) (well : IsWellFormed c) where
  abbrev w : World
  w = c.problem.world

  pub world_of_case : IsWorldOf (written c) c.problem.world
  unfolding written
  world_of_case = record {
    families = refl;
    lists = λ list. sym (get_map length [] 0 refl w.classes.enums list);
    names = λ list. ap (λ (ns : List ℕ). length ns) (get_map (map (name_number w.classes.enums)) [] [] refl w.classes.enums list) ∙ (length-map (get_or w.classes.enums list []) (name_number w.classes.enums) ∙ sym (get_map length [] 0 refl w.classes.enums list));
    forms = types_written w w.classes.sets;
    ordered = ordered_there w.classes.sets;
    sets = λ s t.
        ap (λ b. both_or_none b (is_ordset (slice_get w.classes.sets t)) && bytes_eq (name_of (slice_get w.classes.sets s)) (name_of (slice_get w.classes.sets t))) (ordered_there w.classes.sets s)
        ∙ (ap (λ b. both_or_none (get_or (orders_of w.classes.sets) s false) b && bytes_eq (name_of (slice_get w.classes.sets s)) (name_of (slice_get w.classes.sets t))) (ordered_there w.classes.sets t)
        ∙ ap (λ b. both_or_none (get_or (orders_of w.classes.sets) s false) (get_or (orders_of w.classes.sets) t false) && b) (set_names_tell w.classes.sets s t));
    constants = λ list k other m. constants_tell w.classes.enums list k other m;
  }
