-- Worlds by numbers: what spots are there.
use Rattle.std.proofs.Common.{◌≡◌, ◌<◌, ℕ, zero, suc, ◌+◌, ◌-◌, List, [], ◌∷◌, map, length, get_or, slice_get, Option, Some, None, option_map, Bool, true, false, ◌&&◌, ◌||◌, bytes_eq, nat_eq, nat_lt, nat_le, if◌then◌else◌, arith, refl, sym, ap, subst, ◌∙◌}
use Rattle.std.specs.List.{list_any}
use Rattle.smv_core.specs.Values.{Name, constant, scalar, ordinal, same, below, numbers_from}
use Rattle.smv_core.specs.declared.flat.Simple.{Simple}
use Rattle.smv_core.specs.declared.flat.Simple.TheVariants.{Range, Enum, Set}
use Rattle.smv_core.specs.declared.flat.SetInfo.{SetInfo}
use Rattle.smv_core.specs.declared.flat.Design.{Design}
use Rattle.law_obligations.specs.Places.{World, named_in, rests_in, places_in, is_among, same_place, as_place}
use Rattle.smv_spots.specs.declared.spots.Spot.{Spot}
use Rattle.smv_spots.specs.declared.spots.Spot.TheVariants as spot
use Rattle.smv_spots.specs.declared.places.Sort.TheVariants as sort
use Rattle.smv_spots.specs.Spots.{is_ordset, of_set, both_or_none, is_same_set, place_in, outcome_in, spot_of, classes_of, rests_of, IsWorld}
use Rattle.std.proofs.lemmas.Option.{slice_get-get_or}
use Rattle.law_lists.proofs.Anys.{any-map}
use Rattle.law_lists.proofs.Numbers.{nat_eq-turned}
use Rattle.smv_spots.proofs.Numbers.{along}
use Rattle.smv_spots.proofs.TypeLaws as types
use Rattle.smv_problem.specs.declared.problem.Problem.{Problem}
use Rattle.smv_problem_spots.specs.Worlds.{IsWorldOf, name_at, count_at, is_one_set, is_one_constant, is_listed_constant, name_number_at, is_ordered}

-- a design with the names of a world
abbrev pub named_design : World → Design
named_design w = record { sets = w.classes.sets; enums = w.classes.enums; layers = []; families = w.classes.families; defs = []; claims = []; splits = []; uses = [] }

pub is_world : (p : Problem) (w : World) → IsWorldOf p w → IsWorld (named_design w) p.types w
is_world p w h = record { sets = refl; enums = refl; families = refl; forms = h.forms }

-- the same places
pub same_constants : (p : Problem) (w : World) → IsWorldOf p w → (list k other m : ℕ) → is_one_constant p.names list k other m ≡ same_place (place_in w.classes (spot.Constant list k)) (place_in w.classes (spot.Constant other m))
same_constants p w h list k other m = sym (h.constants list k other m)

pub same_classes : (p : Problem) (w : World) → IsWorldOf p w → (s k t m : ℕ) → (is_one_set p s t && nat_eq k m) ≡ same_place (place_in w.classes (spot.Class s k)) (place_in w.classes (spot.Class t m))
same_classes p w h s k t m = ap (λ b. b && nat_eq k m) (sym (h.sets s t)) ∙ sym (types.same_set_value (slice_get w.classes.sets s) (slice_get w.classes.sets t) k m)

pub same_rests : (p : Problem) (w : World) → IsWorldOf p w → (s k t m : ℕ) → (is_one_set p s t && nat_eq k m) ≡ same_place (place_in w.classes (spot.Rest s k)) (place_in w.classes (spot.Rest t m))
same_rests p w h s k t m = ap (λ b. b && nat_eq k m) (sym (h.sets s t)) ∙ sym (types.same_set_value (slice_get w.classes.sets s) (slice_get w.classes.sets t) k m)

-- values of set types, one below the other
both_ordered : (i j : Option SetInfo) (k m : ℕ) → below (Some (of_set i k)) (Some (of_set j m)) ≡ (if is_ordset i && is_same_set i j then Some (nat_lt k m) else None)
both_ordered None None k m = refl
both_ordered None (Some info) k m = at info.ordered
  where
    at : (b : Bool) → below (Some (scalar [] k)) (Some (if b then ordinal info.name m else scalar info.name m)) ≡ None
    at true = refl
    at false = refl
both_ordered (Some info) None k m = at info.ordered
  where
    at : (b : Bool) → below (Some (if b then ordinal info.name k else scalar info.name k)) (Some (scalar [] m)) ≡ (if b && (both_or_none b false && bytes_eq info.name []) then Some (nat_lt k m) else None)
    at true = refl
    at false = refl
both_ordered (Some info) (Some other) k m = at info.ordered other.ordered
  where
    at : (b c : Bool) → below (Some (if b then ordinal info.name k else scalar info.name k)) (Some (if c then ordinal other.name m else scalar other.name m)) ≡ (if b && (both_or_none b c && bytes_eq info.name other.name) then Some (nat_lt k m) else None)
    at true true = refl
    at true false = refl
    at false true = refl
    at false false = refl

below_in : (p : Problem) (w : World) → IsWorldOf p w → (s k t m : ℕ) → below (Some (of_set (slice_get w.classes.sets s) k)) (Some (of_set (slice_get w.classes.sets t) m)) ≡ (if is_ordered p s && is_one_set p s t then Some (nat_lt k m) else None)
below_in p w h s k t m = both_ordered (slice_get w.classes.sets s) (slice_get w.classes.sets t) k m ∙ (ap (λ b. if b && is_same_set (slice_get w.classes.sets s) (slice_get w.classes.sets t) then Some (nat_lt k m) else None) (h.ordered s) ∙ ap (λ b. if is_ordered p s && b then Some (nat_lt k m) else None) (h.sets s t))

pub below_where : (p : Problem) (w : World) → IsWorldOf p w → (s k t m : ℕ) → is_ordered p s ≡ true → is_one_set p s t ≡ true → Some (nat_lt k m) ≡ below (Some (of_set (slice_get w.classes.sets s) k)) (Some (of_set (slice_get w.classes.sets t) m))
below_where p w h s k t m e f = sym (below_in p w h s k t m ∙ (ap (λ b. if b && is_one_set p s t then Some (nat_lt k m) else None) e ∙ ap (λ b. if b then Some (nat_lt k m) else None) f))

pub below_nowhere : (p : Problem) (w : World) → IsWorldOf p w → (s k t m : ℕ) → (is_ordered p s && is_one_set p s t) ≡ false → None ≡ below (Some (of_set (slice_get w.classes.sets s) k)) (Some (of_set (slice_get w.classes.sets t) m))
below_nowhere p w h s k t m e = sym (below_in p w h s k t m ∙ ap (λ b. if b then Some (nat_lt k m) else None) e)

from_zero : (i : ℕ) → 0 + i ≡ i
from_zero i = omega arith

any_along : {X : Type 0} (g : ℕ → Bool) (f : X → Bool) (d : X) (xs : List X) → ((i : ℕ) → i < length xs → g i ≡ f (get_or xs i d)) → list_any g (numbers_from 0 (length xs)) ≡ list_any f xs
any_along g f d xs e = sym (any-map (λ b. b) g (numbers_from 0 (length xs))) ∙ (ap (list_any (λ b. b)) (along g f d 0 xs (λ i l. ap g (from_zero i) ∙ e i l)) ∙ any-map (λ b. b) f xs)

after_none : (n m : ℕ) → n ≡ m → 0 + n ≡ m
after_none n m e = omega arith

from_none : (k : ℕ) → nat_le 0 k ≡ true
from_none k = grind arith

never_past : (i n m : ℕ) → i < n → n ≡ m → nat_le m i ≡ false
never_past i n m l e = grind arith

-- a constant in an enumeration
constant_listed : (p : Problem) (w : World) → IsWorldOf p w → (list other k : ℕ) → list_any (bytes_eq (name_at w.classes.enums other k)) (get_or w.classes.enums list []) ≡ is_listed_constant p.names list other k
constant_listed p w h list other k =
    sym (any_along found (bytes_eq (name_at w.classes.enums other k)) [] names (λ i l. nat_eq-turned (name_number_at p.names list i) wanted ∙ sym (h.constants other k list i)))
    ∙ (ap (λ n. list_any found (numbers_from 0 n)) (h.lists list ∙ sym (h.names list)) ∙ any_along found (λ number. nat_eq number wanted) 0 numbers (λ i l. refl))
  where
    names : List Name
    names = get_or w.classes.enums list []

    numbers : List ℕ
    numbers = get_or p.names list []

    wanted : ℕ
    wanted = name_number_at p.names other k

    found : ℕ → Bool
    found i = nat_eq (name_number_at p.names list i) wanted

pub constant_among : (p : Problem) (w : World) → IsWorldOf p w → (list other k : ℕ) → is_listed_constant p.names list other k ≡ is_among (places_in w (Enum list)) (place_in w.classes (spot.Constant other k))
constant_among p w h list other k = sym (types.constant_in_list (named_design w) w list (name_at w.classes.enums other k) refl ∙ constant_listed p w h list other k)

-- a number is among those in which it stands
has-own : (xs : List ℕ) (k : ℕ) → k < length xs → list_any (λ number. nat_eq number (get_or xs k 0)) xs ≡ true
has-own [] k l = absurd (grind (arith, l))
has-own (x ∷ xs) zero l = ap (λ b. b || list_any (λ number. nat_eq number x) xs) (same_number x)
  where
    same_number : (n : ℕ) → nat_eq n n ≡ true
    same_number n = grind arith
has-own (x ∷ xs) (suc k) l = later (nat_eq x (get_or xs k 0)) (has-own xs k (grind (arith, l)))
  where
    later : {b : Bool} (c : Bool) → b ≡ true → (c || b) ≡ true
    later true e = refl
    later false e = e

pub own_constant : (names : List (List ℕ)) (list other k : ℕ) → list ≡ other → k < length (get_or names list []) → true ≡ is_listed_constant names list other k
own_constant names list other k same l = subst (λ o. true ≡ is_listed_constant names list o k) same (sym (has-own (get_or names list []) k l))

pub class_among : (p : Problem) (w : World) → IsWorldOf p w → (set other k : ℕ) → (nat_lt k (classes_of (slice_get p.types set)) && is_one_set p other set) ≡ is_among (places_in w (Set set)) (place_in w.classes (spot.Class other k))
class_among p w h set other k = sym (types.class_among (named_design w) p.types w set other k (is_world p w h) ∙ ap (λ b. nat_lt k (classes_of (slice_get p.types set)) && b) (h.sets other set))

pub rest_among : (p : Problem) (w : World) → IsWorldOf p w → (set other k : ℕ) → (nat_lt k (rests_of (slice_get p.types set)) && is_one_set p other set) ≡ is_among (places_in w (Set set)) (place_in w.classes (spot.Rest other k))
rest_among p w h set other k = sym (types.rest_among (named_design w) p.types w set other k (is_world p w h) ∙ ap (λ b. nat_lt k (rests_of (slice_get p.types set)) && b) (h.sets other set))

-- a constant by its number
there : {X : Type 0} (xs : List X) (k : ℕ) (d : X) → k < length xs → Some (get_or xs k d) ≡ slice_get xs k
there xs k d l = sym (slice_get-get_or xs k d l)

pub constant_there : (p : Problem) (w : World) → IsWorldOf p w → (list k : ℕ) → k < count_at p.lists list → outcome_in w.classes (Some (spot.Constant list k)) ≡ as_place (option_map constant (slice_get (get_or w.classes.enums list []) k))
constant_there p w h list k l = ap (λ o. as_place (option_map constant o)) (there (get_or w.classes.enums list []) k [] (let e : length (get_or w.classes.enums list []) ≡ count_at p.lists list = h.lists list in omega arith))

-- an answer for a type and a spot of a known form
pub by_form : (w : World) (over form : Simple) (p q : Spot) (b : Bool) → over ≡ form → p ≡ q → b ≡ is_among (places_in w form) (place_in w.classes q) → b ≡ is_among (places_in w over) (place_in w.classes p)
by_form w over form p q b e f h = types.by_form (named_design w) w over form p q b e f h

pub number_in_range : (w : World) (low high value : ℕ) → (nat_le low value && nat_le value high) ≡ is_among (places_in w (Range low high)) (place_in w.classes (spot.Number value))
number_in_range w low high value = sym (types.number_in_range w low high value)

pub other_in_range : (w : World) (low high : ℕ) (p : Spot) → ((k : ℕ) → p ≡ spot.Number k → ⊥) → false ≡ is_among (places_in w (Range low high)) (place_in w.classes p)
other_in_range w low high p h = sym (types.other_in_range (named_design w) w low high p h)

pub other_in_list : (w : World) (list : ℕ) (p : Spot) → ((l k : ℕ) → p ≡ spot.Constant l k → ⊥) → false ≡ is_among (places_in w (Enum list)) (place_in w.classes p)
other_in_list w list p h = sym (types.other_in_list (named_design w) w list p h)

pub other_in_set : (problem : Problem) (w : World) → IsWorldOf problem w → (set : ℕ) (p : Spot) → ((s k : ℕ) → p ≡ spot.Class s k → ⊥) → ((s k : ℕ) → p ≡ spot.Rest s k → ⊥) → false ≡ is_among (places_in w (Set set)) (place_in w.classes p)
other_in_set problem w h set p e f = sym (types.other_in_set (named_design w) problem.types w set p (is_world problem w h) e f)

-- the places of a type along its numbers
pub range_named : (w : World) (low high : ℕ) (over : Simple) (spots : List Spot) → over ≡ Range low high → spots ≡ map (spot_of sort.Number) (numbers_from low (high + 1 - low)) → map (place_in w.classes) spots ≡ named_in w over
range_named w low high over spots is made = ap (map (place_in w.classes)) made ∙ (types.range_named (named_design w) w low high ∙ ap (λ (t : Simple). named_in w t) (sym is))

pub enum_named : (p : Problem) (w : World) → IsWorldOf p w → (list n : ℕ) (over : Simple) (spots : List Spot) → over ≡ Enum list → n ≡ count_at p.lists list → spots ≡ map (spot_of (sort.Constant list)) (numbers_from 0 n) → map (place_in w.classes) spots ≡ named_in w over
enum_named p w h list n over spots is count made = ap (map (place_in w.classes)) made ∙ (types.enum_named (named_design w) w list n refl (count ∙ sym (h.lists list)) ∙ ap (λ (t : Simple). named_in w t) (sym is))

pub set_named : (p : Problem) (w : World) → IsWorldOf p w → (set n : ℕ) (over : Simple) (spots : List Spot) → over ≡ Set set → n ≡ classes_of (slice_get p.types set) → spots ≡ map (spot_of (sort.Class set)) (numbers_from 0 n) → map (place_in w.classes) spots ≡ named_in w over
set_named p w h set n over spots is count made = ap (map (place_in w.classes)) made ∙ (ap (λ m. map (place_in w.classes) (map (spot_of (sort.Class set)) (numbers_from 0 m))) count ∙ (types.classes_named (named_design w) p.types w set (is_world p w h) ∙ ap (λ (t : Simple). named_in w t) (sym is)))

pub set_rests : (p : Problem) (w : World) → IsWorldOf p w → (set n : ℕ) (over : Simple) (spots : List Spot) → over ≡ Set set → n ≡ rests_of (slice_get p.types set) → spots ≡ map (spot_of (sort.Rest set)) (numbers_from 0 n) → map (place_in w.classes) spots ≡ rests_in w over
set_rests p w h set n over spots is count made = ap (map (place_in w.classes)) made ∙ (ap (λ m. map (place_in w.classes) (map (spot_of (sort.Rest set)) (numbers_from 0 m))) count ∙ (types.rests_listed (named_design w) p.types w set (is_world p w h) ∙ ap (λ (t : Simple). rests_in w t) (sym is)))
