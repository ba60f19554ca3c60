-- The places of a type by spots.
use Rattle.std.proofs.Common.{◌≡◌, ℕ, zero, suc, ◌+◌, ◌-◌, List, [], ◌∷◌, ◌++◌, map, length, get_or, slice_get, Option, Some, None, Bool, true, false, ◌&&◌, ◌||◌, bytes_eq, nat_eq, nat_lt, nat_le, if◌then◌else◌, arith, refl, sym, ap, ◌∙◌}
use Rattle.std.proofs.lemmas.Slice.Eq.{bytes_eq-Decides}
use Rattle.std.specs.List.{list_any}
use Rattle.std.proofs.lemmas.List.Folds.{list_any-append}
use Rattle.law_lists.proofs.Lists.{map-map}
use Rattle.law_lists.proofs.Anys.{any-map, any-agree, any-never}
use Rattle.smv_core.specs.Values.{Name, number, constant, scalar, ordinal, same, scalarset, ordset, numbers_from}
use Rattle.smv_core.specs.FlatMeaning.{set_type}
use Rattle.smv_core.specs.declared.flat.Simple.{Simple as FlatSimple}
use Rattle.smv_core.specs.declared.flat.Simple.TheVariants.{Range, Enum, Set}
use Rattle.smv_core.specs.declared.flat.SetInfo.{SetInfo}
use Rattle.smv_core.specs.declared.flat.Design.{Design}
use Rattle.smv_core.specs.declared.abstract_type.AbsType.{AbsType}
use Rattle.smv_core.specs.declared.abstract_type.Rest.{Rest}
use Rattle.smv_core.specs.declared.abstract_type.Rest.TheVariants as beside
use Rattle.law_obligations.specs.Places.{Place, named, rest, World, named_in, rests_in, places_in, named_of, rests_of, rests_beside, is_among, same_place}
use Rattle.smv_spots.specs.declared.spots.Spot.{Spot}
use Rattle.smv_spots.specs.declared.spots.Spot.TheVariants as spot
use Rattle.smv_spots.specs.declared.places.Sort.TheVariants as sort
use Rattle.smv_spots.specs.Spots.{name_of, is_ordset, of_set, both_or_none, is_same_set, place_by, spot_of, classes_of, count_beside, rests_of as rests_count, AreTypes, IsWorld}
use Rattle.smv_spots.proofs.Numbers.{same_maps, along, number_among}

-- what is known of a set type
pub record TypeAt (w : World) (sets : List SetInfo) (set : ℕ) (t : AbsType) : Type 0 where
  pub info : SetInfo
  pub is : slice_get sets set ≡ Some info
  pub named : w.classes.sizes info.name ≡ t.named
  pub rest : w.rests info.name ≡ t.rest

pub type_at : (w : World) (sets : List SetInfo) (types : List AbsType) (set : ℕ) (t : AbsType) → AreTypes w sets types → slice_get types set ≡ Some t → TypeAt w sets set t
type_at w [] [] set t h e = absurd (cc)
type_at w [] (u ∷ us) set t h e = absurd h
type_at w (info ∷ infos) [] set t h e = absurd h
type_at w (info ∷ infos) (u ∷ us) zero t h e = let same : u ≡ t = (cc) in record { info = info; is = refl; named = h.0 ∙ ap (λ (x : AbsType). x.named) same; rest = h.1 ∙ ap (λ (x : AbsType). x.rest) same }
type_at w (info ∷ infos) (u ∷ us) (suc set) t h e = let r = type_at w infos us set t h.2 e in record { info = r.info; is = r.is; named = r.named; rest = r.rest }

pub no_type_at : (w : World) (sets : List SetInfo) (types : List AbsType) (set : ℕ) → AreTypes w sets types → slice_get types set ≡ None → slice_get sets set ≡ None
no_type_at w [] types set h e = refl
no_type_at w (info ∷ infos) [] set h e = absurd h
no_type_at w (info ∷ infos) (u ∷ us) zero h e = absurd (cc)
no_type_at w (info ∷ infos) (u ∷ us) (suc set) h e = no_type_at w infos us set h.2 e

-- numbers
pub range_named : (design : Design) (w : World) (low high : ℕ) → map (place_by design) (map (spot_of sort.Number) (numbers_from low (high + 1 - low))) ≡ named_in w (Range low high)
range_named design w low high = same_maps (place_by design) (spot_of sort.Number) named number (numbers_from low (high + 1 - low)) (λ k. refl)

-- constants
pub names_named : (design : Design) (list : ℕ) (names : List Name) → get_or design.enums list [] ≡ names → map (place_by design) (map (spot_of (sort.Constant list)) (numbers_from 0 (length names))) ≡ map named (map constant names)
names_named design list names e =
    map-map (place_by design) (spot_of (sort.Constant list)) (numbers_from 0 (length names))
    ∙ (along (λ k. place_by design (spot.Constant list k)) (λ c. named (constant c)) [] 0 names (λ i l. ap (λ cs. named (constant (get_or cs (0 + i) []))) e ∙ ap (λ k. named (constant (get_or names k []))) (omega arith))
    ∙ sym (map-map named constant names))

pub enum_named : (design : Design) (w : World) (list n : ℕ) → w.classes.enums ≡ design.enums → n ≡ length (get_or design.enums list []) → map (place_by design) (map (spot_of (sort.Constant list)) (numbers_from 0 n)) ≡ named_in w (Enum list)
enum_named design w list n e h =
    ap (λ m. map (place_by design) (map (spot_of (sort.Constant list)) (numbers_from 0 m))) h
    ∙ (names_named design list (get_or design.enums list []) refl ∙ ap (λ enums. map named (map constant (get_or enums list []))) (sym e))

-- classes and rests
set_value : (info : SetInfo) (w : World) (n : ℕ) → w.classes.sizes info.name ≡ n → map (λ k. named (of_set (Some info) k)) (numbers_from 0 n) ≡ named_of w (set_type (Some info))
set_value info w n e = at info.ordered
  where
    at : (b : Bool) → map (λ k. named (if b then ordinal info.name k else scalar info.name k)) (numbers_from 0 n) ≡ named_of w (if b then ordset info.name else scalarset info.name)
    at true = sym (map-map named (ordinal info.name) (numbers_from 0 n)) ∙ ap (λ m. map named (map (ordinal info.name) (numbers_from 0 m))) (sym e)
    at false = sym (map-map named (scalar info.name) (numbers_from 0 n)) ∙ ap (λ m. map named (map (scalar info.name) (numbers_from 0 m))) (sym e)

pub set_named : (design : Design) (w : World) (set : ℕ) (t : AbsType) → w.classes.sets ≡ design.sets → TypeAt w design.sets set t → map (place_by design) (map (spot_of (sort.Class set)) (numbers_from 0 t.named)) ≡ named_in w (Set set)
set_named design w set t e h =
    map-map (place_by design) (spot_of (sort.Class set)) (numbers_from 0 t.named)
    ∙ (ap (λ o. map (λ k. named (of_set o k)) (numbers_from 0 t.named)) h.is
    ∙ (set_value h.info w t.named h.named ∙ ap (λ o. named_of w (set_type o)) (sym (ap (λ sets. slice_get sets set) e ∙ h.is))))

pub numbers_beside : (r : Rest) (n : ℕ) → numbers_from 0 (count_beside r n) ≡ rests_beside r n
numbers_beside beside.None n = refl
numbers_beside beside.One n = refl
numbers_beside beside.Gaps n = refl

set_rest : (info : SetInfo) (w : World) (t : AbsType) → w.classes.sizes info.name ≡ t.named → w.rests info.name ≡ t.rest → map (λ k. rest (of_set (Some info) k)) (rests_beside t.rest t.named) ≡ rests_of w (set_type (Some info))
set_rest info w t e f = at info.ordered
  where
    at : (b : Bool) → map (λ k. rest (if b then ordinal info.name k else scalar info.name k)) (rests_beside t.rest t.named) ≡ rests_of w (if b then ordset info.name else scalarset info.name)
    at true = ap (λ r. map (λ k. rest (ordinal info.name k)) (rests_beside r t.named)) (sym f) ∙ ap (λ m. map (λ k. rest (ordinal info.name k)) (rests_beside (w.rests info.name) m)) (sym e)
    at false = ap (λ r. map (λ k. rest (scalar info.name k)) (rests_beside r t.named)) (sym f) ∙ ap (λ m. map (λ k. rest (scalar info.name k)) (rests_beside (w.rests info.name) m)) (sym e)

pub set_rests : (design : Design) (w : World) (set : ℕ) (t : AbsType) → w.classes.sets ≡ design.sets → TypeAt w design.sets set t → map (place_by design) (map (spot_of (sort.Rest set)) (numbers_from 0 (count_beside t.rest t.named))) ≡ rests_in w (Set set)
set_rests design w set t e h =
    map-map (place_by design) (spot_of (sort.Rest set)) (numbers_from 0 (count_beside t.rest t.named))
    ∙ (ap (λ o. map (λ k. rest (of_set o k)) (numbers_from 0 (count_beside t.rest t.named))) h.is
    ∙ (ap (λ ks. map (λ k. rest (of_set (Some h.info) k)) ks) (numbers_beside t.rest t.named)
    ∙ (set_rest h.info w t h.named h.rest ∙ ap (λ o. rests_of w (set_type o)) (sym (ap (λ sets. slice_get sets set) e ∙ h.is)))))

pub no_set : (w : World) (sets : List SetInfo) (set : ℕ) → w.classes.sets ≡ sets → slice_get sets set ≡ None → places_in w (Set set) ≡ []
no_set w sets set e h = ap (λ o. named_of w (set_type o) ++ rests_of w (set_type o)) (ap (λ s. slice_get s set) e ∙ h)

pub no_set_named : (w : World) (sets : List SetInfo) (set : ℕ) → w.classes.sets ≡ sets → slice_get sets set ≡ None → named_in w (Set set) ≡ []
no_set_named w sets set e h = ap (λ o. named_of w (set_type o)) (ap (λ s. slice_get s set) e ∙ h)

pub no_set_rests : (w : World) (sets : List SetInfo) (set : ℕ) → w.classes.sets ≡ sets → slice_get sets set ≡ None → rests_in w (Set set) ≡ []
no_set_rests w sets set e h = ap (λ o. rests_of w (set_type o)) (ap (λ s. slice_get s set) e ∙ h)

-- two values of set types
pub same_set_value : (i j : Option SetInfo) (k m : ℕ) → same (of_set i k) (of_set j m) ≡ (is_same_set i j && nat_eq k m)
same_set_value None None k m = refl
same_set_value None (Some info) k m = at info.ordered
  where
    at : (b : Bool) → same (scalar [] k) (if b then ordinal info.name m else scalar info.name m) ≡ ((both_or_none false b && bytes_eq [] info.name) && nat_eq k m)
    at true = refl
    at false = refl
same_set_value (Some info) None k m = at info.ordered
  where
    at : (b : Bool) → same (if b then ordinal info.name k else scalar info.name k) (scalar [] m) ≡ ((both_or_none b false && bytes_eq info.name []) && nat_eq k m)
    at true = refl
    at false = refl
same_set_value (Some info) (Some other) k m = at info.ordered other.ordered
  where
    at : (b c : Bool) → same (if b then ordinal info.name k else scalar info.name k) (if c then ordinal other.name m else scalar other.name m) ≡ ((both_or_none b c && bytes_eq info.name other.name) && nat_eq k m)
    at true true = refl
    at true false = refl
    at false true = refl
    at false false = refl

pub same_set_itself : (i : Option SetInfo) → is_same_set i i ≡ true
same_set_itself i = at (is_ordset i) (bytes_eq (name_of i) (name_of i)) ((bytes_eq-Decides (name_of i) (name_of i)).1 refl)
  where
    at : (b c : Bool) → c ≡ true → (both_or_none b b && c) ≡ true
    at true c e = e
    at false c e = e

or_false : (b : Bool) → (b || false) ≡ b
or_false true = refl
or_false false = refl

-- a number in a range
pub number_in_range : (w : World) (low high value : ℕ) → is_among (places_in w (Range low high)) (named (number value)) ≡ (nat_le low value && nat_le value high)
number_in_range w low high value =
    list_any-append (same_place (named (number value))) (map named (map number (numbers_from low (high + 1 - low)))) []
    ∙ (or_false _
    ∙ (any-map (same_place (named (number value))) named (map number (numbers_from low (high + 1 - low)))
    ∙ (any-map (λ v. same (number value) v) number (numbers_from low (high + 1 - low))
    ∙ (number_among true value low (high + 1 - low) ∙ at (nat_le low value) (nat_lt value (low + (high + 1 - low))) (nat_le value high) (grind arith)))))
  where
    at : (x y z : Bool) → (x && y) ≡ (x && z) → ((x && y) && true) ≡ (x && z)
    at true true z e = e
    at true false z e = e
    at false y z e = refl

-- a constant in an enumeration
pub constant_in_list : (design : Design) (w : World) (list : ℕ) (name : Name) → w.classes.enums ≡ design.enums → is_among (places_in w (Enum list)) (named (constant name)) ≡ list_any (bytes_eq name) (get_or design.enums list [])
constant_in_list design w list name e =
    list_any-append (same_place (named (constant name))) (map named (map constant (get_or w.classes.enums list []))) []
    ∙ (or_false _
    ∙ (any-map (same_place (named (constant name))) named (map constant (get_or w.classes.enums list []))
    ∙ (any-map (λ v. same (constant name) v) constant (get_or w.classes.enums list []) ∙ ap (λ enums. list_any (bytes_eq name) (get_or enums list [])) e)))

-- a class and a rest in a set type
among_set : (i : Option SetInfo) (info : SetInfo) (k n : ℕ) → list_any (λ m. same (of_set i k) (of_set (Some info) m)) (numbers_from 0 n) ≡ (nat_lt k n && is_same_set i (Some info))
among_set i info k n =
    any-agree (λ m. same (of_set i k) (of_set (Some info) m)) (λ m. is_same_set i (Some info) && nat_eq k m) (numbers_from 0 n) (λ m. same_set_value i (Some info) k m)
    ∙ (number_among (is_same_set i (Some info)) k 0 n ∙ ap (λ b. b && is_same_set i (Some info)) (grind arith))

any_spots : (design : Design) (p : Place) (make : ℕ → Spot) (ks : List ℕ) → list_any (same_place p) (map (place_by design) (map make ks)) ≡ list_any (λ k. same_place p (place_by design (make k))) ks
any_spots design p make ks = any-map (same_place p) (place_by design) (map make ks) ∙ any-map (λ q. same_place p (place_by design q)) make ks

set_places : (design : Design) (w : World) (set : ℕ) (t : AbsType) → w.classes.sets ≡ design.sets → TypeAt w design.sets set t →
    places_in w (Set set) ≡ map (place_by design) (map (spot_of (sort.Class set)) (numbers_from 0 t.named)) ++ map (place_by design) (map (spot_of (sort.Rest set)) (numbers_from 0 (count_beside t.rest t.named)))
set_places design w set t e h = ap (λ l. l ++ rests_in w (Set set)) (sym (set_named design w set t e h)) ∙ ap (λ l. map (place_by design) (map (spot_of (sort.Class set)) (numbers_from 0 t.named)) ++ l) (sym (set_rests design w set t e h))

pub class_in_set : (design : Design) (w : World) (set other : ℕ) (k : ℕ) (t : AbsType) → w.classes.sets ≡ design.sets → TypeAt w design.sets set t →
    is_among (places_in w (Set set)) (place_by design (spot.Class other k)) ≡ (nat_lt k t.named && is_same_set (slice_get design.sets other) (slice_get design.sets set))
class_in_set design w set other k t e h =
    let p = place_by design (spot.Class other k) in
    let ns = numbers_from 0 t.named in
    let gs = numbers_from 0 (count_beside t.rest t.named) in
    ap (list_any (same_place p)) (set_places design w set t e h)
    ∙ (list_any-append (same_place p) (map (place_by design) (map (spot_of (sort.Class set)) ns)) (map (place_by design) (map (spot_of (sort.Rest set)) gs))
    ∙ (ap (λ b. list_any (same_place p) (map (place_by design) (map (spot_of (sort.Class set)) ns)) || b) (any_spots design p (spot_of (sort.Rest set)) gs ∙ any-never gs)
    ∙ (or_false _
    ∙ (any_spots design p (spot_of (sort.Class set)) ns
    ∙ (ap (λ o. list_any (λ m. same (of_set (slice_get design.sets other) k) (of_set o m)) ns) h.is
    ∙ (among_set (slice_get design.sets other) h.info k t.named ∙ ap (λ o. nat_lt k t.named && is_same_set (slice_get design.sets other) o) (sym h.is)))))))

pub rest_in_set : (design : Design) (w : World) (set other : ℕ) (k : ℕ) (t : AbsType) → w.classes.sets ≡ design.sets → TypeAt w design.sets set t →
    is_among (places_in w (Set set)) (place_by design (spot.Rest other k)) ≡ (nat_lt k (count_beside t.rest t.named) && is_same_set (slice_get design.sets other) (slice_get design.sets set))
rest_in_set design w set other k t e h =
    let p = place_by design (spot.Rest other k) in
    let ns = numbers_from 0 t.named in
    let gs = numbers_from 0 (count_beside t.rest t.named) in
    ap (list_any (same_place p)) (set_places design w set t e h)
    ∙ (list_any-append (same_place p) (map (place_by design) (map (spot_of (sort.Class set)) ns)) (map (place_by design) (map (spot_of (sort.Rest set)) gs))
    ∙ (ap (λ b. b || list_any (same_place p) (map (place_by design) (map (spot_of (sort.Rest set)) gs))) (any_spots design p (spot_of (sort.Class set)) ns ∙ any-never ns)
    ∙ (any_spots design p (spot_of (sort.Rest set)) gs
    ∙ (ap (λ o. list_any (λ m. same (of_set (slice_get design.sets other) k) (of_set o m)) gs) h.is
    ∙ (among_set (slice_get design.sets other) h.info k (count_beside t.rest t.named) ∙ ap (λ o. nat_lt k (count_beside t.rest t.named) && is_same_set (slice_get design.sets other) o) (sym h.is))))))

-- the same by the list of abstract forms
pub classes_named : (design : Design) (types : List AbsType) (w : World) (set : ℕ) → IsWorld design types w → map (place_by design) (map (spot_of (sort.Class set)) (numbers_from 0 (classes_of (slice_get types set)))) ≡ named_in w (Set set)
classes_named design types w set h = at (slice_get types set) refl
  where
    at : (o : Option AbsType) → slice_get types set ≡ o → map (place_by design) (map (spot_of (sort.Class set)) (numbers_from 0 (classes_of o))) ≡ named_in w (Set set)
    at None e = sym (no_set_named w design.sets set h.sets (no_type_at w design.sets types set h.forms e))
    at (Some t) e = set_named design w set t h.sets (type_at w design.sets types set t h.forms e)

pub rests_listed : (design : Design) (types : List AbsType) (w : World) (set : ℕ) → IsWorld design types w → map (place_by design) (map (spot_of (sort.Rest set)) (numbers_from 0 (rests_count (slice_get types set)))) ≡ rests_in w (Set set)
rests_listed design types w set h = at (slice_get types set) refl
  where
    at : (o : Option AbsType) → slice_get types set ≡ o → map (place_by design) (map (spot_of (sort.Rest set)) (numbers_from 0 (rests_count o))) ≡ rests_in w (Set set)
    at None e = sym (no_set_rests w design.sets set h.sets (no_type_at w design.sets types set h.forms e))
    at (Some t) e = set_rests design w set t h.sets (type_at w design.sets types set t h.forms e)

never_below : (k : ℕ) (b : Bool) → false ≡ (nat_lt k 0 && b)
never_below k b = let e : nat_lt k 0 ≡ false = grind arith in ap (λ x. x && b) (sym e)

pub class_among : (design : Design) (types : List AbsType) (w : World) (set other k : ℕ) → IsWorld design types w →
    is_among (places_in w (Set set)) (place_by design (spot.Class other k)) ≡ (nat_lt k (classes_of (slice_get types set)) && is_same_set (slice_get design.sets other) (slice_get design.sets set))
class_among design types w set other k h = at (slice_get types set) refl
  where
    at : (o : Option AbsType) → slice_get types set ≡ o → is_among (places_in w (Set set)) (place_by design (spot.Class other k)) ≡ (nat_lt k (classes_of o) && is_same_set (slice_get design.sets other) (slice_get design.sets set))
    at None e = ap (λ ps. is_among ps (place_by design (spot.Class other k))) (no_set w design.sets set h.sets (no_type_at w design.sets types set h.forms e)) ∙ never_below k (is_same_set (slice_get design.sets other) (slice_get design.sets set))
    at (Some t) e = class_in_set design w set other k t h.sets (type_at w design.sets types set t h.forms e)

pub rest_among : (design : Design) (types : List AbsType) (w : World) (set other k : ℕ) → IsWorld design types w →
    is_among (places_in w (Set set)) (place_by design (spot.Rest other k)) ≡ (nat_lt k (rests_count (slice_get types set)) && is_same_set (slice_get design.sets other) (slice_get design.sets set))
rest_among design types w set other k h = at (slice_get types set) refl
  where
    at : (o : Option AbsType) → slice_get types set ≡ o → is_among (places_in w (Set set)) (place_by design (spot.Rest other k)) ≡ (nat_lt k (rests_count o) && is_same_set (slice_get design.sets other) (slice_get design.sets set))
    at None e = ap (λ ps. is_among ps (place_by design (spot.Rest other k))) (no_set w design.sets set h.sets (no_type_at w design.sets types set h.forms e)) ∙ never_below k (is_same_set (slice_get design.sets other) (slice_get design.sets set))
    at (Some t) e = rest_in_set design w set other k t h.sets (type_at w design.sets types set t h.forms e)

-- a value of another sort is in no type
pub not_number : (w : World) (low high : ℕ) (p : Place) → ((k : ℕ) → same_place p (named (number k)) ≡ false) → is_among (places_in w (Range low high)) p ≡ false
not_number w low high p h =
    list_any-append (same_place p) (map named (map number (numbers_from low (high + 1 - low)))) []
    ∙ (or_false _
    ∙ (any-map (same_place p) named (map number (numbers_from low (high + 1 - low)))
    ∙ (any-map (λ v. same_place p (named v)) number (numbers_from low (high + 1 - low))
    ∙ (any-agree (λ k. same_place p (named (number k))) (λ k. false) (numbers_from low (high + 1 - low)) h ∙ any-never (numbers_from low (high + 1 - low))))))

pub not_constant : (w : World) (list : ℕ) (p : Place) → ((c : Name) → same_place p (named (constant c)) ≡ false) → is_among (places_in w (Enum list)) p ≡ false
not_constant w list p h =
    list_any-append (same_place p) (map named (map constant (get_or w.classes.enums list []))) []
    ∙ (or_false _
    ∙ (any-map (same_place p) named (map constant (get_or w.classes.enums list []))
    ∙ (any-map (λ v. same_place p (named v)) constant (get_or w.classes.enums list [])
    ∙ (any-agree (λ c. same_place p (named (constant c))) (λ c. false) (get_or w.classes.enums list []) h ∙ any-never (get_or w.classes.enums list [])))))

pub not_of_set : (design : Design) (types : List AbsType) (w : World) (set : ℕ) (p : Place) → IsWorld design types w → ((o : Option SetInfo) (k : ℕ) → same_place p (named (of_set o k)) ≡ false) → ((o : Option SetInfo) (k : ℕ) → same_place p (rest (of_set o k)) ≡ false) → is_among (places_in w (Set set)) p ≡ false
not_of_set design types w set p h e f =
    list_any-append (same_place p) (named_in w (Set set)) (rests_in w (Set set))
    ∙ (ap (λ b. b || is_among (rests_in w (Set set)) p) (ap (list_any (same_place p)) (sym (classes_named design types w set h)) ∙ (any_spots design p (spot_of (sort.Class set)) ns ∙ (any-agree (λ k. same_place p (place_by design (spot.Class set k))) (λ k. false) ns (λ k. e (slice_get design.sets set) k) ∙ any-never ns)))
    ∙ (ap (list_any (same_place p)) (sym (rests_listed design types w set h)) ∙ (any_spots design p (spot_of (sort.Rest set)) gs ∙ (any-agree (λ k. same_place p (place_by design (spot.Rest set k))) (λ k. false) gs (λ k. f (slice_get design.sets set) k) ∙ any-never gs))))
  where
    ns : List ℕ
    ns = numbers_from 0 (classes_of (slice_get types set))

    gs : List ℕ
    gs = numbers_from 0 (rests_count (slice_get types set))

number_of_no_set : (m : ℕ) (o : Option SetInfo) (k : ℕ) → same (number m) (of_set o k) ≡ false
number_of_no_set m None k = refl
number_of_no_set m (Some info) k = at info.ordered
  where
    at : (b : Bool) → same (number m) (if b then ordinal info.name k else scalar info.name k) ≡ false
    at true = refl
    at false = refl

constant_of_no_set : (c : Name) (o : Option SetInfo) (k : ℕ) → same (constant c) (of_set o k) ≡ false
constant_of_no_set c None k = refl
constant_of_no_set c (Some info) k = at info.ordered
  where
    at : (b : Bool) → same (constant c) (if b then ordinal info.name k else scalar info.name k) ≡ false
    at true = refl
    at false = refl

set_no_number : (o : Option SetInfo) (k m : ℕ) → same (of_set o k) (number m) ≡ false
set_no_number None k m = refl
set_no_number (Some info) k m = at info.ordered
  where
    at : (b : Bool) → same (if b then ordinal info.name k else scalar info.name k) (number m) ≡ false
    at true = refl
    at false = refl

set_no_constant : (o : Option SetInfo) (k : ℕ) (c : Name) → same (of_set o k) (constant c) ≡ false
set_no_constant None k c = refl
set_no_constant (Some info) k c = at info.ordered
  where
    at : (b : Bool) → same (if b then ordinal info.name k else scalar info.name k) (constant c) ≡ false
    at true = refl
    at false = refl

-- by the spot
pub other_in_range : (design : Design) (w : World) (low high : ℕ) (p : Spot) → ((k : ℕ) → p ≡ spot.Number k → ⊥) → is_among (places_in w (Range low high)) (place_by design p) ≡ false
other_in_range design w low high (spot.Number k) h = absurd (h k refl)
other_in_range design w low high (spot.Constant list k) h = not_number w low high (place_by design (spot.Constant list k)) (λ m. refl)
other_in_range design w low high (spot.Class set k) h = not_number w low high (place_by design (spot.Class set k)) (λ m. set_no_number (slice_get design.sets set) k m)
other_in_range design w low high (spot.Rest set k) h = not_number w low high (place_by design (spot.Rest set k)) (λ m. refl)

pub other_in_list : (design : Design) (w : World) (list : ℕ) (p : Spot) → ((l k : ℕ) → p ≡ spot.Constant l k → ⊥) → is_among (places_in w (Enum list)) (place_by design p) ≡ false
other_in_list design w list (spot.Number k) h = not_constant w list (place_by design (spot.Number k)) (λ c. refl)
other_in_list design w list (spot.Constant l k) h = absurd (h l k refl)
other_in_list design w list (spot.Class set k) h = not_constant w list (place_by design (spot.Class set k)) (λ c. set_no_constant (slice_get design.sets set) k c)
other_in_list design w list (spot.Rest set k) h = not_constant w list (place_by design (spot.Rest set k)) (λ c. refl)

pub other_in_set : (design : Design) (types : List AbsType) (w : World) (set : ℕ) (p : Spot) → IsWorld design types w → ((s k : ℕ) → p ≡ spot.Class s k → ⊥) → ((s k : ℕ) → p ≡ spot.Rest s k → ⊥) → is_among (places_in w (Set set)) (place_by design p) ≡ false
other_in_set design types w set (spot.Number m) h e f = not_of_set design types w set (place_by design (spot.Number m)) h (λ o k. number_of_no_set m o k) (λ o k. refl)
other_in_set design types w set (spot.Constant l m) h e f = not_of_set design types w set (place_by design (spot.Constant l m)) h (λ o k. constant_of_no_set (get_or (get_or design.enums l []) m []) o k) (λ o k. refl)
other_in_set design types w set (spot.Class s k) h e f = absurd (e s k refl)
other_in_set design types w set (spot.Rest s k) h e f = absurd (f s k refl)

-- an answer for a type and a spot of a known form
pub by_form : (design : Design) (w : World) (over form : FlatSimple) (p q : Spot) (b : Bool) → over ≡ form → p ≡ q → b ≡ is_among (places_in w form) (place_by design q) → b ≡ is_among (places_in w over) (place_by design p)
by_form design w over form p q b e f h = h ∙ (ap (λ (t : FlatSimple). is_among (places_in w t) (place_by design q)) (sym e) ∙ ap (λ (r : Spot). is_among (places_in w over) (place_by design r)) (sym f))
