-- A place of a type is where the spot lies that is made of how it is written.
use Rattle.std.proofs.Common.{◌≡◌, ℕ, zero, suc, ◌+◌, List, [], ◌∷◌, ◌++◌, map, get_or, Bool, true, false, if◌then◌else◌, refl, sym, ap, subst, ◌∙◌, ◌⊎◌, inl, inr, Option, Some, None, option_map, arith}
use Rattle.std.specs.Prelude.{unwrap_or}
use Rattle.std.specs.List.{slice_get}
use Rattle.std.specs.Str.{bytes_eq}
use Rattle.std.proofs.lemmas.Slice.Eq.{bytes_eq-Decides}
use Rattle.std.proofs.lemmas.Bool.{cases_Bool}
use Rattle.law_lists.proofs.Options.{some_is}
use Rattle.law_lists.proofs.Lists.{nothing_behind}
use Rattle.smv_core.specs.Values.{Name, constant, scalar, ordinal}
use Rattle.smv_core.specs.FlatMeaning.{Numbered}
use Rattle.smv_core.specs.declared.flat.Simple.{Simple}
use Rattle.smv_core.specs.declared.flat.Simple.TheVariants.{Range, Enum, Set}
use Rattle.smv_core.specs.declared.flat.SetInfo.{SetInfo}
use Rattle.smv_core.specs.declared.flat.Class.{Class}
use Rattle.smv_core.specs.declared.flat.Class.TheVariants as class
use Rattle.law_obligations.specs.Sets.{Has, first, later}
use Rattle.law_obligations.specs.Places.{Place, named, rest, World, rests_in, places_in}
use Rattle.law_obligations.specs.Pictures.{AreNamedOf}
use Rattle.law_obligations.specs.Covers.{IsIndexType, AreApart}
use Rattle.law_obligations.proofs.Members.{Has-left, Has-uncons}
use Rattle.law_obligations.proofs.OneOfEach.{get_Has}
use Rattle.law_obligations.specs.Outlines.{place_of}
use Rattle.law_designs.specs.FlatKinds.{FlatKind, enumeration, set_type, kind_of}
use Rattle.smv_spots.specs.declared.spots.Spot.{Spot}
use Rattle.smv_spots.specs.declared.spots.Spot.TheVariants as spot
use Rattle.smv_spots.specs.Spots.{place_in, outcome_in, of_set}
use Rattle.smv_problem.specs.declared.problem.AbsValue.TheVariants as value
use Rattle.smv_problem.specs.Written.{written_class, written_place, written_spot, set_number, constant_or, constant_from}
use Rattle.smv_problem.specs.WellFormed.{AreOf}
use Rattle.law_problems.specs.Values.{value_in, IsPlaceOf, a_number, a_constant, a_class, a_rest}
use Rattle.law_problems.proofs.Alike.{have_kinds}
use Rattle.smv_typed_spots.specs.TypedSpots.{class_spot, class_spots, value_spot}

-- ---- constants by their places

itself : (name : Name) → bytes_eq name name ≡ true
itself name = (bytes_eq-Decides name name).1 refl

-- the first place of a name in a list, at which it stands
pub record IsFirst (names : List Name) (name : Name) (k : ℕ) : Type 0 where
  pub is_found : place_of (bytes_eq name) names ≡ Some k
  pub is_there : get_or names k [] ≡ name

pub found : (names : List Name) (name : Name) → Has names name → (k : ℕ) × IsFirst names name k
found [] name h = elim h [ ]
found (x ∷ names) name h = at (bytes_eq name x) refl (Has-uncons h) (λ k. found names name k)
  where
    at : (b : Bool) → bytes_eq name x ≡ b → (name ≡ x) ⊎ Has names name → (Has names name → (k : ℕ) × IsFirst names name k) → (k : ℕ) × IsFirst (x ∷ names) name k
    at true e h goes = (0, record { is_found = ap (λ (b : Bool). if b then Some 0 else option_map (λ k. suc k) (place_of (bytes_eq name) names)) e; is_there = sym ((bytes_eq-Decides name x).0 e) })
    at false e (inl same) goes = absurd (clash ((bytes_eq-Decides name x).1 same) e)
      where
        clash : {b : Bool} → b ≡ true → b ≡ false → ⊥
        clash p q = cc
    at false e (inr h) goes =
        let r = goes h in (
          suc r.0,
          record {
            is_found = ap (λ (b : Bool). if b then Some 0 else option_map (λ k. suc k) (place_of (bytes_eq name) names)) e ∙ ap (option_map (λ k. suc k)) r.1.is_found;
            is_there = r.1.is_there;
          },
        )

there : (names : List Name) (name : Name) (k : ℕ) → place_of (bytes_eq name) names ≡ Some k → get_or names k [] ≡ name
there [] name k e = absurd (cc)
there (x ∷ names) name k e = at (bytes_eq name x) refl (place_of (bytes_eq name) names) e (λ j q. there names name j q)
  where
    step : (o : Option ℕ) → option_map (λ k. suc k) o ≡ Some k → ((j : ℕ) → o ≡ Some j → get_or names j [] ≡ name) → get_or (x ∷ names) k [] ≡ name
    step None e goes = absurd (cc)
    step (Some j) e goes = subst (λ k. get_or (x ∷ names) k [] ≡ name) (some_is e) (goes j refl)

    at : (b : Bool) → bytes_eq name x ≡ b → (o : Option ℕ) → (if b then Some 0 else option_map (λ k. suc k) o) ≡ Some k → ((j : ℕ) → o ≡ Some j → get_or names j [] ≡ name) → get_or (x ∷ names) k [] ≡ name
    at true i o e goes = subst (λ k. get_or (x ∷ names) k [] ≡ name) (some_is e) (sym ((bytes_eq-Decides name x).0 i))
    at false i o e goes = step o e goes

pub constant_there : (names : List Name) (name : Name) → Has names name → get_or names (unwrap_or (place_of (bytes_eq name) names) 0) [] ≡ name
constant_there names name h = let r = found names name h in ap (λ (o : Option ℕ). get_or names (unwrap_or o 0) []) r.1.is_found ∙ r.1.is_there

not_there : (names : List Name) (name : Name) → place_of (bytes_eq name) names ≡ None → Has names name → ⊥
not_there names name e h = let r = found names name h in clash e r.1.is_found
  where
    clash : {o : Option ℕ} {k : ℕ} → o ≡ None → o ≡ Some k → ⊥
    clash p q = cc

-- a name of some enumeration, by the first enumeration that has it
module _ (n : Numbered) (name : Name) where
  constant_placed : (start : ℕ) (enums : List (List Name)) → ((i : ℕ) → get_or n.enums (start + i) [] ≡ get_or enums i []) → (list : ℕ) → Has (get_or enums list []) name → place_in n (constant_from start enums name) ≡ named (constant name)
  constant_placed start [] same list h = absurd (none list h)
    where
      none : (list : ℕ) → Has (get_or [] list []) name → ⊥
      none zero h = elim h [ ]
      none (suc list) h = elim h [ ]
  constant_placed start (names ∷ enums) same list h = at (place_of (bytes_eq name) names) refl list h (λ list h. constant_placed (suc start) enums (λ i. ap (λ (k : ℕ). get_or n.enums k []) (omega arith) ∙ same (suc i)) list h)
    where
      here : get_or n.enums start [] ≡ names
      here = ap (λ (k : ℕ). get_or n.enums k []) (omega arith) ∙ same 0

      at : (o : Option ℕ) → place_of (bytes_eq name) names ≡ o → (list : ℕ) → Has (get_or (names ∷ enums) list []) name →
          ((list : ℕ) → Has (get_or enums list []) name → place_in n (constant_from (suc start) enums name) ≡ named (constant name)) → place_in n (constant_or start o (constant_from (suc start) enums name)) ≡ named (constant name)
      at (Some k) e list h goes = ap (λ (names : List Name). named (constant (get_or names k []))) here ∙ ap (λ (name : Name). named (constant name)) (there names name k e)
      at None e zero h goes = absurd (not_there names name e h)
      at None e (suc list) h goes = goes list h

-- ---- set types by their names

set_there : (sets : List SetInfo) → AreApart sets → (set : ℕ) (info : SetInfo) → slice_get sets set ≡ Some info → place_of (λ (other : SetInfo). bytes_eq other.name info.name) sets ≡ Some set
set_there [] apart set info e = absurd (cc)
set_there (x ∷ sets) apart zero info e = ap (λ (b : Bool). if b then Some 0 else option_map (λ k. suc k) (place_of (λ (other : SetInfo). bytes_eq other.name info.name) sets)) (same (some_is e))
  where
    same : x ≡ info → bytes_eq x.name info.name ≡ true
    same e = (bytes_eq-Decides x.name info.name).1 (ap (λ (i : SetInfo). i.name) e)
set_there (x ∷ sets) apart (suc set) info e =
    let other : bytes_eq x.name info.name ≡ false = elim (cases_Bool (bytes_eq x.name info.name)) [
      | inl t ↦ absurd (apart.0 info (get_Has sets set info e) ((bytes_eq-Decides x.name info.name).0 t))
      | inr f ↦ f
    ] in
    ap (λ (b : Bool). if b then Some 0 else option_map (λ k. suc k) (place_of (λ (other : SetInfo). bytes_eq other.name info.name) sets)) other
    ∙ ap (option_map (λ k. suc k)) (set_there sets apart.1 set info e)

module _ (n : Numbered) (set : ℕ) (info : SetInfo) (is : slice_get n.sets set ≡ Some info) where
  class_of : (m : ℕ) → place_in n (spot.Class set m) ≡ named (value_in info m)
  class_of m = ap (λ (o : Option SetInfo). named (of_set o m)) is

  rest_of : (g : ℕ) → place_in n (spot.Rest set g) ≡ rest (value_in info g)
  rest_of g = ap (λ (o : Option SetInfo). rest (of_set o g)) is

  numbered : AreApart n.sets → set_number n info.name ≡ set
  numbered apart = ap (λ (o : Option ℕ). unwrap_or o 0) (set_there n.sets apart set info is)

-- ---- as they are written

written_named : (info : SetInfo) (m : ℕ) → written_class (named (value_in info m)) ≡ class.Named m
written_named info m = at info.ordered
  where
    at : (b : Bool) → written_class (named (if b then ordinal info.name m else scalar info.name m)) ≡ class.Named m
    at true = refl
    at false = refl

written_rest : (info : SetInfo) (g : ℕ) → written_class (rest (value_in info g)) ≡ class.Rest g
written_rest info g = at info.ordered
  where
    at : (b : Bool) → written_class (rest (if b then ordinal info.name g else scalar info.name g)) ≡ class.Rest g
    at true = refl
    at false = refl

value_named : (n : Numbered) (k : FlatKind) (info : SetInfo) (m : ℕ) → written_place n k (named (value_in info m)) ≡ value.Named m
value_named n k info m = at info.ordered
  where
    at : (b : Bool) → written_place n k (named (if b then ordinal info.name m else scalar info.name m)) ≡ value.Named m
    at true = refl
    at false = refl

value_rest : (n : Numbered) (k : FlatKind) (info : SetInfo) (g : ℕ) → written_place n k (rest (value_in info g)) ≡ value.Rest g
value_rest n k info g = at info.ordered
  where
    at : (b : Bool) → written_place n k (rest (if b then ordinal info.name g else scalar info.name g)) ≡ value.Rest g
    at true = refl
    at false = refl

spot_named : (n : Numbered) (info : SetInfo) (m : ℕ) → written_spot n (named (value_in info m)) ≡ spot.Class (set_number n info.name) m
spot_named n info m = at info.ordered
  where
    at : (b : Bool) → written_spot n (named (if b then ordinal info.name m else scalar info.name m)) ≡ spot.Class (set_number n info.name) m
    at true = refl
    at false = refl

spot_rest : (n : Numbered) (info : SetInfo) (g : ℕ) → written_spot n (rest (value_in info g)) ≡ spot.Rest (set_number n info.name) g
spot_rest n info g = at info.ordered
  where
    at : (b : Bool) → written_spot n (rest (if b then ordinal info.name g else scalar info.name g)) ≡ spot.Rest (set_number n info.name) g
    at true = refl
    at false = refl

-- ---- places of a kind

module _ (n : Numbered) where
  class_back : (k : FlatKind) (p : Place) → IsPlaceOf n k p → (over : Simple) → kind_of over ≡ k → IsIndexType over → place_in n (class_spot over (written_class p)) ≡ p
  class_back _ _ (a_number k) over e i = refl
  class_back _ _ (a_constant list name h) (Range low high) e i = absurd (cc)
  class_back _ _ (a_constant list name h) (Enum l) e i = absurd i
  class_back _ _ (a_constant list name h) (Set s) e i = absurd (cc)
  class_back _ _ (a_class set info is m) (Range low high) e i = absurd (cc)
  class_back _ _ (a_class set info is m) (Enum l) e i = absurd (cc)
  class_back _ _ (a_class set info is m) (Set s) e i = ap (λ c. place_in n (class_spot (Set s) c)) (written_named info m) ∙ (ap (λ (t : ℕ). place_in n (spot.Class t m)) (set_is e) ∙ class_of n set info is m)
    where
      set_is : {s t : ℕ} → set_type s ≡ set_type t → s ≡ t
      set_is e = cc
  class_back _ _ (a_rest set info is g) (Range low high) e i = absurd (cc)
  class_back _ _ (a_rest set info is g) (Enum l) e i = absurd (cc)
  class_back _ _ (a_rest set info is g) (Set s) e i = ap (λ c. place_in n (class_spot (Set s) c)) (written_rest info g) ∙ (ap (λ (t : ℕ). place_in n (spot.Rest t g)) (set_is e) ∙ rest_of n set info is g)
    where
      set_is : {s t : ℕ} → set_type s ≡ set_type t → s ≡ t
      set_is e = cc

  value_back : (k : FlatKind) (p : Place) → IsPlaceOf n k p → (over : Simple) → kind_of over ≡ k → outcome_in n (value_spot over (written_place n (kind_of over) p)) ≡ Some p
  value_back _ _ (a_number k) over e = refl
  value_back _ _ (a_constant list name h) (Range low high) e = absurd (cc)
  value_back _ _ (a_constant list name h) (Enum l) e = ap (λ (name : Name). Some (named (constant name))) (constant_there (get_or n.enums l []) name (subst (λ (k : ℕ). Has (get_or n.enums k []) name) (sym (list_is e)) h))
    where
      list_is : {l k : ℕ} → enumeration l ≡ enumeration k → l ≡ k
      list_is e = cc
  value_back _ _ (a_constant list name h) (Set s) e = absurd (cc)
  value_back _ _ (a_class set info is m) (Range low high) e = absurd (cc)
  value_back _ _ (a_class set info is m) (Enum l) e = absurd (cc)
  value_back _ _ (a_class set info is m) (Set s) e = ap (λ v. outcome_in n (value_spot (Set s) v)) (value_named n (set_type s) info m) ∙ ap Some (ap (λ (t : ℕ). place_in n (spot.Class t m)) (set_is e) ∙ class_of n set info is m)
    where
      set_is : {s t : ℕ} → set_type s ≡ set_type t → s ≡ t
      set_is e = cc
  value_back _ _ (a_rest set info is g) (Range low high) e = absurd (cc)
  value_back _ _ (a_rest set info is g) (Enum l) e = absurd (cc)
  value_back _ _ (a_rest set info is g) (Set s) e = ap (λ v. outcome_in n (value_spot (Set s) v)) (value_rest n (set_type s) info g) ∙ ap Some (ap (λ (t : ℕ). place_in n (spot.Rest t g)) (set_is e) ∙ rest_of n set info is g)
    where
      set_is : {s t : ℕ} → set_type s ≡ set_type t → s ≡ t
      set_is e = cc

  spot_back : AreApart n.sets → (k : FlatKind) (p : Place) → IsPlaceOf n k p → place_in n (written_spot n p) ≡ p
  spot_back apart _ _ (a_number k) = refl
  spot_back apart _ _ (a_constant list name h) = constant_placed n name 0 n.enums (λ i. ap (λ (k : ℕ). get_or n.enums k []) (omega arith)) list h
  spot_back apart _ _ (a_class set info is m) = ap (place_in n) (spot_named n info m) ∙ (ap (λ (t : ℕ). place_in n (spot.Class t m)) (numbered n set info is apart) ∙ class_of n set info is m)
  spot_back apart _ _ (a_rest set info is g) = ap (place_in n) (spot_rest n info g) ∙ (ap (λ (t : ℕ). place_in n (spot.Rest t g)) (numbered n set info is apart) ∙ rest_of n set info is g)

-- ---- places of types

-- an index
pub class_placed : (w : World) (over : Simple) (p : Place) → IsIndexType over → Has (places_in w over) p → place_in w.classes (class_spot over (written_class p)) ≡ p
class_placed w over p i h = class_back w.classes (kind_of over) p (have_kinds w over p h) over refl i

-- a value
pub value_placed : (w : World) (over : Simple) (p : Place) → Has (places_in w over) p → outcome_in w.classes (value_spot over (written_place w.classes (kind_of over) p)) ≡ Some p
value_placed w over p h = value_back w.classes (kind_of over) p (have_kinds w over p h) over refl

-- what a variable is bound to
pub spot_placed : (w : World) → AreApart w.classes.sets → (over : Simple) (p : Place) → Has (places_in w over) p → place_in w.classes (written_spot w.classes p) ≡ p
spot_placed w apart over p h = spot_back w.classes apart (kind_of over) p (have_kinds w over p h)

-- indexes of a family, of which there may be fewer than types
pub classes_placed : (w : World) (types : List Simple) (ps : List Place) → ((t : Simple) → Has types t → IsIndexType t) → AreNamedOf w types ps → map (place_in w.classes) (class_spots types (map written_class ps)) ≡ ps
classes_placed w [] [] i h = refl
classes_placed w (t ∷ types) [] i h = refl
classes_placed w [] (p ∷ ps) i h = absurd h
classes_placed w (t ∷ types) (p ∷ ps) i h =
    ap (λ q. q ∷ map (place_in w.classes) (class_spots types (map written_class ps))) (class_placed w t p (i t first) (Has-left (rests_in w t) h.0))
    ∙ ap (λ qs. p ∷ qs) (classes_placed w types ps (λ u k. i u (later k)) h.1)

-- the same of one for each type, rests too
pub indexes_placed : (w : World) (types : List Simple) (ps : List Place) → ((t : Simple) → Has types t → IsIndexType t) → AreOf w types ps → map (place_in w.classes) (class_spots types (map written_class ps)) ≡ ps
indexes_placed w [] [] i h = refl
indexes_placed w (t ∷ types) [] i h = absurd h
indexes_placed w [] (p ∷ ps) i h = absurd h
indexes_placed w (t ∷ types) (p ∷ ps) i h =
    ap (λ q. q ∷ map (place_in w.classes) (class_spots types (map written_class ps))) (class_placed w t p (i t first) h.0)
    ∙ ap (λ qs. p ∷ qs) (indexes_placed w types ps (λ u k. i u (later k)) h.1)

-- what variables are bound to
pub spots_placed : (w : World) → AreApart w.classes.sets → (types : List Simple) (ps : List Place) → AreOf w types ps → map (place_in w.classes) (map (written_spot w.classes) ps) ≡ ps
spots_placed w apart [] [] h = refl
spots_placed w apart (t ∷ types) [] h = absurd h
spots_placed w apart [] (p ∷ ps) h = absurd h
spots_placed w apart (t ∷ types) (p ∷ ps) h =
    ap (λ q. q ∷ map (place_in w.classes) (map (written_spot w.classes) ps)) (spot_placed w apart t p h.0) ∙ ap (λ qs. p ∷ qs) (spots_placed w apart types ps h.1)

-- ---- indexes one after the other

-- no more, where the types or the classes are at an end
pub spots_end : (done all : List Spot) (types : List Simple) (classes : List Class) → (types ≡ []) ⊎ (classes ≡ []) → done ++ class_spots types classes ≡ all → done ≡ all
spots_end done all types classes end e = nothing_behind done ∙ (ap (λ more. done ++ more) (sym (none types classes end)) ∙ e)
  where
    none : (types : List Simple) (classes : List Class) → (types ≡ []) ⊎ (classes ≡ []) → class_spots types classes ≡ []
    none [] classes end = refl
    none (t ∷ types) [] end = refl
    none (t ∷ types) (c ∷ classes) (inl e) = absurd (cc)
    none (t ∷ types) (c ∷ classes) (inr e) = absurd (cc)
