-- The list of cases covers: all values of the parameters have a case, and a placing under which each stands at its class.
use Rattle.std.proofs.Common.{◌≡◌, ℕ, zero, suc, ◌+◌, ◌-◌, ◌<◌, ◌≤◌, List, [], ◌∷◌, map, length, get_or, Bool, true, false, refl, sym, ap, subst, ◌∙◌, arith, slice_get, Option, Some, None}
use Rattle.std.specs.List.{list_all}
use Rattle.law_lists.proofs.Lists.{length_map}
use Rattle.smv_core.specs.Values.{Value, number, values_of, numbers_from}
use Rattle.smv_core.specs.FlatMeaning.{Numbered, values_in, simple_in, set_type}
use Rattle.smv_core.specs.declared.flat.Simple.{Simple as FlatSimple}
use Rattle.smv_core.specs.declared.flat.Simple.TheVariants.{Range, Enum, Set}
use Rattle.smv_core.specs.declared.flat.SetInfo.{SetInfo}
use Rattle.smv_core.specs.declared.flat.Class.{Class}
use Rattle.smv_core.specs.declared.flat.Class.TheVariants.{Number, Named}
use Rattle.smv_core.specs.declared.abstract_type.Rest.TheVariants as beside
use Rattle.law_obligations.specs.Sets.{Has, first, later, one_of_each}
use Rattle.law_obligations.specs.Places.{world}
use Rattle.law_obligations.specs.Pictures.{Spot, class, Placing, placed, IsPlaced, ArePlaced}
use Rattle.law_obligations.specs.Placings.{AreBelow}
use Rattle.law_obligations.specs.Cases.{Treatment, whole, reduced, ordered, Parameter, used, abstract_type, is_of, is_set, those_of, type_in, is_allowed, candidates, numbered}
use Rattle.law_obligations.specs.Covers.{value_at, place_at, by_name, types_at, AreApart, IsTreated, AreTreated, IsIndexType, AreCovered}
use Rattle.law_obligations.proofs.Members.{Picks, Has-choices, Has-map, Has-from_map, all-holds}
use Rattle.law_obligations.proofs.Plain.{range_is_placed, choice_is_placed}
use Rattle.law_obligations.proofs.Same.{nat_eq-itself}
use Rattle.law_obligations.proofs.CoverScalarsets.{named_set, Suits, whole_suits, unknown_suits, known_suits, below_used}
use Rattle.law_obligations.proofs.CoverOrdsets.{ordset_suits}
use Rattle.law_obligations.proofs.CoverNames.{by_name-at, numbered-at, numbered-Has, treatment_at, set_at}
use Rattle.law_obligations.proofs.CoverParams.{map-same, Has-from_choices, Stands, of_its_type, Stands-Has, those_of-map, those_of-few, those_of-Has, those_of-is, picked, all_stand}
use Rattle.law_obligations.proofs.CoverClasses.{number_of, class_at, class_of, value_by_number, class_of-value, placed-value, spot_is_of, spot_candidate, named_candidate, counts, type_in-is, allowed, named_classes}
use Rattle.law_obligations.proofs.Lookups.{Has-filter}

-- each treatment that a set type may have suits it
suits : (is_ordered : Bool) (size : ℕ) (t : Treatment) (vs : List ℕ) → IsTreated is_ordered size t → AreBelow size vs → Suits t is_ordered size vs
suits false size (whole n) vs e below = subst (λ m. Suits (whole m) false size vs) (sym e) (whole_suits size vs below)
suits false size (reduced None) vs e below = unknown_suits size vs below
suits false size (reduced (Some n)) vs e below = subst (λ m. Suits (reduced (Some m)) false size vs) (sym e) (known_suits size vs below)
suits true size ordered vs e below = ordset_suits size vs below
suits false size ordered vs e below = absurd e
suits true size (whole n) vs e below = absurd e
suits true size (reduced known) vs e below = absurd e

each_below : (size : ℕ) (vs : List Value) → ((v : Value) → Has vs v → number_of v < size) → AreBelow size (map number_of vs)
each_below size [] each = tt
each_below size (v ∷ vs) each = (each v first, each_below size vs (λ u h. each u (later h)))

module _ (n : Numbered) (params : List Parameter) (values : List Value) (typed : Picks (map (values_in n) (map (λ p. p.over) params)) values) where
  -- the numbers of the values at the parameters of a set type that count as listed
  abbrev listed : Treatment → ℕ → List ℕ
  listed t i = map number_of (those_of (counts t) i params values)

  -- a value of a set type
  value_of_set : (i : ℕ) (info : SetInfo) → slice_get n.sets i ≡ Some info → (v : Value) → Has (values_in n (Set i)) v →
      (number_of v < n.sizes info.name) × (v ≡ value_at (named_set info.ordered info.name) (number_of v))
  value_of_set i info e v h = value_by_number n.sizes info.ordered info.name v (subst (λ o. Has (values_of n.sizes (set_type o)) v) e h)

  listed_below : (t : Treatment) (i : ℕ) (info : SetInfo) → slice_get n.sets i ≡ Some info → AreBelow (n.sizes info.name) (listed t i)
  listed_below t i info e = each_below (n.sizes info.name) (those_of (counts t) i params values)
      (λ v h. (value_of_set i info e v (those_of-is n (counts t) i params values typed v h)).0)

  -- spots for each of these set types, which stand from a number on
  pub record AllSuit (k : ℕ) (sets : List SetInfo) (ts : List Treatment) : Type 0 where
    pub spots : List (ℕ → Spot)
    pub each : (i j : ℕ) (info : SetInfo) (t : Treatment) → i ≡ k + j → slice_get sets j ≡ Some info → slice_get ts j ≡ Some t →
        (s : Suits t info.ordered (n.sizes info.name) (listed t i)) × (slice_get spots j ≡ Some s.spot)

  -- this spot is that of a set type
  abbrev HasSpot : (ℕ → Spot) → ℕ → SetInfo → Treatment → Type 0
  HasSpot spot i info t = (s : Suits t info.ordered (n.sizes info.name) (listed t i)) × (Some spot ≡ Some s.spot)

  moved : (spot : ℕ → Spot) (k i : ℕ) (info other : SetInfo) (t u : Treatment) → k ≡ i → Some info ≡ Some other → Some t ≡ Some u → HasSpot spot k info t → HasSpot spot i other u
  moved spot k i info other t u e f g h =
      let same_info : info ≡ other = cc in
      let same_treatment : t ≡ u = cc in
      subst (λ z. HasSpot spot z other u) e (subst (λ z. HasSpot spot k z u) same_info (subst (λ z. HasSpot spot k info z) same_treatment h))

  pub all_suit : (k : ℕ) (sets : List SetInfo) (ts : List Treatment) → AreTreated n.sizes sets ts →
      ((i j : ℕ) (info : SetInfo) → i ≡ k + j → slice_get sets j ≡ Some info → slice_get n.sets i ≡ Some info) → AllSuit k sets ts
  all_suit k [] [] treated known = record { spots = []; each = λ i j info t e f g. absurd (cc) }
  all_suit k [] (t ∷ ts) treated known = absurd treated
  all_suit k (info ∷ sets) [] treated known = absurd treated
  all_suit k (info ∷ sets) (t ∷ ts) treated known =
      let here = suits info.ordered (n.sizes info.name) t (listed t k) treated.0 (listed_below t k info (known k 0 info (omega arith) refl)) in
      let rest = all_suit (suc k) sets ts treated.1 (λ i j other e f. known i (suc j) other (omega (arith, e)) f) in
      record {
        spots = here.spot ∷ rest.spots;
        each = λ i j other u e f g. at here rest i j other u e f g;
      }
    where
      at : (here : Suits t info.ordered (n.sizes info.name) (listed t k)) (rest : AllSuit (suc k) sets ts) (i j : ℕ) (other : SetInfo) (u : Treatment) → i ≡ k + j →
          slice_get (info ∷ sets) j ≡ Some other → slice_get (t ∷ ts) j ≡ Some u → (s : Suits u other.ordered (n.sizes other.name) (listed u i)) × (slice_get (here.spot ∷ rest.spots) j ≡ Some s.spot)
      at here rest i zero other u e f g = moved here.spot k i info other t u (omega (arith, e)) f g (here, refl)
      at here rest i (suc j) other u e f g = rest.each i j other u (omega (arith, e)) f g

module _ (n : Numbered) (treatments : List Treatment) (apart : AreApart n.sets) (treated : AreTreated n.sizes n.sets treatments)
    (params : List Parameter) (indexed : (p : Parameter) → Has params p → IsIndexType p.over)
    (values : List Value) (typed : Picks (map (values_in n) (map (λ p. p.over) params)) values) (all : AllSuit n params values typed 0 n.sets treatments) where
  -- the placing and the case
  abbrev spots_by : Placing
  spots_by = by_name (λ k. class k) n.sets all.spots

  abbrev class_by : Value → Class
  class_by v = class_of (placed spots_by v)

  abbrev classes_by : List Class
  classes_by = map class_by values

  -- what is known of a set type
  record Known (i : ℕ) (info : SetInfo) : Type 0 where
    treatment : Treatment
    is_at : slice_get treatments i ≡ Some treatment
    suit : Suits treatment info.ordered (n.sizes info.name) (listed n params values typed treatment i)
    spots_are : spots_by info.name ≡ suit.spot

  known : (i : ℕ) (info : SetInfo) → slice_get n.sets i ≡ Some info → Known i info
  known i info e =
      let t = treatment_at n.sizes n.sets treatments i info treated e in
      let s = all.each i i info t.0 (omega arith) e t.1 in
      record {
        treatment = t.0;
        is_at = t.1;
        suit = s.0;
        spots_are = by_name-at (λ k. class k) n.sets all.spots i info s.0.spot apart e s.1;
      }

  module _ (i : ℕ) (info : SetInfo) (e : slice_get n.sets i ≡ Some info) (k : Known i info) where
    -- the class of a value of the set type
    class_in_set : (v : Value) → Has (values_in n (Set i)) v → class_by v ≡ class_at (k.suit.spot (number_of v))
    class_in_set v h =
        let r = value_of_set n params values typed i info e v h in
        ap class_by r.1 ∙ class_of-value info.ordered info.name spots_by (number_of v) (k.suit.spot (number_of v)) (ap (λ f. f (number_of v)) k.spots_are)

    -- the classes at its parameters
    classes_in_set : (test : Bool → Bool) → those_of test i params classes_by ≡ map (λ v. class_at (k.suit.spot (number_of v))) (those_of test i params values)
    classes_in_set test = those_of-map class_by test i params values ∙ map-same class_by (λ v. class_at (k.suit.spot (number_of v))) (those_of test i params values)
        (λ v h. class_in_set v (those_of-is n test i params values typed v h))

    listed_are : those_of (counts k.treatment) i params classes_by ≡ map Named k.suit.classes
    listed_are = classes_in_set (counts k.treatment) ∙ named_classes k.suit.spot (those_of (counts k.treatment) i params values) k.suit.classes k.suit.at_classes

    -- each is of the abstract type
    each_is_of : (test : Bool → Bool) (q : Class) → Has (those_of test i params classes_by) q → is_of (abstract_type k.treatment (used k.suit.classes)) q ≡ true
    each_is_of test q h =
        let r = Has-from_map (λ v. class_at (k.suit.spot (number_of v))) (those_of test i params values) (subst (λ z. Has z q) (classes_in_set test) h) in
        let l = (value_of_set n params values typed i info e r.0 (those_of-is n test i params values typed r.0 r.1)).0 in
        subst (λ z. is_of (abstract_type k.treatment (used k.suit.classes)) z ≡ true) (sym r.2)
        (spot_is_of (abstract_type k.treatment (used k.suit.classes)) (k.suit.spot (number_of r.0)) (k.suit.spotted.somewhere (number_of r.0) l))

    set_is_allowed : is_allowed k.treatment i params classes_by ≡ true
    set_is_allowed = allowed k.treatment i params classes_by k.suit.classes listed_are k.suit.orderly each_is_of

    type_is : types_at n.sets treatments params classes_by info.name ≡ abstract_type k.treatment (used k.suit.classes)
    type_is =
        by_name-at (record { named = 0; rest = beside.None }) n.sets (map (λ (set, t). type_in t set params classes_by) (numbered 0 treatments)) i info
        (type_in k.treatment i params classes_by) apart e (numbered-at (λ (set, t). type_in t set params classes_by) 0 i i treatments k.treatment (omega arith) k.is_at)
        ∙ type_in-is k.treatment i params classes_by k.suit.classes listed_are

    set_is_placed : IsPlaced n.sizes (world n (types_at n.sets treatments params classes_by)) (placed spots_by) (named_set info.ordered info.name)
    set_is_placed = k.suit.is_placed n.sizes (world n (types_at n.sets treatments params classes_by)) spots_by info.name refl
        (ap (λ a. a.rest) type_is) (ap (λ a. a.named) type_is) (λ j. ap (λ f. f j) k.spots_are)

    few_listed : (t : Treatment) → length (listed n params values typed t i) ≤ length params
    few_listed t = subst (λ m. m ≤ length params) (sym (length_map number_of (those_of (counts t) i params values))) (those_of-few (counts t) i params values)

    near : (t : Treatment) (s : Suits t info.ordered (n.sizes info.name) (listed n params values typed t i)) (k : ℕ) → k < n.sizes info.name →
        (abstract_type t (used s.classes)).named ≤ length params → Has (candidates treatments (length params) (Set i)) (class_at (s.spot k))
    near t s k l few = spot_candidate (abstract_type t (used s.classes)) (length params) few (s.spot k) (s.spotted.somewhere k l)

    -- the class of a value at a parameter is a candidate
    candidate_in_set : (p : Parameter) (v : Value) → Stands params values p v → p.over ≡ Set i → (t : Treatment) (s : Suits t info.ordered (n.sizes info.name) (listed n params values typed t i)) →
        number_of v < n.sizes info.name → Has (candidates treatments (length params) (Set i)) (class_at (s.spot (number_of v)))
    candidate_in_set p v at over (whole m) s l =
        let in_list = those_of-Has (counts (whole m)) i params values p v at (subst (λ z. is_set i z ≡ true) (sym over) (nat_eq-itself i)) refl in
        let r = Has-from_map class s.classes (subst (λ z. Has z (s.spot (number_of v))) s.at_classes (Has-map s.spot (Has-map number_of in_list))) in
        let b = below_used s.classes r.0 r.1 in
        let few = s.few in
        let least = few_listed (whole m) in
        subst (λ z. Has (candidates treatments (length params) (Set i)) (class_at z)) (sym r.2) (named_candidate (length params) r.0 (omega (arith, b, few, least)))
    candidate_in_set p v at over (reduced None) s l = near (reduced None) s (number_of v) l (let few = s.few in let least = few_listed (reduced None) in omega (arith, few, least))
    candidate_in_set p v at over (reduced (Some m)) s l = near (reduced (Some m)) s (number_of v) l (let few = s.few in let least = few_listed (reduced (Some m)) in omega (arith, few, least))
    candidate_in_set p v at over ordered s l = near ordered s (number_of v) l (let few = s.few in let least = few_listed ordered in omega (arith, few, least))

  -- of each parameter the class is a candidate
  candidate : (p : Parameter) (v : Value) → Stands params values p v → (over : FlatSimple) → p.over ≡ over → Has (values_in n over) v → IsIndexType over → Has (candidates treatments (length params) over) (class_by v)
  candidate p v at (Range low high) e h x = let r = Has-from_map number (numbers_from low (high + 1 - low)) h in
      subst (λ u. Has (map Number (numbers_from low (high + 1 - low))) (class_by u)) (sym r.2) (Has-map Number r.1)
  candidate p v at (Enum list) e h x = absurd x
  candidate p v at (Set i) e h x = in_set (slice_get n.sets i) refl
    where
      in_set : (o : Option SetInfo) → slice_get n.sets i ≡ o → Has (candidates treatments (length params) (Set i)) (class_by v)
      in_set None f = elim (subst (λ o. Has (values_of n.sizes (set_type o)) v) f h) [ ]
      in_set (Some info) f = let k = known i info f in
          subst (Has (candidates treatments (length params) (Set i))) (sym (class_in_set i info f k v h))
          (candidate_in_set i info f k p v at e k.treatment k.suit (value_of_set n params values typed i info f v h).0)

  -- each value stands at its class
  stands_at : (v : Value) (over : FlatSimple) → Has (values_in n over) v → IsIndexType over → placed spots_by v ≡ place_at (simple_in n over) (class_by v)
  stands_at v (Range low high) h x = let r = Has-from_map number (numbers_from low (high + 1 - low)) h in
      subst (λ u. placed spots_by u ≡ place_at (simple_in n (Range low high)) (class_by u)) (sym r.2) refl
  stands_at v (Enum list) h x = absurd x
  stands_at v (Set i) h x = in_set (slice_get n.sets i) refl
    where
      in_set : (o : Option SetInfo) → slice_get n.sets i ≡ o → placed spots_by v ≡ place_at (set_type (slice_get n.sets i)) (class_by v)
      in_set None f = elim (subst (λ o. Has (values_of n.sizes (set_type o)) v) f h) [ ]
      in_set (Some info) f =
          let k = known i info f in
          let r = value_of_set n params values typed i info f v h in
          let spot = k.suit.spot (number_of v) in
          let there : placed spots_by v ≡ place_at (named_set info.ordered info.name) (class_at spot) =
          ap (placed spots_by) r.1 ∙ placed-value info.ordered info.name spots_by (number_of v) spot (ap (λ g. g (number_of v)) k.spots_are) in
          there ∙ (ap (place_at (named_set info.ordered info.name)) (sym (class_in_set i info f k v h)) ∙ ap (λ o. place_at (set_type o) (class_by v)) (sym f))

  -- the placing has the three facts of each type
  are_placed : ArePlaced n (world n (types_at n.sets treatments params classes_by)) spots_by
  are_placed (Range low high) = range_is_placed n.sizes (world n (types_at n.sets treatments params classes_by)) spots_by low high
  are_placed (Enum list) = choice_is_placed n.sizes (world n (types_at n.sets treatments params classes_by)) spots_by (get_or n.enums list [])
  are_placed (Set i) = in_set (slice_get n.sets i) refl
    where
      in_set : (o : Option SetInfo) → slice_get n.sets i ≡ o → IsPlaced n.sizes (world n (types_at n.sets treatments params classes_by)) (placed spots_by) (set_type (slice_get n.sets i))
      in_set None f = subst (λ o. IsPlaced n.sizes (world n (types_at n.sets treatments params classes_by)) (placed spots_by) (set_type o)) (sym f)
          (choice_is_placed n.sizes (world n (types_at n.sets treatments params classes_by)) spots_by [])
      in_set (Some info) f = subst (λ o. IsPlaced n.sizes (world n (types_at n.sets treatments params classes_by)) (placed spots_by) (set_type o)) (sym f)
          (set_is_placed i info f (known i info f))

  -- each set type has classes that its treatment allows
  each_is_allowed : (x : ℕ × Treatment) → Has (numbered 0 treatments) x → is_allowed x.1 x.0 params classes_by ≡ true
  each_is_allowed x h =
      let r = numbered-Has 0 treatments x h in
      let info = set_at n.sizes n.sets treatments r.0 x.1 treated r.2 in
      let k = known r.0 info.0 info.1 in
      let same_treatment : k.treatment ≡ x.1 = same k.treatment x.1 (sym k.is_at ∙ r.2) in
      let same_number : r.0 ≡ x.0 = (let e = r.1 in omega (arith, e)) in
      subst (λ i. is_allowed x.1 i params classes_by ≡ true) same_number (subst (λ t. is_allowed t r.0 params classes_by ≡ true) same_treatment (set_is_allowed r.0 info.0 info.1 k))
    where
      same : (t u : Treatment) → Some t ≡ Some u → t ≡ u
      same t u e = cc

  pub case : AreCovered n treatments params values
  case = record {
    classes = classes_by;
    is_case = Has-filter (λ classes. list_all (λ (set, t). is_allowed t set params classes) (numbered 0 treatments))
        (Has-choices (picked n (candidates treatments (length params)) class_by params values typed
        (λ p v at. candidate p v at p.over refl (of_its_type n params values typed p v at) (indexed p (Stands-Has at)))))
        (all-holds (λ (set, t). is_allowed t set params classes_by) (numbered 0 treatments) each_is_allowed);
    spots = spots_by;
    are_placed = are_placed;
    stands = all_stand n (placed spots_by) class_by params values typed
        (λ p v at. stands_at v p.over (of_its_type n params values typed p v at) (indexed p (Stands-Has at)));
  }

pub cases_cover : (n : Numbered) (treatments : List Treatment) → AreApart n.sets → AreTreated n.sizes n.sets treatments →
    (params : List Parameter) → ((p : Parameter) → Has params p → IsIndexType p.over) →
    (values : List Value) → Has (one_of_each (map (values_in n) (map (λ p. p.over) params))) values → AreCovered n treatments params values
cases_cover n treatments apart treated params indexed values h =
    let typed = Has-from_choices (map (values_in n) (map (λ p. p.over) params)) values h in
    case n treatments apart treated params indexed values typed (all_suit n params values typed 0 n.sets treatments treated (λ i j info e f. subst (λ z. slice_get n.sets z ≡ Some info) (sym (same i j e)) f))
  where
    same : (i j : ℕ) → i ≡ 0 + j → i ≡ j
    same i j e = omega arith
