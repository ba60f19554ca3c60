-- Where the parameters of a case at given sizes lie.
use Rattle.std.proofs.Common.{◌≡◌, ◌+◌, ◌-◌, ◌≤◌, ℕ, suc, List, [], ◌∷◌, map, length, slice_get, Option, Some, None, Bool, true, false, if◌then◌else◌, refl, sym, ap, subst, ◌∙◌, arith}
use Rattle.smv_core.specs.Values.{Sizes, numbers_from, scalar, ordinal, scalarset, ordset}
use Rattle.smv_core.specs.FlatMeaning.{Numbered, simple_in, set_type}
use Rattle.smv_core.specs.declared.flat.Class.{Class}
use Rattle.smv_core.specs.declared.flat.Class.TheVariants.{Number, Named, Rest}
use Rattle.smv_core.specs.declared.flat.SetInfo.{SetInfo}
use Rattle.smv_core.specs.declared.flat.Simple.{Simple}
use Rattle.smv_core.specs.declared.flat.Simple.TheVariants.{Range, Enum, Set}
use Rattle.law_obligations.specs.Sets.{Has, first, later}
use Rattle.law_obligations.specs.Places.{Place, named}
use Rattle.law_obligations.specs.Cases.{Parameter, candidates}
use Rattle.law_obligations.specs.Checked.{IsFilled}
use Rattle.law_obligations.specs.Covers.{AreApart, place_at, places_at}
use Rattle.law_obligations.proofs.Members.{Has-map, Has-from_map, Has-left}
use Rattle.law_obligations.proofs.OneOfEach.{AreOf, get_Has}
use Rattle.law_obligations.proofs.Spots.{Has-numbers, numbers-Has}
use Rattle.law_concrete.specs.Concrete.{sized, classes_of_type, values_of_set, parameter}
use Rattle.smv_problem.specs.Written.{written_class, written_spot}
use Rattle.smv_spots.specs.Spots.{of_set}
use Rattle.smv_reads.specs.declared.bindings.View.{View}
use Rattle.smv_reads.specs.Views.{world_of, place_in, places, spot_in}
use Rattle.smv_reads.proofs.IndexLaws.{class-back}
use Rattle.smv_cone.specs.Parts.{spots_in}
use Rattle.smv_obligations.proofs.SpotLaws.{spots-back}

-- a class of a set type that is there
class-place : (info : SetInfo) (k : ℕ) → named (of_set (Some info) k) ≡ place_at (set_type (Some info)) (Named k)
class-place info k = at info.ordered
  where
    at : (b : Bool) → named (if b then ordinal info.name k else scalar info.name k) ≡ place_at (if b then ordset info.name else scalarset info.name) (Named k)
    at true = refl
    at false = refl

no-rest : (low m g : ℕ) → Has (map Named (numbers_from low m)) (Rest g) → ⊥
no-rest low m g h = clash (Has-from_map Named (numbers_from low m) h).2
  where
    clash : {j : ℕ} → Rest g ≡ Named j → ⊥
    clash e = cc

no-number : (low m k : ℕ) → Has (map Named (numbers_from low m)) (Number k) → ⊥
no-number low m k h = clash (Has-from_map Named (numbers_from low m) h).2
  where
    clash : {j : ℕ} → Number k ≡ Named j → ⊥
    clash e = cc

only-number : (low m : ℕ) (c : Class) → Has (map Number (numbers_from low m)) c → (k : ℕ) × Has (numbers_from low m) k × (c ≡ Number k)
only-number low m c h = Has-from_map Number (numbers_from low m) h

module _ (v : View) (sizes : Sizes) where
  abbrev n : Numbered
  n = sized v.design.now sizes

  -- a class of a set type: the type is there
  of-set : (set : ℕ) (c : Class) → Has (classes_of_type n (Set set)) c → (info : SetInfo) × (slice_get v.design.now.sets set ≡ Some info) × ((k : ℕ) × Has (numbers_from 0 (sizes info.name)) k × (c ≡ Named k))
  of-set set c h = at (slice_get v.design.now.sets set) refl h
    where
      at : (o : Option SetInfo) → slice_get v.design.now.sets set ≡ o → Has (values_of_set sizes o) c → (info : SetInfo) × (slice_get v.design.now.sets set ≡ Some info) × ((k : ℕ) × Has (numbers_from 0 (sizes info.name)) k × (c ≡ Named k))
      at None e h = elim h [ ]
      at (Some info) e h = (info, e, Has-from_map Named (numbers_from 0 (sizes info.name)) h)

  place-is : (t : Simple) (c : Class) → Has (classes_of_type n t) c → place_in v (spot_in t c) ≡ place_at (simple_in n t) c
  place-is (Range low high) c h =
      let r = only-number low (high + 1 - low) c h in subst (λ (c : Class). place_in v (spot_in (Range low high) c) ≡ place_at (simple_in n (Range low high)) c) (sym r.2) refl
  place-is (Enum list) c h = elim h [ ]
  place-is (Set set) c h =
      let r = of-set set c h in
      subst (λ (c : Class). place_in v (spot_in (Set set) c) ≡ place_at (simple_in n (Set set)) c) (sym r.2.2)
      (ap (λ (o : Option SetInfo). named (of_set o r.2.0)) r.1 ∙ (class-place r.0 r.2.0 ∙ sym (ap (λ (o : Option SetInfo). place_at (set_type o) (Named r.2.0)) r.1)))

  pub places-are : (types : List Simple) (classes : List Class) → AreOf (map (classes_of_type n) types) classes → places v (spots_in types classes) ≡ places_at n (map parameter types) classes
  places-are [] [] h = refl
  places-are [] (c ∷ classes) h = elim h [ ]
  places-are (t ∷ types) [] h = elim h [ ]
  places-are (t ∷ types) (c ∷ classes) h =
      ap (λ (q : Place). q ∷ places v (spots_in types classes)) (place-is t c h.0) ∙ ap (λ (qs : List Place). place_at (simple_in n t) c ∷ qs) (places-are types classes h.1)

  pub classes-are : (types : List Simple) (classes : List Class) → AreOf (map (classes_of_type n) types) classes → map written_class (places v (spots_in types classes)) ≡ classes
  classes-are [] [] h = refl
  classes-are [] (c ∷ classes) h = elim h [ ]
  classes-are (t ∷ types) [] h = elim h [ ]
  classes-are (t ∷ types) (c ∷ classes) h =
      ap (λ (d : Class). d ∷ map written_class (places v (spots_in types classes))) (class-back v t c) ∙ ap (λ (ds : List Class). c ∷ ds) (classes-are types classes h.1)

  pub spots-long : (types : List Simple) (classes : List Class) → AreOf (map (classes_of_type n) types) classes → (length (spots_in types classes) ≡ length types) × (length classes ≡ length types)
  spots-long [] [] h = (refl, refl)
  spots-long [] (c ∷ classes) h = elim h [ ]
  spots-long (t ∷ types) [] h = elim h [ ]
  spots-long (t ∷ types) (c ∷ classes) h = let r = spots-long types classes h.1 in (ap (λ k. suc k) r.0, ap (λ k. suc k) r.1)

  -- a class is a candidate, and its type has a value
  module _ (count : ℕ) (few : (info : SetInfo) → Has v.design.now.sets info → sizes info.name ≤ count) where
    candidate : (t : Simple) (c : Class) → Has (classes_of_type n t) c → Has (candidates [] count t) c × IsFilled v.design.now t
    candidate (Range low high) c h =
        let r = only-number low (high + 1 - low) c h in let l = numbers-Has low (high + 1 - low) r.0 r.1 in (h, omega (arith, l.0, l.1))
    candidate (Enum list) c h = elim h [ ]
    candidate (Set set) c h =
        let r = of-set set c h in
        let l = numbers-Has 0 (sizes r.0.name) r.2.0 r.2.1 in
        let m = few r.0 (get_Has v.design.now.sets set r.0 r.1) in (
          Has-left (map Rest (numbers_from 0 (count + 1))) (subst (λ (c : Class). Has (map Named (numbers_from 0 count)) c) (sym r.2.2) (Has-map Named (Has-numbers 0 count r.2.0 (omega arith) (omega (arith, l.1, m))))),
          (r.0, r.1),
        )

    candidates-are : (types : List Simple) (classes : List Class) → AreOf (map (classes_of_type n) types) classes →
        AreOf (map (λ (p : Parameter). candidates [] count p.over) (map parameter types)) classes × ((p : Parameter) → Has (map parameter types) p → IsFilled v.design.now p.over)
    candidates-are [] [] h = (tt, λ p m. elim m [ ])
    candidates-are [] (c ∷ classes) h = elim h [ ]
    candidates-are (t ∷ types) [] h = elim h [ ]
    candidates-are (t ∷ types) (c ∷ classes) h =
        let r = candidate t c h.0 in
        let rs = candidates-are types classes h.1 in ((r.0, rs.0), by r.1 rs.1)
      where
        by : IsFilled v.design.now t → ((p : Parameter) → Has (map parameter types) p → IsFilled v.design.now p.over) → (p : Parameter) → Has (parameter t ∷ map parameter types) p → IsFilled v.design.now p.over
        by own rest _ first = own
        by own rest p (later m) = rest p m

    overs : (types : List Simple) → map (λ (p : Parameter). p.over) (map parameter types) ≡ types
    overs [] = refl
    overs (t ∷ types) = ap (λ ts. t ∷ ts) (overs types)

    pub spots-are : AreApart v.design.now.sets → (types : List Simple) (classes : List Class) → AreOf (map (classes_of_type n) types) classes → map (written_spot (world_of v).classes) (places v (spots_in types classes)) ≡ spots_in types classes
    spots-are apart types classes h =
        let c = candidates-are types classes h in
        subst (λ ts. map (written_spot (world_of v).classes) (places v (spots_in ts classes)) ≡ spots_in ts classes) (overs types) (spots-back v apart [] count (map parameter types) classes c.0 c.1)
