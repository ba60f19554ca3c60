-- Places of the parameters of a leaf and of index types, as spots.
use Rattle.std.proofs.Common.{◌≡◌, ℕ, zero, suc, ◌+◌, ◌-◌, List, [], ◌∷◌, ◌++◌, map, take, length, slice_get, Option, Some, None, option_map, Bool, true, false, if◌then◌else◌, refl, sym, ap, subst, ◌∙◌}
use Rattle.std.specs.Prelude.{unwrap_or}
use Rattle.std.specs.Str.{bytes_eq}
use Rattle.std.proofs.lemmas.Slice.Eq.{bytes_eq-Decides}
use Rattle.law_lists.proofs.Lists.{map-map}
use Rattle.law_lists.proofs.Options.{some_is}
use Rattle.smv_core.specs.Values.{scalar, ordinal, numbers_from}
use Rattle.smv_core.specs.FlatMeaning.{Numbered}
use Rattle.smv_core.specs.declared.flat.Simple.{Simple}
use Rattle.smv_core.specs.declared.flat.Simple.TheVariants.{Range, Enum, Set}
use Rattle.smv_core.specs.declared.flat.SetInfo.{SetInfo}
use Rattle.smv_core.specs.declared.flat.Class.{Class}
use Rattle.smv_core.specs.declared.flat.Class.TheVariants.{Number, Named, Rest}
use Rattle.smv_core.specs.declared.abstract_type.AbsType.{AbsType}
use Rattle.law_obligations.specs.Sets.{Has, first, later}
use Rattle.law_obligations.specs.Places.{named, rest, named_in}
use Rattle.law_obligations.specs.Cases.{Treatment, Parameter, candidates}
use Rattle.law_obligations.specs.Covers.{AreApart, IsIndexType}
use Rattle.law_obligations.proofs.Members.{Has-from_map}
use Rattle.law_obligations.proofs.OneOfEach.{AreOf, get_Has}
use Rattle.law_obligations.specs.Outlines.{place_of}
use Rattle.law_obligations.specs.Checked.{IsFilled}
use Rattle.law_obligations.proofs.CoverNames.{apart}
use Rattle.law_obligations.proofs.CoverParams.{map-same}
use Rattle.smv_problem.specs.Written.{set_number, written_spot}
use Rattle.smv_spots.specs.declared.spots.Spot.{Spot}
use Rattle.smv_spots.specs.declared.spots.Spot.TheVariants as spot
use Rattle.smv_spots.specs.Spots.{of_set, classes_of, AreTypes}
use Rattle.smv_reads.specs.declared.bindings.View.{View}
use Rattle.smv_reads.specs.Views.{world_of, IsView, place_in, places, spot_in, classes_in}
use Rattle.smv_reads.proofs.IndexLaws.{named-classes}
use Rattle.smv_cone.specs.Parts.{spots_in}

-- ---- the number of a set type

place-found : (sets : List SetInfo) (k : ℕ) (info : SetInfo) → AreApart sets → slice_get sets k ≡ Some info → place_of (λ (i : SetInfo). bytes_eq i.name info.name) sets ≡ Some k
place-found [] k info a e = absurd (cc)
place-found (i ∷ sets) zero info a e =
    ap (λ (b : Bool). if b then Some 0 else option_map (λ k. suc k) (place_of (λ (i : SetInfo). bytes_eq i.name info.name) sets)) ((bytes_eq-Decides i.name info.name).1 (ap (λ (z : SetInfo). z.name) (some_is e)))
place-found (i ∷ sets) (suc k) info a e =
    ap (λ (b : Bool). if b then Some 0 else option_map (λ k. suc k) (place_of (λ (i : SetInfo). bytes_eq i.name info.name) sets)) (apart i.name info.name (a.0 info (get_Has sets k info e)))
    ∙ ap (option_map (λ k. suc k)) (place-found sets k info a.1 e)

module _ (v : View) (are_apart : AreApart v.design.now.sets) where
  abbrev n : Numbered
  n = (world_of v).classes

  set-number-is : (k : ℕ) (info : SetInfo) → slice_get v.design.now.sets k ≡ Some info → set_number n info.name ≡ k
  set-number-is k info e = ap (λ (o : Option ℕ). unwrap_or o 0) (place-found v.design.now.sets k info are_apart e)

  -- a class and a rest of a set type that is there
  class-spot : (info : SetInfo) (k : ℕ) → written_spot n (named (of_set (Some info) k)) ≡ spot.Class (set_number n info.name) k
  class-spot info k = by info.ordered
    where
      by : (b : Bool) → written_spot n (named (if b then ordinal info.name k else scalar info.name k)) ≡ spot.Class (set_number n info.name) k
      by true = refl
      by false = refl

  rest-spot : (info : SetInfo) (g : ℕ) → written_spot n (rest (of_set (Some info) g)) ≡ spot.Rest (set_number n info.name) g
  rest-spot info g = by info.ordered
    where
      by : (b : Bool) → written_spot n (rest (if b then ordinal info.name g else scalar info.name g)) ≡ spot.Rest (set_number n info.name) g
      by true = refl
      by false = refl

  class-written : (set : ℕ) (info : SetInfo) (k : ℕ) → slice_get v.design.now.sets set ≡ Some info → written_spot n (place_in v (spot.Class set k)) ≡ spot.Class set k
  class-written set info k e = ap (λ (o : Option SetInfo). written_spot n (named (of_set o k))) e ∙ (class-spot info k ∙ ap (λ (j : ℕ). spot.Class j k) (set-number-is set info e))

  rest-written : (set : ℕ) (info : SetInfo) (g : ℕ) → slice_get v.design.now.sets set ≡ Some info → written_spot n (place_in v (spot.Rest set g)) ≡ spot.Rest set g
  rest-written set info g e = ap (λ (o : Option SetInfo). written_spot n (rest (of_set o g))) e ∙ (rest-spot info g ∙ ap (λ (j : ℕ). spot.Rest j g) (set-number-is set info e))

  -- ---- parameters

  module _ (treatments : List Treatment) (count : ℕ) where
    not-named : (low m k : ℕ) → Has (map Number (numbers_from low m)) (Named k) → ⊥
    not-named low m k h = clash (Has-from_map Number (numbers_from low m) h).2
      where
        clash : {j : ℕ} → Named k ≡ Number j → ⊥
        clash e = cc

    not-rest : (low m g : ℕ) → Has (map Number (numbers_from low m)) (Rest g) → ⊥
    not-rest low m g h = clash (Has-from_map Number (numbers_from low m) h).2
      where
        clash : {j : ℕ} → Rest g ≡ Number j → ⊥
        clash e = cc

    spot-back : (t : Simple) (c : Class) → Has (candidates treatments count t) c → IsFilled v.design.now t → written_spot n (place_in v (spot_in t c)) ≡ spot_in t c
    spot-back t (Number k) h f = refl
    spot-back (Range low high) (Named k) h f = absurd (not-named low (high + 1 - low) k h)
    spot-back (Range low high) (Rest g) h f = absurd (not-rest low (high + 1 - low) g h)
    spot-back (Enum list) (Named k) h f = elim h [ ]
    spot-back (Enum list) (Rest g) h f = elim h [ ]
    spot-back (Set set) (Named k) h f = class-written set f.0 k f.1
    spot-back (Set set) (Rest g) h f = rest-written set f.0 g f.1

    pub spots-back : (params : List Parameter) (classes : List Class) → AreOf (map (λ (p : Parameter). candidates treatments count p.over) params) classes → ((p : Parameter) → Has params p → IsFilled v.design.now p.over) →
        map (written_spot n) (places v (spots_in (map (λ (p : Parameter). p.over) params) classes)) ≡ spots_in (map (λ (p : Parameter). p.over) params) classes
    spots-back [] [] h f = refl
    spots-back [] (c ∷ classes) h f = elim h [ ]
    spots-back (p ∷ params) [] h f = elim h [ ]
    spots-back (p ∷ params) (c ∷ classes) h f =
        ap (λ (q : Spot). q ∷ map (written_spot n) (places v (spots_in (map (λ (p : Parameter). p.over) params) classes))) (spot-back p.over c h.0 (f p first))
        ∙ ap (λ (qs : List Spot). spot_in p.over c ∷ qs) (spots-back params classes h.1 (λ q m. f q (later m)))

  -- ---- index types

  -- a set type that has classes is there
  are-there : (infos : List SetInfo) (types : List AbsType) (k : ℕ) → AreTypes (world_of v) infos types → slice_get infos k ≡ None → classes_of (slice_get types k) ≡ 0
  are-there [] [] k h e = refl
  are-there [] (t ∷ types) k h e = absurd h
  are-there (info ∷ infos) [] k h e = absurd h
  are-there (info ∷ infos) (t ∷ types) zero h e = absurd (cc)
  are-there (info ∷ infos) (t ∷ types) (suc k) h e = are-there infos types k h.2 e

  pub index-spots : IsView v → (t : Simple) → IsIndexType t → map (written_spot n) (named_in (world_of v) t) ≡ map (spot_in t) (classes_in v.types.now t)
  index-spots h t i =
      ap (map (written_spot n)) (named-classes v h.is_world t i)
      ∙ (map-map (written_spot n) (λ (c : Class). place_in v (spot_in t c)) (classes_in v.types.now t) ∙ map-same (λ (c : Class). written_spot n (place_in v (spot_in t c))) (spot_in t) (classes_in v.types.now t) (each t i))
    where
      of-set : (set : ℕ) (o : Option SetInfo) → slice_get v.design.now.sets set ≡ o → (c : Class) → Has (map Named (numbers_from 0 (classes_of (slice_get v.types.now set)))) c → written_spot n (place_in v (spot_in (Set set) c)) ≡ spot_in (Set set) c
      of-set set (Some info) e c m =
          let r = Has-from_map Named (numbers_from 0 (classes_of (slice_get v.types.now set))) m in
          subst (λ (c : Class). written_spot n (place_in v (spot_in (Set set) c)) ≡ spot_in (Set set) c) (sym r.2) (class-written set info r.0 e)
      of-set set None e c m =
          absurd (none (subst (λ (k : ℕ). Has (map Named (numbers_from 0 k)) c) (are-there v.design.now.sets v.types.now set h.is_world.forms e) m))
        where
          none : Has (map Named (numbers_from 0 0)) c → ⊥
          none k = elim k [ ]

      each : (t : Simple) → IsIndexType t → (c : Class) → Has (classes_in v.types.now t) c → written_spot n (place_in v (spot_in t c)) ≡ spot_in t c
      each (Range low high) i c m =
          let r = Has-from_map Number (numbers_from low (high + 1 - low)) m in subst (λ (c : Class). written_spot n (place_in v (spot_in (Range low high) c)) ≡ spot_in (Range low high) c) (sym r.2) refl
      each (Enum list) i c m = absurd i
      each (Set set) i c m = of-set set (slice_get v.design.now.sets set) refl c m

-- the spots of the first types
pub take-spots : (front back : List Simple) (classes : List Class) → take (length front) (spots_in (front ++ back) classes) ≡ spots_in front (take (length front) classes)
take-spots [] back classes = refl
take-spots (t ∷ front) back [] = refl
take-spots (t ∷ front) back (c ∷ classes) = ap (λ (ss : List Spot). spot_in t c ∷ ss) (take-spots front back classes)
