-- The cases of a unit at given sizes are the values of its parameters.
use Rattle.std.proofs.Common.{◌≡◌, ◌+◌, ◌-◌, List, [], ◌∷◌, map, Bool, true, false, if◌then◌else◌, refl, sym, ap, ◌∙◌, Option, Some, None}
use Rattle.std.specs.List.{slice_get}
use Rattle.smv_core.specs.Values.{Value, number, scalar, ordinal, numbers_from, values_of, scalarset, ordset}
use Rattle.smv_core.specs.FlatMeaning.{Numbered, values_in, simple_in, set_type}
use Rattle.smv_core.specs.declared.flat.Simple.{Simple}
use Rattle.smv_core.specs.declared.flat.Simple.TheVariants.{Range, Enum, Set}
use Rattle.smv_core.specs.declared.flat.SetInfo.{SetInfo}
use Rattle.smv_core.specs.declared.flat.Class.{Class}
use Rattle.smv_core.specs.declared.flat.Class.TheVariants as class
use Rattle.law_obligations.specs.Sets.{Has, first, later}
use Rattle.law_obligations.specs.Places.{named}
use Rattle.law_obligations.specs.Covers.{place_at, places_at, IsIndexType}
use Rattle.law_obligations.proofs.Members.{Has-map, Has-from_map}
use Rattle.law_obligations.proofs.OneOfEach.{AreOf}
use Rattle.law_concrete.specs.Concrete.{classes_of_type, values_of_set, parameter}

module _ (n : Numbered) where
  -- a class of a type and its value
  abbrev Stands : Simple → Class → Value → Type 0
  Stands t c v = place_at (simple_in n t) c ≡ named v

  value-of : (t : Simple) (c : Class) → Has (classes_of_type n t) c → (v : Value) × Has (values_in n t) v × Stands t c v
  value-of (Range low high) c h =
      let r = Has-from_map class.Number (numbers_from low (high + 1 - low)) h in
      (number r.0, Has-map number r.1, ap (place_at (simple_in n (Range low high))) r.2)
  value-of (Enum list) c h = elim h [ ]
  value-of (Set set) c h = of_set (slice_get n.sets set) h
    where
      of_order : (info : SetInfo) (b : Bool) → Has (map class.Named (numbers_from 0 (n.sizes info.name))) c →
          (v : Value) × Has (values_of n.sizes (if b then ordset info.name else scalarset info.name)) v × (place_at (if b then ordset info.name else scalarset info.name) c ≡ named v)
      of_order info true h = let r = Has-from_map class.Named (numbers_from 0 (n.sizes info.name)) h in (ordinal info.name r.0, Has-map (ordinal info.name) r.1, ap (place_at (ordset info.name)) r.2)
      of_order info false h = let r = Has-from_map class.Named (numbers_from 0 (n.sizes info.name)) h in (scalar info.name r.0, Has-map (scalar info.name) r.1, ap (place_at (scalarset info.name)) r.2)

      of_set : (o : Option SetInfo) → Has (values_of_set n.sizes o) c → (v : Value) × Has (values_of n.sizes (set_type o)) v × (place_at (set_type o) c ≡ named v)
      of_set None h = elim h [ ]
      of_set (Some info) h = of_order info info.ordered h

  class-of : (t : Simple) (v : Value) → IsIndexType t → Has (values_in n t) v → (c : Class) × Has (classes_of_type n t) c × Stands t c v
  class-of (Range low high) v i h =
      let r = Has-from_map number (numbers_from low (high + 1 - low)) h in
      (class.Number r.0, Has-map class.Number r.1, ap named (sym r.2))
  class-of (Enum list) v i h = elim i [ ]
  class-of (Set set) v i h = of_set (slice_get n.sets set) h
    where
      of_order : (info : SetInfo) (b : Bool) → Has (values_of n.sizes (if b then ordset info.name else scalarset info.name)) v →
          (c : Class) × Has (map class.Named (numbers_from 0 (n.sizes info.name))) c × (place_at (if b then ordset info.name else scalarset info.name) c ≡ named v)
      of_order info true h = let r = Has-from_map (ordinal info.name) (numbers_from 0 (n.sizes info.name)) h in (class.Named r.0, Has-map class.Named r.1, ap named (sym r.2))
      of_order info false h = let r = Has-from_map (scalar info.name) (numbers_from 0 (n.sizes info.name)) h in (class.Named r.0, Has-map class.Named r.1, ap named (sym r.2))

      of_set : (o : Option SetInfo) → Has (values_of n.sizes (set_type o)) v → (c : Class) × Has (values_of_set n.sizes o) c × (place_at (set_type o) c ≡ named v)
      of_set None h = elim h [ ]
      of_set (Some info) h = of_order info info.ordered h

  -- so of each parameter
  pub values-of : (types : List Simple) (classes : List Class) → AreOf (map (classes_of_type n) types) classes → (vs : List Value) × AreOf (map (values_in n) types) vs × (places_at n (map parameter types) classes ≡ map named vs)
  values-of [] [] h = ([], tt, refl)
  values-of [] (c ∷ classes) h = elim h [ ]
  values-of (t ∷ types) [] h = elim h [ ]
  values-of (t ∷ types) (c ∷ classes) h =
      let v = value-of t c h.0 in
      let vs = values-of types classes h.1 in
      (v.0 ∷ vs.0, (v.1, vs.1), ap (λ p. p ∷ places_at n (map parameter types) classes) v.2 ∙ ap (λ ps. named v.0 ∷ ps) vs.2)

  pub classes-of : (types : List Simple) (vs : List Value) → ((t : Simple) → Has types t → IsIndexType t) → AreOf (map (values_in n) types) vs → (classes : List Class) × AreOf (map (classes_of_type n) types) classes × (places_at n (map parameter types) classes ≡ map named vs)
  classes-of [] [] i h = ([], tt, refl)
  classes-of [] (v ∷ vs) i h = elim h [ ]
  classes-of (t ∷ types) [] i h = elim h [ ]
  classes-of (t ∷ types) (v ∷ vs) i h =
      let c = class-of t v (i t first) h.0 in
      let cs = classes-of types vs (λ u k. i u (later k)) h.1 in
      (c.0 ∷ cs.0, (c.1, cs.1), ap (λ p. p ∷ places_at n (map parameter types) cs.0) c.2 ∙ ap (λ ps. named v ∷ ps) cs.2)
