-- A case of a unit alone as the search for its cone looks at it: the cone of the definitions.
use Rattle.std.proofs.Common.{◌≡◌, ◌≤◌, ◌<◌, ℕ, List, [], map, Option, Some, None, Bool, true, false, if◌then◌else◌, nat_lt, refl, sym, ap, subst, ◌∙◌, arith}
use Rattle.std.specs.Prelude.{is_some, not}
use Rattle.law_lists.proofs.Numbers.{nat_lt-false, nat_lt-true}
use Rattle.smv_core.specs.Values.{Value, Sizes}
use Rattle.smv_core.specs.FlatMeaning.{Numbered, values_in}
use Rattle.smv_core.specs.declared.fault.Fault.{Fault}
use Rattle.smv_core.specs.declared.abstract_type.AbsType.{AbsType}
use Rattle.smv_core.specs.declared.flat.Choice.{Choice}
use Rattle.smv_core.specs.declared.flat.Design.{Design}
use Rattle.smv_core.specs.declared.flat.Element.{Element}
use Rattle.smv_core.specs.declared.flat.Guard.{Guard}
use Rattle.smv_core.specs.declared.flat.Simple.{Simple}
use Rattle.smv_core.specs.declared.flat.Unit.{Unit}
use Rattle.law_obligations.specs.Sets.{Has}
use Rattle.law_obligations.specs.Places.{Place, World, named}
use Rattle.law_obligations.specs.Readings.{bits_of_all}
use Rattle.law_obligations.specs.Reached.{IsLeast}
use Rattle.law_obligations.specs.Outlines.{Entry, Outline, chosen, names_of, unit_in}
use Rattle.law_obligations.specs.Cones.{cone, first_elements, next_elements}
use Rattle.law_obligations.specs.Soundness.{FlatUnit, claim_of, map_of, params_of}
use Rattle.law_obligations.proofs.OneOfEach.{AreOf, are_of, one_of}
use Rattle.law_exact.specs.Exact.{whole_world}
use Rattle.law_concrete.specs.Concrete.{alone, classes_of_type, concrete_cone, concrete_places, outlined, sized}
use Rattle.law_concrete.specs.Sizes.{at_unit, case_bits, case_fault, sizes_at}
use Rattle.law_concrete.proofs.Cases.{values-of}
use Rattle.law_concrete.proofs.Cones.{cone-least}
use Rattle.law_concrete.proofs.Exactly.{unit_there}
use Rattle.smv_cases.specs.Faults as cases_faults
use Rattle.smv_chosen_table.specs.Tables.{IsTable}
use Rattle.smv_reads.specs.Views.{IsView, places, world_by, world_of}
use Rattle.smv_cone.specs.declared.parts.Part.{Part}
use Rattle.smv_cone.specs.Parts as parts
use Rattle.smv_cone.specs.Parts.{IsPartView, spots_in}
use Rattle.smv_cone.specs.Searching.{HasLeast, IsConeOf}
use Rattle.smv_spots.specs.declared.spots.Spot.{Spot}
use Rattle.smv_spots.specs.Spots.{AreTypes}
use Rattle.smv_problem.specs.Written.{written_class}
use Rattle.smv_concrete.specs.Subjects.{IsSized, nothing_used}
use Rattle.smv_concrete.specs.Parts.{IsLone}
use Rattle.smv_concrete.proofs.Faults.{fault-is as at-unit}
use Rattle.smv_concrete.proofs.Forms.{all-forms, few-forms, world-is}
use Rattle.smv_concrete.proofs.Spots.{classes-are, places-are}

module _ (given : List ℕ) (p : Part) (z : IsSized p.view.design.now given) (h : IsLone given p) where
  abbrev pub d : Design
  d = p.view.design.now

  abbrev pub S : Sizes
  S = sizes_at p.view.design.now.sets given

  abbrev pub n : Numbered
  n = sized p.view.design.now (sizes_at p.view.design.now.sets given)

  abbrev pub unit : Unit
  unit = (parts.entry_of p).unit

  -- the types of the parameters
  abbrev pub types : List Simple
  types = params_of (sized p.view.design.now (sizes_at p.view.design.now.sets given)) (unit_in p.view.design.now (parts.entry_of p).unit)

  same-types : (u : FlatUnit) → params_of (names_of p.view.design.now) u ≡ params_of (sized p.view.design.now (sizes_at p.view.design.now.sets given)) u
  same-types (map_of def) = refl
  same-types (claim_of claim) = refl

  pub classes-of : AreOf (map (classes_of_type n) types) p.classes.now
  classes-of = are_of (map (classes_of_type n) types) p.classes.now h.is_case

  -- the values at which they are
  values-at : (vs : List Value) × AreOf (map (values_in n) types) vs × (concrete_places d S unit p.classes.now ≡ map named vs)
  values-at = values-of n types p.classes.now classes-of

  pub spots-by : p.params.now ≡ spots_in types p.classes.now
  spots-by = h.spots ∙ ap (λ (ts : List Simple). spots_in ts p.classes.now) (h.params ∙ same-types (unit_in p.view.design.now (parts.entry_of p).unit))

  pub world-of : world_of p.view ≡ whole_world n
  world-of = ap (world_by d) h.types ∙ world-is d given

  pub params-is : parts.params_of p ≡ concrete_places d S unit p.classes.now
  params-is = ap (λ (b : List Spot). places p.view b) spots-by ∙ places-are p.view S types p.classes.now classes-of

  outline-is : outlined d ≡ parts.outline_of p
  outline-is = ap (λ (us : List Unit). record { design = d; units = us }) (sym h.units)

  abbrev AreTypesOf : List AbsType → Type 0
  AreTypesOf ts = AreTypes (world_by p.view.design.now ts) p.view.design.now.sets ts

  view-is : IsView p.view
  view-is = record {
    is_world = record { sets = refl; enums = refl; families = refl; forms = subst (λ (ts : List AbsType). AreTypesOf ts) (sym h.types) (all-forms d given z.are_apart) };
    are_indexed = z.is_fit.indexes;
    few = λ t m. few-forms d given z.are_apart z.are_few t (subst (λ (ts : List AbsType). Has ts t) h.types m);
  }

  table-is : IsTable (parts.outline_of p) p.choice.now.picks p.table.now
  table-is = λ family def e. h.table family def e ∙ sym (ap (λ (c : Choice). chosen (parts.outline_of p) c.picks family) h.choice)

  pub part-view : IsPartView p
  part-view = record {
    is_view = view-is;
    all_units = h.units;
    are_written = ap (λ (b : List Spot). map written_class (places p.view b)) spots-by ∙ classes-are p.view S types p.classes.now classes-of;
    is_table = table-is;
  }

  -- the unit with these guards and this choice
  abbrev entry_with : List Guard → Choice → Entry
  entry_with guards choice = record { unit = (parts.entry_of p).unit; leaf = record p.leaf.now { guards = guards }; choice = choice }

  -- what is said of the cone of a case at given sizes is said of that of the part
  pub carried : (Says : World → Outline → Entry → List Place → Type 0) → Says (whole_world n) (outlined d) (entry_with [] nothing_used) (concrete_places d S unit p.classes.now) → Says (world_of p.view) (parts.outline_of p) (parts.entry_of p) (parts.params_of p)
  carried Says said =
      let w = subst (λ (w : World). Says w (outlined d) (entry_with [] nothing_used) (concrete_places d S unit p.classes.now)) (sym world-of) said in
      let o = subst (λ (o : Outline). Says (world_of p.view) o (entry_with [] nothing_used) (concrete_places d S unit p.classes.now)) outline-is w in
      let g = subst (λ (g : List Guard). Says (world_of p.view) (parts.outline_of p) (entry_with g nothing_used) (concrete_places d S unit p.classes.now)) (sym h.guards) o in
      let c = subst (λ (c : Choice). Says (world_of p.view) (parts.outline_of p) (entry_with p.leaf.now.guards c) (concrete_places d S unit p.classes.now)) (sym h.choice) g in
      subst (λ (ps : List Place). Says (world_of p.view) (parts.outline_of p) (parts.entry_of p) ps) (sym params-is) c

  abbrev Least : World → Outline → Entry → List Place → Type 0
  Least w o e ps = IsLeast (next_elements w o e ps) (first_elements w o e ps) (cone w o e ps)

  pub part-least : HasLeast p
  part-least = carried Least
      (subst (λ (ps : List Place). Least (whole_world n) (outlined d) (alone unit) ps) (sym values-at.2)
      (cone-least d S unit values-at.0 values-at.1 (unit_there d S z.is_exact unit values-at.0 (one_of (map (values_in n) types) values-at.0 values-at.1))))

  -- the cone and its bits
  pub cone-is : concrete_cone d S unit (concrete_places d S unit p.classes.now) ≡ parts.cone_of p
  cone-is = carried (λ w o e ps. concrete_cone d S unit (concrete_places d S unit p.classes.now) ≡ cone w o e ps) refl

  pub bits-are : case_bits d unit given p.classes.now ≡ bits_of_all (world_of p.view) (parts.cone_of p)
  bits-are = carried (λ w o e ps. case_bits d unit given p.classes.now ≡ bits_of_all w (cone w o e ps)) refl

  -- ---- the fault

  pub few-bits : bits_of_all (world_of p.view) (parts.cone_of p) ≤ 1024 → case_bits d unit given p.classes.now ≤ 1024
  few-bits l = let same = bits-are in omega (arith, same, l)

  pub is-few : bits_of_all (world_of p.view) (parts.cone_of p) ≤ 1024 → nat_lt 1024 (case_bits d unit given p.classes.now) ≡ false
  is-few l = nat_lt-false 1024 (case_bits d unit given p.classes.now) (few-bits l)

  pub is-many : 1024 < bits_of_all (world_of p.view) (parts.cone_of p) → nat_lt 1024 (case_bits d unit given p.classes.now) ≡ true
  is-many l = let same = bits-are in nat_lt-true 1024 (case_bits d unit given p.classes.now) (omega (arith, same, l))

  pub wide-is : (o : Option (List Element)) (wide : Bool) → is_some o ≡ not wide → IsConeOf p o → wide ≡ nat_lt 1024 (case_bits d unit given p.classes.now)
  wide-is (Some elements) false e h = sym (is-few h.1)
  wide-is (Some elements) true e h = absurd (cc (e))
  wide-is None true e h = sym (is-many h)
  wide-is None false e h = absurd (cc (e))

  pub few-fault : bits_of_all (world_of p.view) (parts.cone_of p) ≤ 1024 → case_fault d unit given p.classes.now ≡ None
  few-fault l = ap (λ (b : Bool). if b then Some (at_unit d unit given 30) else None) (is-few l)

  -- the fault that the code makes
  pub fault-is : (number : ℕ) (f : Fault) → f ≡ cases_faults.fault_at_unit number p.view.design.now p.leaf.now → f ≡ at_unit d unit given number
  fault-is number f e = at-unit p.view.design.now p.units.now p.leaf.now given number f h.units e

  pub many-fault : 1024 < bits_of_all (world_of p.view) (parts.cone_of p) → (f : Fault) → f ≡ cases_faults.fault_at_unit 30 p.view.design.now p.leaf.now → case_fault d unit given p.classes.now ≡ Some f
  many-fault l f e = ap (λ (b : Bool). if b then Some (at_unit d unit given 30) else None) (is-many l) ∙ ap Some (sym (fault-is 30 f e))
