-- The reading of a script is a plan of proof.
use Rattle.std.proofs.Common.{◌≡◌, ℕ, ◌+◌, ◌-◌, ◌<◌, List, ◌++◌, map, length, take, Bool, true, false, refl, sym, ap, subst, ◌∙◌, Option, Some, None, arith}
use Rattle.std.specs.List.{slice_get, list_all}
use Rattle.std.proofs.lemmas.List.{map-append}
use Rattle.law_lists.proofs.Lists.{map-map, length_map}
use Rattle.smv_core.specs.Values.{Name, Value, number, constant, scalar, ordinal, Sizes, values_of}
use Rattle.smv_core.specs.FlatMeaning.{set_type}
use Rattle.smv_core.specs.declared.flat.Design.{Design}
use Rattle.smv_core.specs.declared.flat.Simple.{Simple}
use Rattle.smv_core.specs.declared.flat.Simple.TheVariants.{Range, Enum, Set}
use Rattle.smv_core.specs.declared.flat.Def.{Def}
use Rattle.smv_core.specs.declared.flat.Claim.{Claim as FlatClaim}
use Rattle.smv_core.specs.declared.flat.Unit.{Unit}
use Rattle.smv_core.specs.declared.flat.Unit.TheVariants.{Map, Claim}
use Rattle.smv_core.specs.declared.flat.Param.{Param}
use Rattle.smv_core.specs.declared.flat.Class.{Class}
use Rattle.smv_core.specs.declared.flat.Timing.TheVariants.{Now, Before}
use Rattle.law_obligations.specs.Sets.{Has}
use Rattle.law_obligations.specs.Places.{Place, is_named, places_in}
use Rattle.law_obligations.specs.Cases.{Parameter, cases}
use Rattle.law_obligations.specs.LeafCases.{stays, leaf_cases}
use Rattle.law_obligations.specs.Covers.{IsIndexType}
use Rattle.law_obligations.specs.Soundness.{FlatUnit, map_of, claim_of, LeafProof, at_sizes, AreSizes, over_of, params_of, HasValue, IsKept, IsCase, IsUnit, IsLeaf, IsPlan}
use Rattle.law_obligations.specs.Uses.{rank_of}
use Rattle.law_obligations.proofs.Members.{Has-map, Has-from_map}
use Rattle.law_obligations.proofs.Spots.{Has-numbers}
use Rattle.law_obligations.proofs.OneOfEach.{AreOf, one_of, get_Has, Has_get}
use Rattle.law_obligations.proofs.CoverScalarsets.{named_set}
use Rattle.law_obligations.specs.Outlines.{Entry, Outline, Script, outline_of, names_of, as_map, as_claim, unit_in}
use Rattle.law_obligations.specs.Times.{graph, has_edge, timed}
use Rattle.law_obligations.specs.Problems.{leaf_params, leaf_treatments, world_of, params_at, own_params, problem_of, proof_of, proofs_from, plan_of}
use Rattle.law_obligations.specs.Checked.{IsFilled, IsSplit, IsChecked}
use Rattle.law_obligations.proofs.OutlineFacts.{bases-are, unit-def}
use Rattle.law_obligations.proofs.UsesFall.{uses_fall}
use Rattle.law_obligations.proofs.CasePlaces.{IsThere, case_places, treatment_there, take_of, named_there}
use Rattle.law_obligations.proofs.ConeFacts.{AreIndexes, keeps_named, own_kept}
use Rattle.law_obligations.proofs.Granted.{proofs-are, granted}

-- a type that is not empty has a value
pub set_value : (sizes : Sizes) (is_ordered : Bool) (name : Name) → 0 < sizes name → (v : Value) × Has (values_of sizes (named_set is_ordered name)) v
set_value sizes true name l = (ordinal name 0, Has-map (ordinal name) (Has-numbers 0 (sizes name) 0 (omega arith) (omega (arith, l))))
set_value sizes false name l = (scalar name 0, Has-map (scalar name) (Has-numbers 0 (sizes name) 0 (omega arith) (omega (arith, l))))

pub filled_value : (d : Design) (sizes : Sizes) → AreSizes (names_of d) sizes → (t : Simple) → IsFilled d t → HasValue (at_sizes (names_of d) sizes) t
filled_value d sizes each (Range low high) l = (number low, Has-map number (Has-numbers low (high + 1 - low) low (omega arith) (omega (arith, l))))
filled_value d sizes each (Enum list) f = (constant f.0, Has-map constant f.1)
filled_value d sizes each (Set set) f =
    subst (λ o. (v : Value) × Has (values_of sizes (set_type o)) v) (sym f.1) (set_value sizes f.0.ordered f.0.name (each f.0 (get_Has d.sets set f.0 f.1)).0)

filled_there : (d : Design) (t : Simple) → IsFilled d t → IsThere d.sets t
filled_there d (Range low high) f = tt
filled_there d (Enum list) f = tt
filled_there d (Set set) f = f

module _ (s : Script) (checked : IsChecked s) where
  abbrev o : Outline
  o = outline_of s

  as_map-is : (od : Option Def) (k : ℕ) → slice_get o.design.defs k ≡ od → IsUnit (plan_of s) (as_map od)
  as_map-is None k e = tt
  as_map-is (Some def) k e = checked.are_definitions def (get_Has o.design.defs k def e)

  as_claim-is : (oc : Option FlatClaim) (k : ℕ) → slice_get o.design.claims k ≡ oc → IsUnit (plan_of s) (as_claim oc)
  as_claim-is None k e = tt
  as_claim-is (Some claim) k e = checked.are_whole claim (get_Has o.design.claims k claim e)

  unit-is : (unit : Unit) → IsUnit (plan_of s) (unit_in o.design unit)
  unit-is (Map k) = as_map-is (slice_get o.design.defs k) k refl
  unit-is (Claim k) = as_claim-is (slice_get o.design.claims k) k refl

  abbrev parameter : Entry → Param → Parameter
  parameter entry p = record { over = p.over; listed = stays entry.choice.keeps p.over p.var }

  types_are : (entry : Entry) → map (λ p. p.over) (leaf_params entry) ≡ map (λ p. p.over) entry.leaf.params
  types_are entry = map-map (λ p. p.over) (parameter entry) entry.leaf.params

  index_types : (entry : Entry) → IsSplit s entry → (p : Parameter) → Has (leaf_params entry) p → IsIndexType p.over
  index_types entry split p h = let r = Has-from_map (parameter entry) entry.leaf.params h in subst (λ (p : Parameter). IsIndexType p.over) (sym r.2) (split.are_index_types r.0 r.1)

  filled_types : (entry : Entry) → IsSplit s entry → (p : Parameter) → Has (leaf_params entry) p → IsFilled o.design p.over
  filled_types entry split p h = let r = Has-from_map (parameter entry) entry.leaf.params h in subst (λ (p : Parameter). IsFilled o.design p.over) (sym r.2) (split.are_filled r.0 r.1)

  leaf-is : (u : ℕ) (entry : Entry) → IsSplit s entry → IsLeaf (plan_of s) (proof_of s u entry)
  leaf-is u entry split = record {
    is_unit = unit-is entry.unit;
    added = split.added;
    are_params = split.are_params;
    are_index_types = split.are_index_types;
    are_guards = split.are_guards;
  }

  -- the target of a map at numbers and classes is kept
  module _ (u : ℕ) (entry : Entry) (split : IsSplit s entry) (classes : List Class) (is_case : Has (cases (leaf_treatments o entry) (leaf_params entry)) classes) where
    pub own_are : (def : Def) → unit_in o.design entry.unit ≡ map_of def → (own : List Place) → take (length (over_of (slice_get o.design.families def.family))) (params_at o entry classes) ≡ own →
        list_all is_named own ≡ true → AreIndexes (world_of o entry classes) def.family own
    own_are def is_map own is_own named =
        let w = world_of o entry classes in
        let over = over_of (slice_get o.design.families def.family) in
        let are : AreOf (map (places_in w) (map (λ p. p.over) (leaf_params entry))) (params_at o entry classes) =
        case_places (names_of o.design) (leaf_treatments o entry) (leaf_params entry) classes checked.are_apart (treatment_there entry.choice.keeps 0 o.design.sets) is_case
        (index_types entry split) (λ p h. filled_there o.design p.over (filled_types entry split p h)) in
        let types : map (λ p. p.over) (leaf_params entry) ≡ over ++ split.added = types_are entry ∙ (split.are_params ∙ ap (λ unit. params_of (names_of o.design) unit ++ split.added) is_map) in
        let front : AreOf (map (places_in w) over ++ map (places_in w) split.added) (params_at o entry classes) =
        subst (λ xss. AreOf xss (params_at o entry classes)) (map-append (places_in w) over split.added) (subst (λ ts. AreOf (map (places_in w) ts) (params_at o entry classes)) types are) in
        let taken : AreOf (map (places_in w) over) own =
        subst (AreOf (map (places_in w) over)) (ap (λ k. take k (params_at o entry classes)) (length_map (places_in w) over) ∙ is_own) (take_of (map (places_in w) over) (map (places_in w) split.added) (params_at o entry classes) front) in
        one_of _ own (named_there w over own taken named)

    target_kept : (unit : FlatUnit) → unit_in o.design entry.unit ≡ unit → (own : List Place) → take (length (params_of (names_of o.design) unit)) (params_at o entry classes) ≡ own →
        list_all is_named own ≡ true → IsKept (problem_of o entry (timed o (graph s) u entry) classes) unit own
    target_kept (claim_of claim) e own is_own named = tt
    target_kept (map_of def) e own is_own named =
        let k = unit-def o.design entry.unit def e in
        let d = checked.are_definitions def (get_Has o.design.defs k.0 def k.2) in
        own_kept (world_of o entry classes) o entry (params_at o entry classes) def e d.family d.is_family own is_own (own_are def e own is_own named) named

    case-is : slice_get s.entries u ≡ Some entry → IsCase (plan_of s) u (proof_of s u entry) classes (problem_of o entry (timed o (graph s) u entry) classes)
    case-is there = record {
      is_world = refl;
      are_params = refl;
      keeps_named = keeps_named (world_of o entry classes) o entry (params_at o entry classes);
      is_target = refl;
      keeps_target = target_kept (unit_in o.design entry.unit) refl (own_params o entry classes) refl;
      are_guards = refl;
      now = granted s u entry there classes Now;
      before = granted s u entry there classes Before;
    }

  -- what holds of each leaf of the outline holds of each of the plan
  pub from_leaf : (P : LeafProof → Type 0) → ((u : ℕ) (entry : Entry) → slice_get s.entries u ≡ Some entry → P (proof_of s u entry)) → (leaf : LeafProof) → Has (proofs_from s 0 s.entries) leaf → P leaf
  from_leaf P each leaf h = let g = Has_get h in let r = proofs-are s 0 g.0 s.entries g.0 leaf (omega arith) g.1 in subst P r.2 (each g.0 r.0 r.1)

  split-is : (u : ℕ) (entry : Entry) → slice_get s.entries u ≡ Some entry → IsSplit s entry
  split-is u entry e = checked.are_split entry (get_Has s.entries u entry e)

  pub is_plan : IsPlan (plan_of s)
  is_plan = record {
    base = λ def h. checked.are_definitions def (bases-are o.design def h);
    leaves = from_leaf (IsLeaf (plan_of s)) (λ u entry e. leaf-is u entry (split-is u entry e));
    order = rank_of (has_edge (graph s)) (length (graph s));
    falls = uses_fall s;
    are_cases = λ u leaf e classes h. let r = proofs-are s 0 u s.entries u leaf (omega arith) e in
        subst (λ leaf. Has (leaf_cases o.design.sets leaf.params leaf.keeps) classes → IsCase (plan_of s) u leaf classes (leaf.problem classes)) r.2
        (λ h. case-is u r.0 (split-is u r.0 r.1) classes h r.1) h;
    are_apart = checked.are_apart;
    have_values = λ sizes each. record {
      families = λ f h. filled_value o.design sizes each f.value (checked.are_filled f h);
      params = from_leaf (λ leaf. (p : Param) → Has leaf.params p → HasValue (at_sizes (names_of o.design) sizes) p.over)
          (λ u entry e p h. filled_value o.design sizes each p.over ((split-is u entry e).are_filled p h));
    };
  }
