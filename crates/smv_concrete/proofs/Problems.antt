-- The problem of a case at given sizes, as it is written.
use Rattle.std.proofs.Common.{◌≡◌, ℕ, List, [], ◌∷◌, ◌++◌, map, flat_map, take, length, Option, Some, None, ◌&&◌, if◌then◌else◌, refl, sym, ap, ◌∙◌, option_to_list, slice_get, zip, arith}
use Rattle.law_lists.proofs.Lists.{length_map}
use Rattle.law_lists.proofs.Places.{take_past}
use Rattle.smv_core.specs.FlatMeaning.{Numbered}
use Rattle.smv_core.specs.declared.abstract_type.AbsType.{AbsType}
use Rattle.smv_core.specs.declared.flat.Choice.{Choice}
use Rattle.smv_core.specs.declared.flat.Def.{Def}
use Rattle.smv_core.specs.declared.flat.Element.{Element}
use Rattle.smv_core.specs.declared.flat.Guard.{Guard}
use Rattle.smv_core.specs.declared.flat.Simple.{Simple}
use Rattle.smv_core.specs.declared.flat.Timed.{Timed}
use Rattle.smv_core.specs.declared.flat.Timing.{Timing}
use Rattle.smv_core.specs.declared.flat.Timing.TheVariants.{Now, Before}
use Rattle.law_obligations.specs.Cones.{AbsElement, cone, kept}
use Rattle.law_obligations.specs.Obligations.{Demanded, defined}
use Rattle.law_obligations.specs.Outlines.{base_of, chosen, map_in, unit_in}
use Rattle.law_obligations.specs.Places.{Place, World}
use Rattle.law_obligations.specs.Problems.{family_time, is_at}
use Rattle.law_obligations.specs.Readings.{PosedCase}
use Rattle.law_obligations.specs.Soundness.{FlatUnit, claim_of, map_of, over_of, params_of, said_at}
use Rattle.law_concrete.specs.Concrete.{base_demands, concrete_case, sized}
use Rattle.law_concrete.specs.Sizes.{sizes_at}
use Rattle.smv_problem.specs.Written.{name_number, orders_of, set_numbers_of, written, written_class, written_demand, written_element, written_spot}
use Rattle.smv_problem.specs.declared.problem.Demand.{Demand}
use Rattle.smv_problem.specs.declared.problem.Demand.TheVariants.{Holds}
use Rattle.smv_problem.specs.declared.problem.Problem.{Problem}
use Rattle.smv_spots.specs.declared.spots.Spot.{Spot}
use Rattle.smv_reads.specs.Views.{places, world_of}
use Rattle.smv_cone.specs.declared.parts.Part.{Part}
use Rattle.smv_cone.specs.Parts.{cone_of, entry_of, outline_of, params_of as places_of, spots_in}
use Rattle.smv_cone.proofs.Ends.{forms-written}
use Rattle.smv_obligations.specs.declared.shared.Shared.{Shared}
use Rattle.smv_obligations.specs.Shared.{IsShared}
use Rattle.smv_obligations.specs.Demands.{chosen_in, claim_in_turn, defined_in, demands_in, element_in_turn, itself_in, own_in, problem_in, said, target_in}
use Rattle.smv_concrete.specs.Subjects.{IsSized, no_times}
use Rattle.smv_concrete.specs.Parts.{IsLone}
use Rattle.smv_concrete.proofs.Spots.{spots-are, spots-long}
use Rattle.smv_concrete.proofs.Views.{carried, classes-of, part-view, spots-by, types}

map-join : {X Y : Type 0} (f : X → Y) (xs ys : List X) → map f (xs ++ ys) ≡ map f xs ++ map f ys
map-join f [] ys = refl
map-join f (x ∷ xs) ys = ap (λ zs. f x ∷ zs) (map-join f xs ys)

nothing-behind : {X : Type 0} (xs : List X) → xs ++ [] ≡ xs
nothing-behind [] = refl
nothing-behind (x ∷ xs) = ap (λ ys. x ∷ ys) (nothing-behind xs)

module _ (given : List ℕ) (p : Part) (z : IsSized p.view.design.now given) (h : IsLone given p) where
  abbrev n : Numbered
  n = (world_of p.view).classes

  -- the case over the design as the part sees it
  abbrev case_by : World → List AbsElement → List Place → PosedCase
  case_by w elements params = record {
    problem = record {
      world = w;
      kept = kept elements;
      now = base_demands p.view.design.now (sizes_at p.view.design.now.sets given) elements;
      before = [];
      target = said_at (unit_in p.view.design.now (entry_of p).unit) params;
      guards = [];
      params = params;
    };
    elements = elements;
  }

  abbrev the_case : PosedCase
  the_case = concrete_case p.view.design.now (sizes_at p.view.design.now.sets given) (entry_of p).unit p.classes.now

  case-is : the_case ≡ case_by (world_of p.view) (cone_of p) (places_of p)
  case-is = carried given p z h (λ w o e ps. the_case ≡ case_by w (cone w o e ps) ps) refl

  -- ---- demands

  abbrev base_demands_at : AbsElement → List Demanded
  base_demands_at x = map (λ def. defined def x.indexes) (option_to_list (base_of p.view.design.now x.family))

  chosen-now : (x : AbsElement) → chosen_in p no_times Now (written_element x) ≡ map (written_demand n) (base_demands_at x)
  chosen-now x =
      ap (λ (c : Choice). if is_at (family_time c.picks [] x.family) Now then map (λ def. defined_in def (map written_class x.indexes)) (option_to_list (chosen (outline_of p) c.picks x.family)) else []) h.choice ∙ by (base_of p.view.design.now x.family)
    where
      by : (o : Option Def) → map (λ def. defined_in def (map written_class x.indexes)) (option_to_list o) ≡ map (written_demand n) (map (λ def. defined def x.indexes) (option_to_list o))
      by None = refl
      by (Some def) = refl

  chosen-before : (x : Element) → chosen_in p no_times Before x ≡ []
  chosen-before x = ap (λ (c : Choice). if is_at (family_time c.picks [] x.family) Before then map (λ def. defined_in def x.indexes) (option_to_list (chosen (outline_of p) c.picks x.family)) else []) h.choice

  itself-before : (x : Element) → itself_in p Before x ≡ []
  itself-before x = ap (λ (c : Choice). if is_at Before Before && c.itself then own_in p x (map_in (said p)) else []) h.choice

  turn-now : (x : AbsElement) → element_in_turn p no_times Now (written_element x) ≡ map (written_demand n) (base_demands_at x)
  unfolding element_in_turn
  turn-now x = nothing-behind (chosen_in p no_times Now (written_element x)) ∙ chosen-now x

  turn-before : (x : Element) → element_in_turn p no_times Before x ≡ []
  unfolding element_in_turn
  turn-before x = ap (λ (ds : List Demand). ds ++ itself_in p Before x) (chosen-before x) ∙ itself-before x

  demands-now : (xs : List AbsElement) → flat_map (element_in_turn p no_times Now) (map written_element xs) ≡ map (written_demand n) (flat_map base_demands_at xs)
  demands-now [] = refl
  demands-now (x ∷ xs) =
      ap (λ (ds : List Demand). ds ++ flat_map (element_in_turn p no_times Now) (map written_element xs)) (turn-now x)
      ∙ (ap (λ (ds : List Demand). map (written_demand n) (base_demands_at x) ++ ds) (demands-now xs) ∙ sym (map-join (written_demand n) (base_demands_at x) (flat_map base_demands_at xs)))

  demands-before : (xs : List Element) → flat_map (element_in_turn p no_times Before) xs ≡ []
  demands-before [] = refl
  demands-before (x ∷ xs) = ap (λ (ds : List Demand). ds ++ flat_map (element_in_turn p no_times Before) xs) (turn-before x) ∙ demands-before xs

  abbrev all : List Element
  all = map written_element (cone_of p)

  -- nothing is assumed
  now-is : demands_in p no_times Now all ≡ map (written_demand n) (base_demands p.view.design.now (sizes_at p.view.design.now.sets given) (cone_of p))
  now-is = no-claims Now ∙ demands-now (cone_of p)
    where
      no-claims : (time : Timing) → demands_in p no_times time all ≡ flat_map (element_in_turn p no_times time) all
      no-claims time = ap (λ (c : Choice). flat_map (element_in_turn p no_times time) all ++ flat_map (claim_in_turn p time) (zip c.claims [])) h.choice ∙ nothing-behind (flat_map (element_in_turn p no_times time) all)

  before-is : demands_in p no_times Before all ≡ []
  before-is = ap (λ (c : Choice). flat_map (element_in_turn p no_times Before) all ++ flat_map (claim_in_turn p Before) (zip c.claims [])) h.choice ∙ (nothing-behind (flat_map (element_in_turn p no_times Before) all) ∙ demands-before all)

  -- ---- the target

  abbrev own_types : List Simple
  own_types = types given p z h

  long : (length (spots_in own_types p.classes.now) ≡ length own_types) × (length p.classes.now ≡ length own_types)
  long = spots-long p.view (sizes_at p.view.design.now.sets given) own_types p.classes.now (classes-of given p z h)

  all-classes : (k : ℕ) → k ≡ length own_types → take k p.classes.now ≡ p.classes.now
  all-classes k e = let l = long.1 in take_past p.classes.now k (omega (arith, e, l))

  all-spots : (k : ℕ) → k ≡ length own_types → take k p.params.now ≡ p.params.now
  all-spots k e = let l = long.0 ∙ sym e in let s = ap length (spots-by given p z h) in take_past p.params.now k (omega (arith, s, l))

  bindings-are : map (written_spot n) (places_of p) ≡ p.params.now
  bindings-are = ap (λ (ss : List Spot). map (written_spot n) (places p.view ss)) (spots-by given p z h)
      ∙ (spots-are p.view (sizes_at p.view.design.now.sets given) 256 z.are_few z.are_apart own_types p.classes.now (classes-of given p z h) ∙ sym (spots-by given p z h))

  target-at : (u : FlatUnit) → said p ≡ u → written_demand n (said_at u (places_of p)) ≡ target_in p u
  target-at (map_of def) e =
      ap (defined_in def) ((part-view given p z h).are_written ∙ sym (all-classes (length (over_of (slice_get p.view.design.now.families def.family))) (ap (λ (u : FlatUnit). length (params_of (sized p.view.design.now (sizes_at p.view.design.now.sets given)) u)) (sym e))))
  target-at (claim_of claim) e =
      ap (Holds claim.body) (bindings-are ∙ sym (all-spots (length claim.params) (sym (length_map (λ q. q.over) claim.params) ∙ ap (λ (u : FlatUnit). length (params_of (sized p.view.design.now (sizes_at p.view.design.now.sets given)) u)) (sym e))))

  -- ---- the problem

  abbrev made : List AbsType → List Demand → List Demand → Demand → List Guard → List Spot → Problem
  made types now before target guards bindings = record {
    elements = all;
    families = p.view.design.now.families;
    lists = map length p.view.design.now.enums;
    names = map (map (name_number p.view.design.now.enums)) p.view.design.now.enums;
    set_names = set_numbers_of p.view.design.now.sets;
    ordered = orders_of p.view.design.now.sets;
    types = types;
    now = now;
    before = before;
    target = target;
    guards = guards;
    bindings = bindings;
  }

  written-by : written (case_by (world_of p.view) (cone_of p) (places_of p)) ≡ made p.view.types.now (demands_in p no_times Now all) (demands_in p no_times Before all) (target_in p (said p)) p.leaf.now.guards p.params.now
  unfolding written
  written-by =
      λ i. made (sym (forms-written (world_of p.view) p.view.design.now.sets p.view.types.now (part-view given p z h).is_view.is_world.forms) i) (sym now-is i) (sym before-is i) (target-at (said p) refl i) (sym h.guards i) (bindings-are i)

  pub problem-is : (times : Timed) (s : Shared) (elements : List Element) → times ≡ no_times → IsShared p.view.design.now s → elements ≡ map written_element (cone_of p) → problem_in p times s elements ≡ written the_case
  problem-is times s elements t sh g =
      (λ i. problem_in p (t i) (record { families = sh.families i; lists = sh.lists i; names = sh.names i; set_names = sh.set_names i; ordered = sh.ordered i }) (g i)) ∙ (sym written-by ∙ ap written (sym case-is))
