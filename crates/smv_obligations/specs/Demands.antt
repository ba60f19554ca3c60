-- Demands of a case as they are written, by elements, classes and spots as they are written.
use Rattle.std.specs.Prelude.{ℕ, List, [], ◌∷◌, ◌++◌, map, flat_map, zip, take, length, slice_get, option_to_list, Option, Some, None, Bool, ◌&&◌, if◌then◌else◌}
use Rattle.smv_core.specs.declared.flat.Simple.{Simple}
use Rattle.smv_core.specs.declared.flat.Class.{Class}
use Rattle.smv_core.specs.declared.flat.Element.{Element}
use Rattle.smv_core.specs.declared.flat.Def.{Def}
use Rattle.smv_core.specs.declared.flat.Param.{Param}
use Rattle.smv_core.specs.declared.flat.Claim.{Claim}
use Rattle.smv_core.specs.declared.flat.Assumed.{Assumed}
use Rattle.smv_core.specs.declared.flat.FlatExpr.{FlatExpr}
use Rattle.smv_core.specs.declared.flat.Timing.{Timing}
use Rattle.smv_core.specs.declared.flat.Timing.TheVariants.{Now, Before}
use Rattle.smv_core.specs.declared.flat.Timed.{Timed}
use Rattle.law_obligations.specs.Sets.{one_of_each}
use Rattle.law_obligations.specs.Soundness.{FlatUnit, map_of, claim_of, over_of}
use Rattle.law_obligations.specs.Outlines.{unit_in, map_in, chosen}
use Rattle.law_obligations.specs.Problems.{is_at, family_time}
use Rattle.smv_problem.specs.declared.problem.Problem.{Problem}
use Rattle.smv_problem.specs.declared.problem.Demand.{Demand}
use Rattle.smv_problem.specs.declared.problem.Demand.TheVariants.{Defined, Holds}
use Rattle.smv_elements.specs.Elements.{same_element}
use Rattle.smv_spots.specs.declared.spots.Spot.{Spot}
use Rattle.smv_reads.specs.Views.{spot_in, classes_in}
use Rattle.smv_cone.specs.declared.parts.Part.{Part}
use Rattle.smv_obligations.specs.declared.shared.Shared.{Shared}
use Rattle.smv_cone.specs.Parts.{outline_of, entry_of}

-- an element of a family, and the definition of one with these indexes
abbrev pub element_in : ℕ → List Class → Element
element_in family indexes = record { family = family; indexes = indexes }

abbrev pub defined_in : Def → List Class → Demand
defined_in def indexes = Defined (element_in def.family indexes) def.init def.next def.comb

-- where the numbers and classes of an index type lie
abbrev pub spots_of : Part → Simple → List Spot
spots_of p over = map (spot_in over) (classes_in p.view.types.now over)

-- the body of a claim where its parameters lie at these spots and behind them at all those of their types
unfoldable pub held_from : Part → List Spot → List Param → FlatExpr → List Demand
held_from p front params body = map (λ b. Holds body (front ++ b)) (one_of_each (map (λ q. spots_of p q.over) params))

module _ (p : Part) where
  -- what the unit of the leaf says
  abbrev pub said : FlatUnit
  said = unit_in p.view.design.now (entry_of p).unit

  -- the indexes of the target's element
  abbrev pub own_indexes : Def → List Class
  own_indexes def = take (length (over_of (slice_get p.view.design.now.families def.family))) p.classes.now

  -- the target
  abbrev pub target_in : FlatUnit → Demand
  target_in (map_of def) = defined_in def (own_indexes def)
  target_in (claim_of claim) = Holds claim.body (take (length claim.params) p.params.now)

  -- the chosen definition of an element, where it holds at this time
  abbrev pub chosen_in : Timed → Timing → Element → List Demand
  chosen_in times time x =
      if is_at (family_time p.choice.now.picks times.picks x.family) time then map (λ def. defined_in def x.indexes) (option_to_list (chosen (outline_of p) p.choice.now.picks x.family)) else []

  -- the element is the target's
  abbrev pub is_own : Def → Element → Bool
  is_own def x = same_element (element_in def.family (own_indexes def)) x

  -- where a map uses itself, its definition of the target's element, before
  abbrev pub own_in : Element → Option Def → List Demand
  own_in x None = []
  own_in x (Some def) = if is_own def x then defined_in def x.indexes ∷ [] else []

  abbrev pub itself_in : Timing → Element → List Demand
  itself_in time x = if is_at time Before && p.choice.now.itself then own_in x (map_in said) else []

  unfoldable pub element_in_turn : Timed → Timing → Element → List Demand
  element_in_turn times time x = chosen_in times time x ++ itself_in time x

  -- the instances of an assumed claim
  abbrev pub instances_in : Option Claim → List Demand
  instances_in None = []
  instances_in (Some claim) = held_from p [] claim.params claim.body

  unfoldable pub claim_in_turn : Timing → Assumed × Timing → List Demand
  claim_in_turn time (used, t) = if is_at t time then instances_in (slice_get p.view.design.now.claims used.claim) else []

  -- all that is demanded at a time, of these elements
  abbrev pub demands_in : Timed → Timing → List Element → List Demand
  demands_in times time elements = flat_map (element_in_turn times time) elements ++ flat_map (claim_in_turn time) (zip p.choice.now.claims times.claims)

  -- the problem with these elements, and what it has in common with others
  abbrev pub problem_in : Timed → Shared → List Element → Problem
  problem_in times shared elements = record {
    elements = elements;
    families = shared.families;
    lists = shared.lists;
    names = shared.names;
    set_names = shared.set_names;
    ordered = shared.ordered;
    types = p.view.types.now;
    now = demands_in times Now elements;
    before = demands_in times Before elements;
    target = target_in said;
    guards = p.leaf.now.guards;
    bindings = p.params.now;
  }
