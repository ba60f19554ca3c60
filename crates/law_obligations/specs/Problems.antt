-- The problem of a case, and the plan of proof of a script.
use Rattle.std.specs.Prelude.{ℕ, suc, List, [], ◌∷◌, ◌++◌, map, flat_map, zip, take, length, slice_get, Option, Some, None, option_to_list, Bool, true, false, ◌&&◌, ◌||◌, if◌then◌else◌, nat_eq}
use Rattle.std.specs.List.{list_any}
use Rattle.smv_core.specs.declared.flat.Def.{Def}
use Rattle.smv_core.specs.declared.flat.Claim.{Claim}
use Rattle.smv_core.specs.declared.flat.Class.{Class}
use Rattle.smv_core.specs.declared.flat.Pick.{Pick}
use Rattle.smv_core.specs.declared.flat.Timing.{Timing}
use Rattle.smv_core.specs.declared.flat.Timing.TheVariants.{Now, Before}
use Rattle.smv_core.specs.declared.flat.Timed.{Timed}
use Rattle.law_obligations.specs.Sets.{one_of_each}
use Rattle.law_obligations.specs.Places.{Place, World, world, named_in}
use Rattle.law_obligations.specs.Cases.{Treatment, Parameter}
use Rattle.law_obligations.specs.LeafCases.{treatments_of, parameters_of}
use Rattle.law_obligations.specs.Covers.{types_at, places_at}
use Rattle.law_obligations.specs.Obligations.{Demanded, defined, holds, AbstractProblem}
use Rattle.law_obligations.specs.Soundness.{params_of, said_at, LeafProof, ProofPlan}
use Rattle.law_obligations.specs.Outlines.{Entry, Outline, Script, outline_of, names_of, bases, unit_in, map_in, claim_unit, picked_unit, assumed, chosen}
use Rattle.law_obligations.specs.Times.{is_unit, graph, timed}
use Rattle.law_obligations.specs.Cones.{AbsElement, element, same_element, cone, kept}

-- the same time
abbrev pub is_at : Timing → Timing → Bool
is_at Now Now = true
is_at Before Before = true
is_at _ _ = false

-- the time of the definition that is chosen for a family: that of its pick; a base definition that no pick names holds now
abbrev pub family_time : List Pick → List Timing → ℕ → Timing
family_time (p ∷ picks) (time ∷ times) family = if nat_eq p.family family then time else family_time picks times family
family_time _ _ family = Now

-- a leaf: its parameters, and how its set types are treated
abbrev pub leaf_params : Entry → List Parameter
leaf_params entry = parameters_of entry.choice.keeps entry.leaf.params

abbrev pub leaf_treatments : Outline → Entry → List Treatment
leaf_treatments o entry = treatments_of entry.choice.keeps 0 o.design.sets

-- the design as a case sees it
abbrev pub world_of : Outline → Entry → List Class → World
world_of o entry classes = world (names_of o.design) (types_at o.design.sets (leaf_treatments o entry) (leaf_params entry) classes)

-- where the leaf's parameters stand
abbrev pub params_at : Outline → Entry → List Class → List Place
params_at o entry classes = places_at (names_of o.design) (leaf_params entry) classes

-- where the unit's own parameters stand
abbrev pub own_params : Outline → Entry → List Class → List Place
own_params o entry classes = take (length (params_of (names_of o.design) (unit_in o.design entry.unit))) (params_at o entry classes)

module _ (o : Outline) (entry : Entry) (times : Timed) (w : World) (own : List Place) where
  -- the chosen definition of an element, where it holds at this time
  abbrev pub element_demands : Timing → AbsElement → List Demanded
  element_demands time x =
      if is_at (family_time entry.choice.picks times.picks x.family) time then map (λ def. defined def x.indexes) (option_to_list (chosen o entry.choice.picks x.family)) else []

  abbrev pub own_demands : AbsElement → Option Def → List Demanded
  own_demands x None = []
  own_demands x (Some def) = if same_element (element def.family own) x then defined def x.indexes ∷ [] else []

  -- where a map uses itself, its definition of the target's element holds before
  abbrev pub itself_demands : Timing → AbsElement → List Demanded
  itself_demands time x = if is_at time Before && entry.choice.itself then own_demands x (map_in (unit_in o.design entry.unit)) else []

  -- the instances of an assumed claim at numbers and classes
  abbrev pub instances : Option Claim → List Demanded
  instances None = []
  instances (Some claim) = map (holds claim.body) (one_of_each (map (named_in w) (map (λ p. p.over) claim.params)))

  abbrev pub claim_demands : Timing → List Demanded
  claim_demands time = flat_map (λ (used, t). if is_at t time then instances (assumed o used) else []) (zip entry.choice.claims times.claims)

  -- what is demanded at a time: of each element of the cone, and then of the assumed claims
  abbrev pub demands : List AbsElement → Timing → List Demanded
  demands elements time = flat_map (λ x. element_demands time x ++ itself_demands time x) elements ++ claim_demands time

-- the problem of a case: the elements of its cone, the base definitions and the uses that are now, the uses that are before, the target at
-- the unit's own parameters, and the guards
abbrev pub problem_of : Outline → Entry → Timed → List Class → AbstractProblem
problem_of o entry times classes =
    let w = world_of o entry classes in
    let params = params_at o entry classes in
    let own = own_params o entry classes in
    let elements = cone w o entry params in
    record {
      world = w;
      kept = kept elements;
      now = demands o entry times w own elements Now;
      before = demands o entry times w own elements Before;
      target = said_at (unit_in o.design entry.unit) own;
      guards = entry.leaf.guards;
      params = params;
    }

module _ (s : Script) where
  -- the leaf of the unit at this place uses another unit at this time, by a pick, by a claim, or by itself
  abbrev pub entry_uses : Entry → Timed → Timing → ℕ → ℕ → Bool
  entry_uses entry times time u v =
      list_any (λ (p, t). is_at t time && is_unit v (picked_unit (outline_of s) p)) (zip entry.choice.picks times.picks)
      || (list_any (λ (used, t). is_at t time && is_unit v (claim_unit (outline_of s) used.claim)) (zip entry.choice.claims times.claims)
      || (is_at time Before && (entry.choice.itself && nat_eq u v)))

  abbrev pub used_by : Timing → ℕ → ℕ → Option Entry → Bool
  used_by time u v None = false
  used_by time u v (Some entry) = entry_uses entry (timed (outline_of s) (graph s) u entry) time u v

  abbrev pub uses_at : Timing → ℕ → ℕ → Bool
  uses_at time u v = used_by time u v (slice_get s.entries u)

-- the proof of a leaf
abbrev pub proof_of : Script → ℕ → Entry → LeafProof
proof_of s u entry = record {
  unit = unit_in s.design entry.unit;
  params = entry.leaf.params;
  guards = entry.leaf.guards;
  keeps = entry.choice.keeps;
  problem = problem_of (outline_of s) entry (timed (outline_of s) (graph s) u entry);
}

abbrev pub proofs_from : Script → ℕ → List Entry → List LeafProof
proofs_from s u [] = []
proofs_from s u (entry ∷ entries) = proof_of s u entry ∷ proofs_from s (suc u) entries

-- the plan of proof of a script
abbrev pub plan_of : Script → ProofPlan
plan_of s = record { names = names_of s.design; base = bases s.design; leaves = proofs_from s 0 s.entries; uses_now = uses_at s Now; uses_before = uses_at s Before }
