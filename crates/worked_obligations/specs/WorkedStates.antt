-- Worked scripts, whose cases are tried with all abstract states.
use Rattle.std.specs.Prelude.{◌≡◌, ℕ, List, [], ◌∷◌, map, flat_map, option_to_list, Option, Some, None, Bool, true, false, if◌then◌else◌, codes}
use Rattle.std.specs.List.{list_any, slice_get}
use Rattle.smv_core.specs.Values.{number}
use Rattle.smv_core.specs.declared.tree.Op.TheVariants.{Less, AtLeast}
use Rattle.smv_core.specs.declared.flat.Simple.TheVariants.{Range, Set}
use Rattle.smv_core.specs.declared.flat.Class.{Class}
use Rattle.smv_core.specs.declared.flat.Guard.{Guard}
use Rattle.smv_core.specs.declared.flat.DefBody.{Forall}
use Rattle.smv_core.specs.declared.flat.FlatSigned.{roll-FlatSigned}
use Rattle.smv_core.specs.declared.flat.FlatExpr.{FlatExpr, Var, And, Or, Implies, Compare, Sum, All, Any, Each}
use Rattle.law_obligations.specs.Sets.{one_of_each}
use Rattle.law_obligations.specs.Places.{Place, named, World, places_in}
use Rattle.law_obligations.specs.May.{AbsState}
use Rattle.law_obligations.specs.Circular.{is_violating}
use Rattle.law_obligations.specs.LeafCases.{leaf_cases}
use Rattle.law_obligations.specs.Obligations.{AbstractProblem, obligation}
use Rattle.law_obligations.specs.Outlines.{Entry, Script, outline_of}
use Rattle.law_obligations.specs.Times.{graph, timed}
use Rattle.law_obligations.specs.Cones.{AbsElement, element, same_element, cone}
use Rattle.law_obligations.specs.Problems.{problem_of, world_of, params_at}
use Rattle.worked_obligations.specs.WorkedTomasulo.{signal, one, at, equal, i, num, set, set_at, always, stepwise, guard}
use Rattle.worked_obligations.specs.WorkedScripts.{over_P, one_of, array_of, claimed, picking, a_claim, of_claim, alone, bit}
use Rattle.worked_obligations.specs.WorkedTimes.{claims_of_x}
use Rattle.worked_obligations.specs.WorkedCones.{arrays}
use Rattle.worked_obligations.specs.WorkedProblems.{split_by, a_is_i, both_step, one_steps, never_written}

-- the state that gives these elements these places
abbrev pub state_of : List AbsElement → List Place → AbsState
state_of (x ∷ elements) (p ∷ places) family indexes = if same_element x (element family indexes) then p else state_of elements places family indexes
state_of _ _ family indexes = named (number 0)

-- all states of a case
abbrev pub states_over : World → List AbsElement → List AbsState
states_over w elements = map (state_of elements) (one_of_each (map (λ x. flat_map (λ f. places_in w f.value) (option_to_list (slice_get w.classes.families x.family))) elements))

-- some case of the leaf at a place has a problem whose states pass a test
abbrev pub some_states : Script → ℕ → (AbstractProblem → List AbsState → Bool) → Bool
some_states s u test = in_leaf (slice_get s.entries u)
  where
    in_case : Entry → List Class → Bool
    in_case entry classes = test (problem_of (outline_of s) entry (timed (outline_of s) (graph s) u entry) classes)
        (states_over (world_of (outline_of s) entry classes) (cone (world_of (outline_of s) entry classes) (outline_of s) entry (params_at (outline_of s) entry classes)))

    in_leaf : Option Entry → Bool
    in_leaf None = false
    in_leaf (Some entry) = list_any (in_case entry) (leaf_cases s.design.sets entry.leaf.params entry.choice.keeps)

-- it has a violating path of one state, and of two states
abbrev pub violated_at_0 : Script → ℕ → Bool
violated_at_0 s u = some_states s u (λ p states. list_any (λ a. is_violating (obligation p) (a ∷ [])) states)

abbrev pub violated_at_1 : Script → ℕ → Bool
violated_at_1 s u = some_states s u (λ p states. list_any (λ a. list_any (λ b. is_violating (obligation p) (a ∷ b ∷ [])) states) states)

-- tok : P; crit : array P of boolean; `forall (i in P) crit[i] := tok = i`; claim crit[i] & crit[j] -> i = j for all i and j; without the definition it is violated
abbrev pub mutex : FlatExpr
mutex = Implies (And (at 1 i ∷ at 1 (Var 1 0) ∷ []) ∷ equal i (Var 1 0) ∷ [])

abbrev pub MutualExclusion : Type 0
MutualExclusion =
    (violated_at_0 (alone (one_of (Set 0) ∷ array_of bit ∷ []) (always 1 None (Forall 0 (Set 0) (set_at i (equal (one 0) i))) 0 ∷ []) (Set 0 ∷ Set 0 ∷ []) mutex (picking [])) 0 ≡ false)
    × (violated_at_0 (alone (one_of (Set 0) ∷ array_of bit ∷ []) [] (Set 0 ∷ Set 0 ∷ []) mutex (picking [])) 0 ≡ true)

-- x : 0..1; x is 1 at first and then x + 1, which is outside the type, so that every value is allowed; claim x = 1
abbrev pub counter : Script
counter = alone (one_of bit ∷ []) (stepwise 0 None (set (num 1)) (set (Sum (one 0) (roll-FlatSigned (record { minus = false; of = num 1 }) ∷ []))) 0 ∷ []) [] (equal (one 0) (num 1)) (picking [])

-- x : array 0..1 of 0..0; n : 0..2; claim x[n] = 0, which is Undefined where n is 2
abbrev pub outside : Script
outside = alone (signal (Range 0 1 ∷ []) (Range 0 0) false ∷ one_of (Range 0 2) ∷ []) [] [] (equal (at 0 (one 1)) (num 0)) (picking [])

-- x := {i : i in 0..5, i >= 4}, whose members are outside 0..1; claim x = 1
abbrev pub members_outside : Script
members_outside = alone (one_of bit ∷ []) (always 0 None (set (Each 0 (Range 0 5) (Some (Compare AtLeast (Var 0 0) (num 4))) 0)) 0 ∷ []) [] (equal (one 0) (num 1)) (picking [])

abbrev pub OutsideTypes : Type 0
OutsideTypes = (violated_at_0 counter 0 ≡ false) × (violated_at_1 counter 0 ≡ true) × (violated_at_0 outside 0 ≡ true) × (violated_at_0 members_outside 0 ≡ true)

-- v : array P of boolean; claims &[v[j] : j in P] -> |[v[j] : j in P], and &[v[j] : j in P] -> v[k] for all k
abbrev pub Reductions : Type 0
Reductions = (violated_at_0 (alone arrays [] [] (Implies (All (at 1 i) 0 (Set 0) 0 ∷ Any (at 1 i) 0 (Set 0) 0 ∷ [])) (picking [])) 0 ≡ true)
    × (violated_at_0 (alone arrays [] (Set 0 ∷ []) (Implies (All (at 1 (Var 1 0)) 1 (Set 0) 0 ∷ at 1 i ∷ [])) (picking [])) 0 ≡ false)

-- the scripts that were worked by hand
abbrev pub AsByHand : Type 0
AsByHand = (violated_at_0 (split_by []) 0 ≡ true) × (violated_at_0 (split_by (a_is_i ∷ [])) 0 ≡ false)
    × (violated_at_0 (claims_of_x ((a_claim 1 ∷ []) ∷ (a_claim 0 ∷ []) ∷ [])) 0 ≡ true) × (violated_at_0 (claims_of_x ((a_claim 1 ∷ []) ∷ (a_claim 0 ∷ []) ∷ [])) 1 ≡ false)
    × (violated_at_1 (both_step 0) 0 ≡ false) × (violated_at_1 (both_step 0) 1 ≡ false) × (violated_at_0 (both_step 1) 0 ≡ true) × (violated_at_0 (both_step 1) 1 ≡ false)
    × (violated_at_1 (one_steps (one 0)) 0 ≡ false) × (violated_at_1 (one_steps (one 0)) 1 ≡ false)
    × (violated_at_0 never_written 0 ≡ false) × (violated_at_1 never_written 0 ≡ true)

-- scalarset Q 0..3; x : array Q of boolean, 1 at first and then as it is; claim x[i] for all i, with `Q->{i}`: one class and a rest
abbrev pub reduced : Script
reduced = record {
  design = record (over_P (array_of bit ∷ []) (stepwise 0 None (Forall 0 (Set 0) (set_at i (num 1))) (Forall 0 (Set 0) (set_at i (at 0 i))) 0 ∷ []) (claimed (Set 0 ∷ []) (at 0 i) 2 ∷ []))
      { sets = record { name = codes "Q"; ordered = false; size = Some 4 } ∷ [] };
  entries = of_claim 0 (Set 0 ∷ []) [] (record { picks = []; claims = []; itself = false; keeps = record { set = 0; params = 0 ∷ [] } ∷ [] }) ∷ [];
}

abbrev pub ReducedScalarset : Type 0
ReducedScalarset = (violated_at_0 reduced 0 ≡ false) × (violated_at_1 reduced 0 ≡ false)

-- ordset I; a, b, c : I; claim a < b & b < c -> a < c, as it is and split by a = i and b = j; and the claim i < j | i = j | j < i for all i and j
abbrev pub less : FlatExpr → FlatExpr → FlatExpr
less a b = Compare Less a b

abbrev pub in_order : List Guard → Script
in_order guards = record {
  design = record (over_P (one_of (Set 0) ∷ one_of (Set 0) ∷ one_of (Set 0) ∷ []) [] (claimed [] (Implies (And (less (one 0) (one 1) ∷ less (one 1) (one 2) ∷ []) ∷ less (one 0) (one 2) ∷ [])) 0 ∷ []))
      { sets = record { name = codes "I"; ordered = true; size = None } ∷ [] };
  entries = of_claim 0 (map (λ g. g.over) guards) guards (picking []) ∷ [];
}

abbrev pub total : Script
total = record {
  design = record (over_P [] [] (claimed (Set 0 ∷ Set 0 ∷ []) (Or (less i (Var 1 0) ∷ equal i (Var 1 0) ∷ less (Var 1 0) i ∷ [])) 0 ∷ [])) { sets = record { name = codes "I"; ordered = true; size = None } ∷ [] };
  entries = of_claim 0 (Set 0 ∷ Set 0 ∷ []) [] (picking []) ∷ [];
}

abbrev pub Orders : Type 0
Orders = (violated_at_0 (in_order []) 0 ≡ true) × (violated_at_0 (in_order (guard 0 (Set 0) (one 0) ∷ guard 1 (Set 0) (one 1) ∷ [])) 0 ≡ false) × (violated_at_0 total 0 ≡ false)
