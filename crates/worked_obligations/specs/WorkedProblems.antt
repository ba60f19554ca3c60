-- Worked problems of small designs: leaves whose cases have, or have not, a violating path.
use Rattle.std.specs.Prelude.{◌≡◌, ℕ, List, [], ◌∷◌, map, Option, Some, None, Bool, true, false}
use Rattle.std.specs.List.{list_any, slice_get}
use Rattle.smv_core.specs.declared.flat.Simple.TheVariants.{Set}
use Rattle.smv_core.specs.declared.flat.Class.{Class}
use Rattle.smv_core.specs.declared.flat.Class.TheVariants.{Named}
use Rattle.smv_core.specs.declared.flat.Guard.{Guard}
use Rattle.smv_core.specs.declared.flat.DefBody.{Nothing, If, Forall}
use Rattle.smv_core.specs.declared.flat.FlatExpr.{FlatExpr, Implies}
use Rattle.law_obligations.specs.Places.{Place, named, rest, places_in}
use Rattle.law_obligations.specs.LeafCases.{leaf_cases}
use Rattle.law_obligations.specs.Obligations.{Demanded, defined, AbstractProblem}
use Rattle.worked_obligations.specs.Worked.{p}
use Rattle.worked_obligations.specs.WorkedObligations.{state, bit as at_bit, violates, some_state, some_step}
use Rattle.law_obligations.specs.Outlines.{Entry, Script, outline_of}
use Rattle.law_obligations.specs.Times.{graph, timed}
use Rattle.law_obligations.specs.Problems.{problem_of}
use Rattle.worked_obligations.specs.WorkedTomasulo.{bw, dout, ir_val, ir_resvd, aux_res, r, rd, bt, bv, reg, word, rd1, va1, bw1, val1, machine_script, one, at, equal, not', i, num, set, set_at, always, stepwise, guard}
use Rattle.worked_obligations.specs.WorkedScripts.{over_P, one_of, claimed, picking, a_claim, of_claim, alone}
use Rattle.worked_obligations.specs.WorkedTimes.{claims_of_x, two_maps}
use Rattle.worked_obligations.specs.WorkedCones.{arrays, at_reg}

-- some case of the leaf at a place has a problem that passes a test
abbrev pub some_case : Script → ℕ → (AbstractProblem → Bool) → Bool
some_case o u test = in_leaf (slice_get o.entries u)
  where
    in_leaf : Option Entry → Bool
    in_leaf None = false
    in_leaf (Some entry) = list_any (λ classes. test (problem_of (outline_of o) entry (timed (outline_of o) (graph o) u entry) classes)) (leaf_cases o.design.sets entry.leaf.params entry.choice.keeps)

-- some case is violated by a path, by some path of one state, and by some of two states, whose families have these values
abbrev pub has_path : Script → ℕ → List (List Place) → Bool
has_path o u values = some_case o u (λ p. violates p (map state values))

abbrev pub has_state : Script → ℕ → List (List Place) → Bool
has_state o u values = some_case o u (λ p. some_state p values)

abbrev pub has_step : Script → ℕ → List (List Place) → Bool
has_step o u values = some_case o u (λ p. some_step p values)

abbrev pub a_bit : List Place
a_bit = at_bit 0 ∷ at_bit 1 ∷ []

-- a, b : P; claim a = b -> a = b, as it is and split by a = i
abbrev pub twice_equal : FlatExpr
twice_equal = Implies (equal (one 0) (one 1) ∷ equal (one 0) (one 1) ∷ [])

abbrev pub split_by : List Guard → Script
split_by guards = record { design = over_P (one_of (Set 0) ∷ one_of (Set 0) ∷ []) [] (claimed [] twice_equal 0 ∷ []); entries = of_claim 0 (map (λ g. g.over) guards) guards (picking []) ∷ [] }

abbrev pub a_is_i : Guard
a_is_i = guard 0 (Set 0) (one 0)

-- without the split both may be at the rest; with it the one case has no violating state
abbrev pub SplitHelps : Type 0
SplitHelps = (has_path (split_by []) 0 ((rest (p 0) ∷ rest (p 0) ∷ []) ∷ []) ≡ true)
    × (some_case (split_by (a_is_i ∷ [])) 0 (λ q. some_state q (places_in q.world (Set 0) ∷ places_in q.world (Set 0) ∷ [])) ≡ false)

-- x : boolean; claims p and q are x and assume each other: p has q before, and is violated at time 0; q has p now, and is not violated
abbrev pub ClaimsAssumeEachOther : Type 0
ClaimsAssumeEachOther = (has_path (claims_of_x ((a_claim 1 ∷ []) ∷ (a_claim 0 ∷ []) ∷ [])) 0 ((at_bit 0 ∷ []) ∷ []) ≡ true)
    × (has_state (claims_of_x ((a_claim 1 ∷ []) ∷ (a_claim 0 ∷ []) ∷ [])) 1 (a_bit ∷ []) ≡ false)
    × (has_step (claims_of_x ((a_claim 1 ∷ []) ∷ (a_claim 0 ∷ []) ∷ [])) 1 (a_bit ∷ []) ≡ false)

-- a and b step each other, both 0 at first: each map is proved by the other before. With a at 1 at first the map of a is violated at time 0, and that of b still is not
abbrev pub both_step : ℕ → Script
both_step first = two_maps (stepwise 0 None (set (num first)) (set (one 1)) 0) (stepwise 1 None (set (num 0)) (set (one 0)) 1)

abbrev pub MapsBefore : Type 0
MapsBefore = (has_state (both_step 0) 0 (a_bit ∷ a_bit ∷ []) ≡ false) × (has_step (both_step 0) 0 (a_bit ∷ a_bit ∷ []) ≡ false)
    × (has_state (both_step 0) 1 (a_bit ∷ a_bit ∷ []) ≡ false) × (has_step (both_step 0) 1 (a_bit ∷ a_bit ∷ []) ≡ false)
    × (has_path (both_step 1) 0 ((at_bit 1 ∷ at_bit 0 ∷ []) ∷ []) ≡ true) × (has_step (both_step 1) 1 (a_bit ∷ a_bit ∷ []) ≡ false)

-- a steps b, and `b := a`: the map of a has that of b before, and the map of b has that of a now. Neither is violated; where b is the other of a, that of b is
abbrev pub one_steps : FlatExpr → Script
one_steps b = two_maps (stepwise 0 None (set (num 0)) (set (one 1)) 0) (always 1 None (set b) 1)

abbrev pub MapsNowAndBefore : Type 0
MapsNowAndBefore = (has_state (one_steps (one 0)) 0 (a_bit ∷ a_bit ∷ []) ≡ false) × (has_step (one_steps (one 0)) 0 (a_bit ∷ a_bit ∷ []) ≡ false)
    × (has_state (one_steps (one 0)) 1 (a_bit ∷ a_bit ∷ []) ≡ false) × (has_step (one_steps (one 0)) 1 (a_bit ∷ a_bit ∷ []) ≡ false)
    × (has_path (one_steps (not' (one 0))) 1 ((at_bit 0 ∷ at_bit 1 ∷ []) ∷ []) ≡ true)

-- d : P; v : array P of boolean; v[j] 0 at first for all j, and `next(v[d]) := 1`; the claim ~v[k] for all k is violated at time 1, where d was #0, and not at time 0
abbrev pub never_written : Script
never_written = alone arrays (stepwise 1 None (Forall 0 (Set 0) (set_at i (num 0))) (set_at (one 0) (num 1)) 0 ∷ []) (Set 0 ∷ []) (not' (at 1 i)) (picking [])

abbrev pub WrittenIndex : Type 0
WrittenIndex = (has_path never_written 0 ((named (p 0) ∷ at_bit 0 ∷ []) ∷ (rest (p 0) ∷ at_bit 1 ∷ []) ∷ []) ≡ true)
    × (has_path never_written 0 ((rest (p 0) ∷ at_bit 0 ∷ []) ∷ (named (p 0) ∷ at_bit 1 ∷ []) ∷ []) ≡ false)
    × (some_case never_written 0 (λ q. some_state q (places_in q.world (Set 0) ∷ a_bit ∷ [])) ≡ false)

-- the demands of two leaves of the Tomasulo machine: the lemma of the register now, that of the bus before
abbrev pub demanded : Entry → ℕ → List Class → (AbstractProblem → List Demanded) → List Demanded
demanded entry u classes of_time = of_time (problem_of (outline_of machine_script) entry (timed (outline_of machine_script) (graph machine_script) u entry) classes)

abbrev pub TomasuloDemands : Type 0
TomasuloDemands = (demanded rd1 0 (Named 0 ∷ Named 0 ∷ []) (λ p. p.now)
    ≡ defined (always dout None (set (at ir_val (one rd))) 3) [] ∷ defined (always ir_val (Some 1) (Forall 0 (Set 1) (If (not' (at ir_resvd i)) (set_at i (at r i)) Nothing)) 28) (at_reg ir_val).indexes ∷ [])
    × (demanded rd1 0 (Named 0 ∷ Named 0 ∷ []) (λ p. p.before) ≡ [])
    × (demanded val1 3 (Named 0 ∷ Named 0 ∷ Named 0 ∷ []) (λ p. p.before) ≡ defined (always bw (Some 1) (If (one bv) (set (at aux_res (one bt))) Nothing) 27) [] ∷ [])

-- the values of the elements of `rd1` in a case, for each family of the machine
abbrev pub zero : List Place
zero = at_bit 0 ∷ []

abbrev pub rd1_values : AbstractProblem → List (List Place)
rd1_values p = zero ∷ zero ∷ zero ∷ zero ∷ zero ∷ zero ∷ places_in p.world reg ∷ zero ∷ zero ∷ zero ∷ zero ∷ zero ∷ places_in p.world word ∷ a_bit ∷ zero ∷ places_in p.world word
    ∷ zero ∷ zero ∷ zero ∷ zero ∷ places_in p.world word ∷ []

-- what the machine shows at the output is the register: in the one case of `rd1` no state is violating, as the lemma of the register is now; without the split one is,
-- where the words are at the rest
abbrev pub unsplit : Script
unsplit = record machine_script { entries = record rd1 { leaf = record rd1.leaf { guards = [] } } ∷ va1 ∷ bw1 ∷ val1 ∷ [] }

abbrev pub TomasuloOutput : Type 0
TomasuloOutput = (some_case machine_script 0 (λ p. some_state p (rd1_values p)) ≡ false)
    × (some_case unsplit 0 (λ p. some_state p (rd1_values p)) ≡ true)
