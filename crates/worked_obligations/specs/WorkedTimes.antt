-- Worked times of uses.
use Rattle.std.specs.Prelude.{◌≡◌, ℕ, ◌+◌, List, [], ◌∷◌, map, Some, None, true}
use Rattle.smv_core.specs.declared.flat.Def.{Def}
use Rattle.smv_core.specs.declared.flat.Assumed.{Assumed}
use Rattle.smv_core.specs.declared.flat.Timing.{Timing}
use Rattle.smv_core.specs.declared.flat.Timing.TheVariants.{Now, Before}
use Rattle.law_obligations.specs.Outlines.{Entry, Script, outline_of}
use Rattle.law_obligations.specs.Times.{same_time, graph, all_timed}
use Rattle.worked_obligations.specs.WorkedTomasulo.{dout, ir_resvd, ir_val, rd, r, rd1, machine_script, one, num, set, always, stepwise, by_layer}
use Rattle.worked_obligations.specs.WorkedScripts.{over_P, one_of, claimed, picking, assuming, a_claim, of_claim, of_map, bit}

abbrev pub pick_times : Script → List (List Timing)
pick_times o = map (λ t. t.picks) (all_timed o)

abbrev pub claim_times : Script → List (List Timing)
claim_times o = map (λ t. t.claims) (all_timed o)

-- the Tomasulo machine: `ir.val//lem` in `rd1` and `st.va//lem` in `bw1` are now, all other uses of maps before; `free` demands nothing and is now
abbrev pub TomasuloTimes : Type 0
TomasuloTimes = (same_time (outline_of machine_script) 0 rd1 ≡ dout ∷ ir_resvd ∷ rd ∷ r ∷ ir_val ∷ [])
    × (graph machine_script ≡ (3 ∷ []) ∷ [] ∷ (1 ∷ []) ∷ [] ∷ [])
    × (pick_times machine_script ≡ (Now ∷ Now ∷ Now ∷ []) ∷ (Before ∷ Before ∷ Now ∷ Now ∷ []) ∷ (Now ∷ Now ∷ Now ∷ []) ∷ (Before ∷ Now ∷ Now ∷ []) ∷ [])

-- claims of a bit x, each with what it assumes
abbrev pub claims_from : ℕ → List (List Assumed) → List Entry
claims_from k [] = []
claims_from k (used ∷ uses) = of_claim k [] [] (assuming used) ∷ claims_from (k + 1) uses

abbrev pub claims_of_x : List (List Assumed) → Script
claims_of_x uses = record { design = over_P (one_of bit ∷ []) [] (map (λ used. claimed [] (one 0) 0) uses); entries = claims_from 0 uses }

abbrev pub early : ℕ → Assumed
early claim = record { claim = claim; early = true }

-- two claims that assume each other: that of the later one is before, that of the earlier one now; three in a ring; a later claim on no cycle, which is now; a claim
-- that assumes itself; and one in parentheses
abbrev pub ClaimTimes : Type 0
ClaimTimes = (claim_times (claims_of_x ((a_claim 1 ∷ []) ∷ (a_claim 0 ∷ []) ∷ [])) ≡ (Before ∷ []) ∷ (Now ∷ []) ∷ [])
    × (claim_times (claims_of_x ((a_claim 1 ∷ []) ∷ (a_claim 2 ∷ []) ∷ (a_claim 0 ∷ []) ∷ [])) ≡ (Before ∷ []) ∷ (Before ∷ []) ∷ (Now ∷ []) ∷ [])
    × (claim_times (claims_of_x ((a_claim 1 ∷ []) ∷ (a_claim 2 ∷ []) ∷ [] ∷ [])) ≡ (Now ∷ []) ∷ (Now ∷ []) ∷ [] ∷ [])
    × (claim_times (claims_of_x ((a_claim 0 ∷ []) ∷ [])) ≡ (Before ∷ []) ∷ [])
    × (claim_times (claims_of_x ((early 1 ∷ []) ∷ (a_claim 0 ∷ []) ∷ [])) ≡ (Before ∷ []) ∷ (Now ∷ []) ∷ [])

-- two bits with these definitions, and the maps `a := 0` and `b := 0` of the layer L, each proved by the other
abbrev pub two_maps : Def → Def → Script
two_maps a b = record {
  design = over_P (one_of bit ∷ one_of bit ∷ []) (a ∷ b ∷ always 0 (Some 0) (set (num 0)) 2 ∷ always 1 (Some 0) (set (num 0)) 3 ∷ []) [];
  entries = of_map 2 [] (picking (by_layer 1 0 ∷ [])) ∷ of_map 3 [] (picking (by_layer 0 0 ∷ [])) ∷ [];
}

-- where `a` and `b` step each other both uses are before; where `b := a` and `a` steps `b` that of `a` is now; where each is the other, which no design may say, that of the earlier one is now
abbrev pub MapTimes : Type 0
MapTimes = (pick_times (two_maps (stepwise 0 None (set (num 0)) (set (one 1)) 0) (stepwise 1 None (set (num 0)) (set (one 0)) 1)) ≡ (Before ∷ []) ∷ (Before ∷ []) ∷ [])
    × (pick_times (two_maps (stepwise 0 None (set (num 0)) (set (one 1)) 0) (always 1 None (set (one 0)) 1)) ≡ (Before ∷ []) ∷ (Now ∷ []) ∷ [])
    × (pick_times (two_maps (always 0 None (set (one 1)) 0) (always 1 None (set (one 0)) 1)) ≡ (Before ∷ []) ∷ (Now ∷ []) ∷ [])
