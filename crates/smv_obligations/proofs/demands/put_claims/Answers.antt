use Rattle.std.proofs.Common.{List, ◌++◌, ap, ◌∙◌, arith}
use Rattle.std.specs.List.{flat_map, zip}
use Rattle.smv_core.specs.declared.flat.Assumed.{Assumed}
use Rattle.smv_core.specs.declared.flat.Timing.{Timing}
use Rattle.smv_obligations.specs.Demands.{claim_in_turn}
use Rattle.smv_obligations.proofs.Lists.{pair-turn, pairs-over-left, pairs-over-right}
use Rattle.smv_obligations.proofs.demands.put_claims.Goals as goal

pub loop-place-preserved : goal.loop-place-preserved
loop-place-preserved c =
    pair-turn (claim_in_turn c.args.part.now c.args.time) c.as_slice-claims.result.now c.as_slice-times.result.now c.loop-place.place _ _ c.loop-place.demands _ _ (omega arith) (omega arith) c.in_ok-put_assumed.ensures c.loop-place.invariant

pub returns-then-place-times : goal.returns-then-place-times
returns-then-place-times c =
    pairs-over-right (claim_in_turn c.args.part.now c.args.time) c.as_slice-claims.result.now c.as_slice-times.result.now c.loop-place.place c.loop-place.demands _ (omega arith) c.loop-place.invariant
    ∙ (ap (λ (us : List Assumed). c.args.demands.now ++ flat_map (claim_in_turn c.args.part.now c.args.time) (zip us c.as_slice-times.result.now)) c.as_slice-claims.ensures
    ∙ ap (λ (ts : List Timing). c.args.demands.now ++ flat_map (claim_in_turn c.args.part.now c.args.time) (zip c.args.part.now.choice.now.claims ts)) c.as_slice-times.ensures)

pub returns : goal.returns
returns c =
    pairs-over-left (claim_in_turn c.args.part.now c.args.time) c.as_slice-claims.result.now c.as_slice-times.result.now c.loop-place.place c.loop-place.demands _ (omega arith) c.loop-place.invariant
    ∙ (ap (λ (us : List Assumed). c.args.demands.now ++ flat_map (claim_in_turn c.args.part.now c.args.time) (zip us c.as_slice-times.result.now)) c.as_slice-claims.ensures
    ∙ ap (λ (ts : List Timing). c.args.demands.now ++ flat_map (claim_in_turn c.args.part.now c.args.time) (zip c.args.part.now.choice.now.claims ts)) c.as_slice-times.ensures)
