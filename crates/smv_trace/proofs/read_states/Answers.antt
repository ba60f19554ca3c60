use Rattle.std.proofs.Common.{◌∙◌, List, Bool, length, ap, sym, subst}
use Rattle.std.proofs.lemmas.List.Elements.{All-get_or}
use Rattle.smv_ring_paths.specs.BitPaths.{HasBits}
use Rattle.smv_trace.proofs.Paths.{within_state, read_more, read_whole}
use Rattle.smv_trace.proofs.read_states.Goals as goal

pub read_at-requires-clause-within : goal.read_at-requires-clause-within
read_at-requires-clause-within c =
    let bits : HasBits (length c.args.places.now) c.state-item.result =
    subst (HasBits (length c.args.places.now)) (sym c.state-item.is) (All-get_or (HasBits (length c.args.places.now)) c.args.states.now c.loop-state.state-index c.state-item.result c.loop-state-test.true c.requires.have_bits) in
    within_state c.args.places.now (length c.as_slice.result.now) c.requires.within (ap (λ (bs : List Bool). length bs) c.as_slice.ensures.value ∙ bits)

pub loop-state-preserved : goal.loop-state-preserved
loop-state-preserved c =
    read_more c.args.problem.now c.args.places.now c.args.wires.now c.args.states.now c.loop-state.state-index c.loop-state.path c.loop-state.invariant c.state-item.result c.loop-state-test.true c.state-item.is
    c.as_slice.result.now c.as_slice.ensures.value c.in_ok-read_at.field-0 c.push.new.self c.in_ok-push.ensures.ok c.in_ok-read_at.ensures

pub returns : goal.returns
returns c = read_whole c.args.problem.now c.args.places.now c.args.wires.now c.args.states.now c.loop-state.state-index c.loop-state.path c.loop-state.invariant c.loop-state-test.false
