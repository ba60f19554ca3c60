use Rattle.bdd_store.proofs.Keeping.{live_kept}
use Rattle.bdd_ops.specs.Functions.{bit_at}
use Rattle.bdd_ops.proofs.Tables.{if_ok_then}
use Rattle.smv_ring_paths.proofs.Backward.{step_is_some, step_found}
use Rattle.smv_ring_paths.proofs.sets.state_before.Goals as goal

pub one_of-requires-clause-some : goal.one_of-requires-clause-some
one_of-requires-clause-some c =
    step_is_some c.args.store.now c.steps_to.new.store c.and.new.store c.all_with.new.store c.args.set c.args.fs.now c.args.next.now c.in_ok-to_next.to_next c.in_ok-from_set.from_set c.in_ok-steps.steps
    c.in_ok-to_next.ensures.keeps c.in_ok-from_set.ensures.keeps c.requires.set c.requires.fs (live_kept c.args.store.now c.steps_to.new.store c.args.fs.now c.in_ok-to_next.ensures.keeps c.requires.fs)
    c.requires.current c.requires.vars c.in_ok-to_next.ensures.table c.in_ok-from_set.ensures.table c.in_ok-steps.ensures.table c.requires.some

pub returns-clause-step : goal.returns-clause-step
returns-clause-step c = if_ok_then c.one_of.result _ _ (λ state is.
    step_found c.args.store.now c.steps_to.new.store c.and.new.store c.all_with.new.store c.args.set c.args.fs.now c.args.next.now c.in_ok-to_next.to_next c.in_ok-from_set.from_set c.in_ok-steps.steps
    c.in_ok-to_next.ensures.keeps c.in_ok-from_set.ensures.keeps c.requires.set c.requires.fs (live_kept c.args.store.now c.steps_to.new.store c.args.fs.now c.in_ok-to_next.ensures.keeps c.requires.fs)
    c.requires.current c.requires.vars c.in_ok-to_next.ensures.table c.in_ok-from_set.ensures.table c.in_ok-steps.ensures.table (bit_at state.items) is) c.one_of.ensures.value
