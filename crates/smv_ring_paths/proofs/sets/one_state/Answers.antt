use Rattle.bdd_ops.specs.Functions.{bit_at}
use Rattle.bdd_ops.proofs.Tables.{if_ok_then}
use Rattle.smv_ring_paths.proofs.Backward.{state_found}
use Rattle.smv_ring_paths.proofs.sets.one_state.Goals as goal

pub returns-clause-value : goal.returns-clause-value
returns-clause-value c = if_ok_then c.one_of.result _ _ (λ state is. state_found c.args.store.now c.args.set c.requires.current (bit_at state.items) is) c.one_of.ensures.value
