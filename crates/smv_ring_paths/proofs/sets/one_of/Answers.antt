use Rattle.std.proofs.Common.{rules, arith}
use Rattle.smv_ring_paths.proofs.Joins.{picked}
use Rattle.smv_ring_paths.proofs.sets.one_of.Goals as goal

pub returns-clause-value : goal.returns-clause-value
returns-clause-value c = picked c.args.store.now c.args.steps c.args.bits c.unwrap-values.result.items c.loop-bit.state.items c.requires.vars (search rules) (λ k lt. c.loop-bit.invariant.same k (omega arith))
