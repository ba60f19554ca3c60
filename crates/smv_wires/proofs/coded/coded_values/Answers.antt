use Rattle.smv_encode.proofs.Calls.{store_keeps}
use Rattle.smv_wires.proofs.Behind.{coded_means}
use Rattle.smv_wires.proofs.coded.coded_values.Goals as goal

pub returns-clause-keeps : goal.returns-clause-keeps
returns-clause-keeps c = store_keeps c.args.store.now c.value_of-r.new.s c.vars.ensures.sound c.vars-2.ensures.sound c.value_of-r.ensures.keeps

pub returns-clause-values : goal.returns-clause-values
returns-clause-values c = coded_means (λ v. v.items) c.args.problem.now c.args.store.now c.value_of-r.new.s c.args.coded.now c.args.family c.args.indexes.now c.in_ok-every.every.items c.as_slice.result.now c.as_slice.ensures.value c.in_ok-every.ensures c.value_of-r.result c.value_of-r.ensures.any
