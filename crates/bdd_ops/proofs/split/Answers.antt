use Rattle.std.proofs.Common.{true, false, arith}
use Rattle.bdd_store.specs.Diagram.{table}
use Rattle.bdd_ops.proofs.Tables.{free_before}
use Rattle.bdd_ops.proofs.split.Goals as goal

pub returns-else-first-var-clause-low_table : goal.returns-else-first-var-clause-low_table
returns-else-first-var-clause-low_table c = free_before (table c.args.store.now c.args.f) c.var-first.result c.args.var false c.var-first.ensures.from (omega (arith, c.if-first-var.false, c.requires.from, c.var-first.ensures.var))

pub returns-else-first-var-clause-high_table : goal.returns-else-first-var-clause-high_table
returns-else-first-var-clause-high_table c = free_before (table c.args.store.now c.args.f) c.var-first.result c.args.var true c.var-first.ensures.from (omega (arith, c.if-first-var.false, c.requires.from, c.var-first.ensures.var))
