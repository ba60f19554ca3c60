use Rattle.bdd_store.specs.Diagram.{table, first_var}
use Rattle.bdd_ops.proofs.SupportLaws.{never_both}
use Rattle.bdd_ops.proofs.questions.toward_one.Goals as goal

pub returns-then-is_never-clause-some : goal.returns-then-is_never-clause-some
returns-then-is_never-clause-some c some high =
    let d = c.args.store.now in
    some (never_both (table d c.args.f) (table d c.low-low.result) (table d c.high-high.result) (first_var d c.args.f) c.low-low.ensures.table c.high-high.ensures.table (c.is_never.ensures.0 c.if-is_never.true) high)
