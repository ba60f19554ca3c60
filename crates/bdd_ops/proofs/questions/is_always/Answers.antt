use Rattle.bdd_store.specs.Diagram.{table}
use Rattle.bdd_ops.proofs.KnownLaws.{always_const}
use Rattle.bdd_ops.proofs.questions.is_always.Goals as goal

pub returns-in-Some : goal.returns-in-Some
returns-in-Some c = always_const (table c.args.store.now c.args.f) c.in-Some.x c.in-Some.ensures.some
