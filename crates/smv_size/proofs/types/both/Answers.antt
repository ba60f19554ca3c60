use Rattle.std.proofs.Common.{arith}
use Rattle.smv_size.proofs.SummaryLaws.{told-append}
use Rattle.smv_size.proofs.types.both.Goals as goal

pub returns : goal.returns
returns c xs ys e f = told-append c.min.result c.max.result c.max-2.result c.args.a c.args.b xs ys e f (omega arith) c.max.ensures c.max-2.ensures
