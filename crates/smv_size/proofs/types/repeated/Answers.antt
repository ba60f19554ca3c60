use Rattle.std.proofs.Common.{arith}
use Rattle.smv_size.proofs.SummaryLaws.{told-repeated}
use Rattle.smv_size.proofs.types.repeated.Goals as goal

pub returns : goal.returns
returns c words xs long e = told-repeated c.min.result c.args.of words xs c.args.times long c.if-times-eq0.false e (omega arith)
