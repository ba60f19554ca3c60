use Rattle.std.proofs.Common.{◌∙◌, length}
use Rattle.smv_encode.proofs.CodedCells.{few_bits, value_is}
use Rattle.smv_encode.proofs.coded.value_at.Goals as goal

pub below-requires-clause-width : goal.below-requires-clause-width
below-requires-clause-width c = few_bits (length c.args.places.now) c.count-count.result _ c.requires.width c.count-count.ensures c.count-count.type_inv

pub returns-clause-value : goal.returns-clause-value
returns-clause-value c = λ d is well x same o bit placed a.
    c.in_ok-r.ensures.table a ∙ value_is c.args.problem.now d is c.args.next c.args.places.now c.count-count.result c.args.family c.requires.width c.count-count.ensures x same o bit placed a
