use Rattle.smv_lex.proofs.Fronts.{front_of_digits}
use Rattle.smv_lex.proofs.front.digits_at.Goals as goal

pub returns-clause-digits : goal.returns-clause-digits
returns-clause-digits c = front_of_digits c.args.bytes.now c.digits_length-n.result c.digits_length-n.ensures.length
