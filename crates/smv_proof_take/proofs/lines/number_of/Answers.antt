use Rattle.std.proofs.Common.{sym, arith}
use Rattle.smv_proof_take.proofs.Found.{numbers_more}
use Rattle.smv_proof_take.proofs.lines.number_of.Goals as goal

pub returns-clause-numbers : goal.returns-clause-numbers
returns-clause-numbers c =
    numbers_more c.args.numbers.now c.insert.new.self c.args.nodes.now.items c.push.new.self.items c.args.node _ c.requires.numbers (sym c.in_default.ensures) (omega (arith, c.len-number.ensures, c.args.nodes.now.ok)) c.in_ok-push.ensures.items
    c.in_ok-insert.ensures.updates
