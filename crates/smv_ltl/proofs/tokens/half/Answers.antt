use Rattle.std.proofs.Common.{◌<◌, ◌+◌, ◌-◌, ◌/◌, length, take_while, nat_lt, arith}
use Rattle.smv_core.specs.declared.token.Token.{Token}
use Rattle.smv_ltl.proofs.TokenLaws.{counted_there, not_counted_there}
use Rattle.smv_ltl.proofs.tokens.half.Goals as goal

pub returns-then-there-at-clause-low : goal.returns-then-there-at-clause-low
returns-then-there-at-clause-low c =
    let middle = c.args.low + (c.args.high - c.args.low) / 2 in
    let counted : middle < length (take_while (λ (t : Token). nat_lt t.at c.args.at) c.args.tokens.now) =
    counted_there c.args.at c.args.tokens.now middle c.index-tokens-middle.result c.requires.rises (omega arith) c.if-there-at.true in
    omega (arith, counted)

pub returns-clause-high : goal.returns-clause-high
returns-clause-high c = not_counted_there c.args.at c.args.tokens.now (c.args.low + (c.args.high - c.args.low) / 2) c.index-tokens-middle.result (omega arith) c.if-there-at.false
