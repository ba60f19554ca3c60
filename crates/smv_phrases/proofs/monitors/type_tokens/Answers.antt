use Rattle.std.proofs.Common.{sym, ◌∙◌, arith}
use Rattle.smv_token_ends.specs.Fronts.{IsTokenAt}
use Rattle.smv_phrases.proofs.TypeLaws.{each-more, told-more}
use Rattle.smv_phrases.proofs.monitors.type_tokens.Goals as goal

pub loop-one-preserved : goal.loop-one-preserved
loop-one-preserved c = record {
  stand = each-more (IsTokenAt c.args.text.now) c.loop-one.one-index c.args.types.now c.loop-one.invariant.stand;
  told = told-more c.args.text.now c.loop-one.out.items c.token.new.out.items c.args.types.now c.loop-one.one-index c.one-item.result (omega arith) c.one-item.is (sym c.is_sign.ensures ∙ c.if-is_sign.false) c.in_ok-token.ensures ∙ c.loop-one.invariant.told;
}
