use Rattle.std.proofs.Common.{refl}
use Rattle.smv_look_expected.proofs.ToldLaws.{are_short, none_behind, one_more}
use Rattle.smv_look_expected.proofs.push_all.Goals as goal

pub push_told-requires-clause-token : goal.push_told-requires-clause-token
push_told-requires-clause-token c = are_short c.args.tokens.now c.requires.tokens c.loop-token.token-index _ c.loop-token-test.true

pub loop-token-init : goal.loop-token-init
loop-token-init c = none_behind c.args.text.now c.args.at c.args.out.now.items

pub loop-token-preserved : goal.loop-token-preserved
loop-token-preserved c =
    one_more c.args.text.now c.args.at c.args.tokens.now c.loop-token.token-index _ _ c.args.out.now.items c.loop-token.out.items c.push_told.new.out.items c.loop-token-test.true refl c.loop-token.invariant c.in_ok-push_told.ensures
