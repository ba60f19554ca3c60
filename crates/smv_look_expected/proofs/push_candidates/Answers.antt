use Rattle.std.proofs.Common.{refl}
use Rattle.std.proofs.lemmas.Result.{on_ok_weaker}
use Rattle.smv_look_expected.proofs.ToldLaws.{all_told}
use Rattle.smv_look_expected.proofs.push_candidates.Goals as goal

pub push_all-requires-clause-tokens : goal.push_all-requires-clause-tokens
push_all-requires-clause-tokens c = refl

pub push_all-requires-2-clause-tokens : goal.push_all-requires-2-clause-tokens
push_all-requires-2-clause-tokens c = refl

pub returns : goal.returns
returns c =
    on_ok_weaker c.push_all-2.result
    (all_told c.args.text.now c.args.at c.args.out.now.items c.push_told.new.out.items c.push_told-2.new.out.items c.push_all.new.out.items c.push_all-2.new.out.items c.in_ok-push_told.ensures c.in_ok-push_told-2.ensures c.in_ok-push_all.ensures)
    c.push_all-2.ensures
