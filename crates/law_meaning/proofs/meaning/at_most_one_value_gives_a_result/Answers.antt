use Rattle.law_meaning.proofs.AtMostOne.{at_most_one}
use Rattle.law_meaning.proofs.ConflictLaws.{apart-forall}
use Rattle.law_meaning.proofs.meaning.at_most_one_value_gives_a_result.Goals as goal

pub returns : goal.returns
returns c scene s kind x every var body around b agrees free have whole v w gives_v gives_w =
    at_most_one scene s kind x every var body around b agrees (apart-forall scene.instance var body around free have) whole v w gives_v gives_w
