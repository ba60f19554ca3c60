use Rattle.law_answers.proofs.Asked.{holds_so, real_so}
use Rattle.law_answers.proofs.laws.confirmed_is_so.Goals as goal

pub returns-clause-holds : goal.returns-clause-holds
returns-clause-holds c = holds_so c.confirmed_true_holds.ensures

pub returns-clause-real : goal.returns-clause-real
returns-clause-real c = real_so c.one_tree.ensures c.confirmed_false_is_real.ensures
