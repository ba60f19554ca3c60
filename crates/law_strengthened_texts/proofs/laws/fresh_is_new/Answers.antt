use Rattle.law_strengthened_texts.proofs.Fresh.{fresh-name, fresh-free}
use Rattle.law_strengthened_texts.proofs.laws.fresh_is_new.Goals as goal

pub returns-clause-name : goal.returns-clause-name
returns-clause-name c ts few = fresh-name ts few

pub returns-clause-no_token : goal.returns-clause-no_token
returns-clause-no_token c ts few = fresh-free ts few
