use Rattle.law_inductive_texts.proofs.One.{one-stronger, not-both}
use Rattle.law_inductive_texts.proofs.laws.one_stronger.Goals as goal

pub returns-clause-one : goal.returns-clause-one
returns-clause-one c text name var s t h k = one-stronger text name var s t h k

pub returns-clause-not_both : goal.returns-clause-not_both
returns-clause-not_both c text name var s h none = not-both text name var s h none
