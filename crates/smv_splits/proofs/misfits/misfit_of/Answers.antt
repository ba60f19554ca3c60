use Rattle.std.proofs.Common.{ap, ◌∙◌}
use Rattle.smv_mentions.specs.Scopes.{first_of_places}
use Rattle.smv_splits.proofs.MisfitLaws.{split-first}
use Rattle.smv_splits.proofs.misfits.misfit_of.Goals as goal

pub returns : goal.returns
returns c =
    c.first_of.ensures ∙ (ap (λ o. first_of_places o c.in_ok-equations.equations) c.first_of-brackets.ensures
    ∙ split-first c.args.families.now c.args.split.now c.first_not_bound.result c.in_ok-doubled.doubled c.in_ok-equations.equations c.first_not_bound.ensures c.in_ok-doubled.ensures c.in_ok-equations.ensures)
