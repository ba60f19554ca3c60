use Rattle.std.proofs.Common.{[], ◌∷◌, sym, subst, ◌∙◌}
use Rattle.smv_size.specs.Constants.{Counts}
use Rattle.smv_size.proofs.ConstantLaws.{counts-known, counts-new}
use Rattle.smv_size.proofs.constants.note.Goals as goal

pub returns-in-Some-clause-names : goal.returns-in-Some-clause-names
returns-in-Some-clause-names c = counts-known c.args.name.now c.args.names.now c.in-Some.field-0 (sym c.find.ensures ∙ c.in-Some.is)

pub returns-in_ok-push-in-None-clause-names : goal.returns-in_ok-push-in-None-clause-names
returns-in_ok-push-in-None-clause-names c =
    subst (λ after. Counts (c.args.name.now ∷ []) c.args.names.now after) (sym c.in_ok-push-in-None.ensures.ok) (counts-new c.args.name.now c.args.names.now (sym c.find.ensures ∙ c.in-None.is))
