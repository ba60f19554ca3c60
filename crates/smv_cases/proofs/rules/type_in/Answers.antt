use Rattle.std.proofs.Common.{ap, sym, ◌∙◌}
use Rattle.law_obligations.specs.Cases.{used, named_among, abstract_type}
use Rattle.smv_cases.specs.Slots.{treatment_of, parameters_of}
use Rattle.smv_cases.proofs.RuleLaws.{listed_counted}
use Rattle.smv_cases.proofs.rules.type_in.Goals as goal

pub returns : goal.returns
returns c =
    c.abstract_type.ensures
    ∙ (ap (abstract_type (treatment_of c.args.treatment)) c.used.ensures.used
    ∙ ap (λ cs. abstract_type (treatment_of c.args.treatment) (used (named_among cs))) (sym (listed_counted (treatment_of c.args.treatment) c.args.set (parameters_of c.args.slots.now) c.args.classes.now)))
