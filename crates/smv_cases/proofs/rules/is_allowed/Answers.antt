use Rattle.std.proofs.Common.{ap, sym, ◌∙◌, not}
use Rattle.std.specs.List.{list_all}
use Rattle.law_obligations.specs.Cases.{those_of, is_of, is_allowed}
use Rattle.law_obligations.specs.Cases as cases
use Rattle.smv_cases.specs.Growing.{counted}
use Rattle.smv_cases.specs.Slots.{treatment_of, parameters_of}
use Rattle.smv_cases.proofs.RuleLaws.{allowed_so}
use Rattle.smv_cases.proofs.rules.is_allowed.Goals as goal

pub returns-in-Ordered : goal.returns-in-Ordered
returns-in-Ordered c =
    c.are_of-in-Ordered.ensures
    ∙ (ap (λ t. list_all (is_of t) (those_of (λ listed. not listed) c.args.set (parameters_of c.args.slots.now) c.args.classes.now)) (c.type_in-in-Ordered.ensures ∙ ap (λ t. cases.type_in (treatment_of t) c.args.set (parameters_of c.args.slots.now) c.args.classes.now) c.in-Ordered.is)
    ∙ (sym (allowed_so cases.ordered c.args.set (parameters_of c.args.slots.now) c.args.classes.now
    (ap (λ t. cases.are_named (counted (treatment_of t) c.args.set (parameters_of c.args.slots.now) c.args.classes.now)) (sym c.in-Ordered.is) ∙ (sym c.are_named.ensures ∙ c.if-not-are_named.false))
    (ap (λ t. cases.is_orderly (treatment_of t) (cases.named_among (counted (treatment_of t) c.args.set (parameters_of c.args.slots.now) c.args.classes.now))) (sym c.in-Ordered.is) ∙ (sym c.is_orderly.ensures ∙ c.if-not-is_orderly.false)))
    ∙ ap (λ t. is_allowed (treatment_of t) c.args.set (parameters_of c.args.slots.now) c.args.classes.now) (sym c.in-Ordered.is)))
