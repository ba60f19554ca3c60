use Rattle.std.proofs.Common.{◌∙◌, ap, sym}
use Rattle.std.specs.List.{list_any}
use Rattle.smv_look_allowed.specs.Allowed.{is_rest}
use Rattle.smv_look_allowed.proofs.AllowedLaws.{none_at_rest, none_of_claim, sure_else}
use Rattle.smv_look_allowed.proofs.targets.target_values.Goals as goal

pub returns-then-has_rest : goal.returns-then-has_rest
returns-then-has_rest c case is well a abs same before abs_before e =
    c.new.ensures
    ∙ none_at_rest case well c.args.problem.now is before a c.in-Defined.element c.in-Defined.init c.in-Defined.next c.in-Defined.comb c.in-Defined.is (sym (ap (list_any is_rest) c.as_slice.ensures) ∙ (sym c.has_rest.ensures ∙ c.if-has_rest.true))

pub returns-in-Holds : goal.returns-in-Holds
returns-in-Holds c case is well a abs same before abs_before e = c.new-in-Holds.ensures ∙ none_of_claim case well c.args.problem.now is before a c.in-Holds.body c.in-Holds.bindings c.in-Holds.is

pub returns-in_ok-values-in-Defined : goal.returns-in_ok-values-in-Defined
returns-in_ok-values-in-Defined c case is well a abs same before abs_before e =
    sure_else case well c.args.problem.now is before a c.in-Defined.element c.in-Defined.init c.in-Defined.next c.in-Defined.comb c.in-Defined.is (sym (ap (list_any is_rest) c.as_slice.ensures) ∙ (sym c.has_rest.ensures ∙ c.if-has_rest.false)) c.in_ok-values-in-Defined.values
    (λ def indexes w fit kept. c.in_ok-values-in-Defined.ensures case is well a abs same before def indexes abs_before e w fit kept)
