use Rattle.std.proofs.Common.{◌≡◌, false, ◌∷◌, subst, sym}
use Rattle.law_obligations.specs.Cases.{are_named}
use Rattle.smv_cases.proofs.RuleLaws.{number_not_named, rest_not_named}
use Rattle.smv_cases.proofs.rules.is_named.Goals as goal

pub returns-in-Number : goal.returns-in-Number
returns-in-Number c = λ classes. subst (λ y. are_named (y ∷ classes) ≡ false) (sym c.in-Number.is) (number_not_named c.in-Number.value classes)

pub returns-in-Rest : goal.returns-in-Rest
returns-in-Rest c = λ classes. subst (λ y. are_named (y ∷ classes) ≡ false) (sym c.in-Rest.is) (rest_not_named c.in-Rest.gap classes)
