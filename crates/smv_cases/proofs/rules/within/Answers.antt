use Rattle.std.proofs.Common.{◌+◌, refl, subst, sym}
use Rattle.law_obligations.specs.Cases.{is_of}
use Rattle.smv_cases.specs.Growing.{widest}
use Rattle.smv_cases.specs.Slots.{treatment_of, AreLimits}
use Rattle.smv_cases.proofs.RuleLaws.{gaps_below}
use Rattle.smv_cases.proofs.rules.within.Goals as goal

pub returns-in-Ordered-clause-stands : goal.returns-in-Ordered-clause-stands
returns-in-Ordered-clause-stands c = λ n.
    subst (λ t. AreLimits n (is_of (widest (treatment_of t) c.args.count)) (record { named = c.args.count; rests = c.args.count + 1 })) (sym c.in-Ordered.is) ((λ k l. refl), (λ g l. gaps_below g c.args.count))
