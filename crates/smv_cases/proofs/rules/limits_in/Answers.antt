use Rattle.std.proofs.Common.{◌∙◌, length}
use Rattle.smv_core.specs.declared.flat.Class.TheVariants as class
use Rattle.smv_cases.specs.Slots.{treatment_of, parameters_of}
use Rattle.smv_cases.proofs.RuleLaws.{not_counted}
use Rattle.smv_cases.proofs.rules.limits_in.Goals as goal

pub returns-clause-stands : goal.returns-clause-stands
returns-clause-stands c =
    let limits = c.within.ensures.stands (length c.args.slots.now) in
    let same = not_counted (treatment_of c.args.treatment) c.args.set (parameters_of c.args.slots.now) c.args.before.now c.args.listed c.counts.result c.count-count.result c.counts.ensures c.if-counts.false c.count-count.ensures.count in
    ((λ k l. same (class.Named k) ∙ limits.0 k l), (λ g l. same (class.Rest g) ∙ limits.1 g l))
