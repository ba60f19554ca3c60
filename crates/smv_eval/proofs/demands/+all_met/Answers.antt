use Rattle.std.proofs.Common.{rules, ◌≡◌, true, false}
use Rattle.std.specs.Option.{option_copied}
use Rattle.smv_eval.proofs.HeldLaws.{first_unmet, first_met}
use Rattle.smv_eval.proofs.demands.+all_met.Goals as goal

pub returns-then-not-branch : goal.returns-then-not-branch
returns-then-not-branch t c p before now read ds each same =
    let f : c.in_ok-demand_met.field-0 ≡ false = search (rules, c.if-not-branch.true) in
    let k = c.in-Some.ensures.cases in
    first_unmet c.args.problem.now (option_copied c.args.old) c.args.cells.now _ _ _ k.0 c.in_ok-demand_met.field-0 c.in_ok-demand_met.ensures f p before now read ds each same

pub returns : goal.returns
returns t c p before now read ds each same =
    let f : c.in_ok-demand_met.field-0 ≡ true = search (rules, c.if-not-branch.false) in
    let k = c.in-Some.ensures.cases in
    first_met c.args.problem.now (option_copied c.args.old) c.args.cells.now _ _ _ k.0 c.in_ok-demand_met.field-0 c.in_ok-demand_met.ensures f c.in_ok-met.met c.in_ok-met.ensures p before now read ds each same
