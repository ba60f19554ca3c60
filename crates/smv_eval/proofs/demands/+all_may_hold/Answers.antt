use Rattle.std.proofs.Common.{rules, ◌≡◌, true, false}
use Rattle.smv_eval.proofs.HeldLaws.{guard_held, first_not_held, first_held}
use Rattle.smv_eval.proofs.demands.+all_may_hold.Goals as goal

pub returns-then-not-branch : goal.returns-then-not-branch
returns-then-not-branch t c p now read each =
    let f : c.in_ok-may_hold.field-0 ≡ false = search (rules, c.if-not-branch.true) in
    let k = c.in-Some.ensures.cases in
    first_not_held c.args.problem.now c.args.cells.now _ _ _ k.0 c.in_ok-may_hold.field-0 (guard_held c.args.problem.now c.args.cells.now _ _ _ _ c.in_ok-may_hold.ensures.is) f p now read each

pub returns : goal.returns
returns t c p now read each =
    let f : c.in_ok-may_hold.field-0 ≡ true = search (rules, c.if-not-branch.false) in
    let k = c.in-Some.ensures.cases in
    first_held c.args.problem.now c.args.cells.now _ _ _ k.0 c.in_ok-may_hold.field-0 (guard_held c.args.problem.now c.args.cells.now _ _ _ _ c.in_ok-may_hold.ensures.is) f c.in_ok-hold.hold c.in_ok-hold.ensures p now read each
