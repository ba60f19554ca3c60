use Rattle.std.proofs.Common.{rules, ◌≡◌, true, false}
use Rattle.std.specs.Option.{option_copied}
use Rattle.smv_eval.proofs.HeldLaws.{not_held, held_broken}
use Rattle.smv_eval.proofs.demands.is_broken_by.Goals as goal

pub returns-then-not-branch : goal.returns-then-not-branch
returns-then-not-branch c case is well before now read =
    let f : c.in_ok-all_may_hold.field-0 ≡ false = search (rules, c.if-not-branch.true) in
    not_held c.args.problem.now (option_copied c.args.old) c.args.cells.now c.as_slice.result.now c.as_slice.ensures c.in_ok-all_may_hold.field-0 c.in_ok-all_may_hold.ensures f case is well before now read

pub returns : goal.returns
returns c case is well before now read =
    let f : c.in_ok-all_may_hold.field-0 ≡ true = search (rules, c.if-not-branch.false) in
    held_broken c.args.problem.now (option_copied c.args.old) c.args.cells.now c.as_slice.result.now c.as_slice.ensures c.in_ok-all_may_hold.field-0 c.in_ok-broken.broken c.in_ok-all_may_hold.ensures f c.in_ok-broken.ensures case is well before now read
