use Rattle.std.proofs.Common.{rules, ◌≡◌, ◌∙◌, sym, true, false}
use Rattle.smv_complete.proofs.Defined.{passed_over, unmet, met_too}
use Rattle.smv_complete.proofs.demands.+all_met_for.Goals as goal
use Rattle.smv_complete.proofs.demands.+all_met_for.Goals.{then-defines+in_ok-demand_met+else-not-branch, else-defines}

pub returns-then-not-branch : goal.returns-then-not-branch
returns-then-not-branch t c =
    let f : c.in_ok-demand_met.field-0 ≡ false = search (rules, c.if-not-branch.true) in
    let k = c.in-Some.ensures.cases in
    unmet c.args.problem.now c.args.cells.now c.args.element.now _ _ _ k.0 (sym c.defines.ensures ∙ c.if-defines.true) c.in_ok-demand_met.field-0 c.in_ok-demand_met.ensures f

pub returns : goal.returns
returns t c =
    let k = c.in-Some.ensures.cases in
    elim c.if-defines.branch [
      | then-defines+in_ok-demand_met+else-not-branch w ↦
          let f : w.in_ok-demand_met.field-0 ≡ true = search (rules, w.if-not-branch.false) in
          met_too c.args.problem.now c.args.cells.now c.args.element.now _ _ _ k.0 (sym c.defines.ensures ∙ w.if-defines.true) w.in_ok-demand_met.field-0 w.in_ok-demand_met.ensures f c.in_ok-met.met c.in_ok-met.ensures
      | else-defines w ↦ passed_over c.args.problem.now c.args.cells.now c.args.element.now _ _ _ k.0 (sym c.defines.ensures ∙ w.if-defines.false) c.in_ok-met.met c.in_ok-met.ensures
    ]
