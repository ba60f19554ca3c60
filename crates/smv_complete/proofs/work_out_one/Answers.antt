use Rattle.std.proofs.Common.{◌≡◌, ◌∙◌, List, ap, sym, Some}
use Rattle.std.specs.List.{slice_get}
use Rattle.std.proofs.lemmas.List.{get_or_default}
use Rattle.smv_problem.specs.declared.problem.AbsValue.{AbsValue}
use Rattle.smv_complete.proofs.First.{not_found, no_value, this, not_this, none_at_all, same_beside, own_again, cells_put}
use Rattle.smv_complete.proofs.work_out_one.Goals as goal

pub returns-in_default-clause-values : goal.returns-in_default-clause-values
returns-in_default-clause-values c = not_found c.args.problem.now c.args.element.now c.args.values.now.items (sym c.place_of.ensures ∙ c.in_default.is) c.args.values.now.items

pub returns-in_default-value_in-clause-values : goal.returns-in_default-value_in-clause-values
returns-in_default-value_in-clause-values c =
    no_value c.args.problem.now c.args.element.now c.args.values.now.items c.in-Some.place (sym c.place_of.ensures ∙ c.in-Some.is)
    (ap (λ (vs : List AbsValue). slice_get vs c.in-Some.place) (sym c.as_slice.ensures.value) ∙ sym c.value_in.ensures ∙ c.in_default-value_in.is) c.args.values.now.items

pub returns-then-branch-clause-cells : goal.returns-then-branch-clause-cells
returns-then-branch-clause-cells c =
    cells_put c.args.problem.now c.args.element.now c.in-Some.place (sym c.place_of.ensures ∙ c.in-Some.is) c.loop-choice.values.items c.put.new.values.items _ c.loop-choice.cells.items c.put.new.cells.items c.loop-choice.invariant.cells c.in_ok-put.ensures.values c.in_ok-put.ensures.cells

pub returns-then-branch-clause-values : goal.returns-then-branch-clause-values
returns-then-branch-clause-values c =
    this c.args.problem.now c.args.element.now c.args.values.now.items c.in-Some.place (sym c.place_of.ensures ∙ c.in-Some.is) c.as_slice-choices.result.now (λ d is well. c.as_slice-choices.ensures.value ∙ c.in_ok-found.ensures d is well)
    c.loop-choice.choice-index _ c.loop-choice-test.true (get_or_default c.as_slice-choices.result.now c.loop-choice.choice-index _ _ c.loop-choice-test.true) c.put.new.values.items (c.in_ok-put.ensures.values ∙ c.loop-choice.invariant.same _)
    c.as_slice-in-loop-choice.result.now
    (c.as_slice-in-loop-choice.ensures.value ∙ cells_put c.args.problem.now c.args.element.now c.in-Some.place (sym c.place_of.ensures ∙ c.in-Some.is) c.loop-choice.values.items c.put.new.values.items _ c.loop-choice.cells.items c.put.new.cells.items c.loop-choice.invariant.cells c.in_ok-put.ensures.values c.in_ok-put.ensures.cells)
    c.in_ok-are_met.field-0 c.in_ok-are_met.ensures c.if-branch.true c.loop-choice.invariant.none

pub loop-choice-preserved : goal.loop-choice-preserved
loop-choice-preserved c = record {
  cells = cells_put c.args.problem.now c.args.element.now c.in-Some.place (sym c.place_of.ensures ∙ c.in-Some.is) c.loop-choice.values.items c.put.new.values.items _ c.loop-choice.cells.items c.put.new.cells.items c.loop-choice.invariant.cells c.in_ok-put.ensures.values c.in_ok-put.ensures.cells;
  same = same_beside c.args.values.now.items c.loop-choice.values.items c.put.new.values.items c.in-Some.place _ c.loop-choice.invariant.same c.in_ok-put.ensures.values;
  none =
      not_this c.args.problem.now c.args.element.now c.args.values.now.items c.in-Some.place (sym c.place_of.ensures ∙ c.in-Some.is) c.as_slice-choices.result.now (λ d is well. c.as_slice-choices.ensures.value ∙ c.in_ok-found.ensures d is well)
      c.loop-choice.choice-index _ c.loop-choice-test.true (get_or_default c.as_slice-choices.result.now c.loop-choice.choice-index _ _ c.loop-choice-test.true) c.put.new.values.items (c.in_ok-put.ensures.values ∙ c.loop-choice.invariant.same _)
      c.as_slice-in-loop-choice.result.now
      (c.as_slice-in-loop-choice.ensures.value ∙ cells_put c.args.problem.now c.args.element.now c.in-Some.place (sym c.place_of.ensures ∙ c.in-Some.is) c.loop-choice.values.items c.put.new.values.items _ c.loop-choice.cells.items c.put.new.cells.items c.loop-choice.invariant.cells c.in_ok-put.ensures.values c.in_ok-put.ensures.cells)
      c.in_ok-are_met.field-0 c.in_ok-are_met.ensures c.if-branch.false c.loop-choice.invariant.none;
}

pub returns-clause-cells : goal.returns-clause-cells
returns-clause-cells c =
    cells_put c.args.problem.now c.args.element.now c.in-Some.place (sym c.place_of.ensures ∙ c.in-Some.is) c.loop-choice.values.items c.put-2.new.values.items c.in-Some-value_in.own c.loop-choice.cells.items c.put-2.new.cells.items c.loop-choice.invariant.cells c.in_ok-put-2.ensures.values c.in_ok-put-2.ensures.cells

pub returns-clause-values : goal.returns-clause-values
returns-clause-values c =
    let got : slice_get c.args.values.now.items c.in-Some.place ≡ Some c.in-Some-value_in.own =
    ap (λ (vs : List AbsValue). slice_get vs c.in-Some.place) (sym c.as_slice.ensures.value) ∙ sym c.value_in.ensures ∙ c.in-Some-value_in.is in
    none_at_all c.args.problem.now c.args.element.now c.args.values.now.items c.in-Some.place (sym c.place_of.ensures ∙ c.in-Some.is) c.as_slice-choices.result.now (λ d is well. c.as_slice-choices.ensures.value ∙ c.in_ok-found.ensures d is well)
    c.loop-choice.choice-index c.loop-choice-test.false c.loop-choice.invariant.none c.put-2.new.values.items
    (own_again c.args.values.now.items c.loop-choice.values.items c.put-2.new.values.items c.in-Some.place c.in-Some-value_in.own c.loop-choice.invariant.same c.in_ok-put-2.ensures.values got)
