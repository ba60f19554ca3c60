use Rattle.std.specs.Option.{option_copied}
use Rattle.smv_eval.proofs.SureLaws.{values_said}
use Rattle.smv_eval.proofs.must_values.element_values.Goals as goal

pub returns : goal.returns
returns c =
    values_said c.args.problem.now (option_copied c.args.old) c.args.cells.now c.args.element.now c.args.init.now c.args.next.now c.args.comb.now _ _ _ _ _ c.in_ok-values.values c.in_ok-places.ensures c.as_slice.ensures.value c.in_ok-offers.ensures c.as_slice-2.ensures.value c.list_for.ensures c.in_ok-values.ensures
