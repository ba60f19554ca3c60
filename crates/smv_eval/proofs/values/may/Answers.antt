use Rattle.smv_eval.proofs.ValueLaws.{may_answered}
use Rattle.smv_eval.proofs.values.may.Goals as goal

pub returns : goal.returns
returns c case is well a abs same over b kind index_types of_kind bound =
    may_answered c.args.problem.now c.args.s.now c.args.e.now c.args.bindings.now _ _ _ _ _ _ _ _ c.in_ok-cells.ensures c.as_slice.ensures.value c.in_ok-offers.ensures.are c.as_slice-2.ensures.value c.list_in.ensures c.in_ok-values.ensures case is well a abs same over b kind index_types of_kind bound
