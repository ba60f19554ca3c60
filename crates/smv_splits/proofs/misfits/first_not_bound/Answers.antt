use Rattle.smv_splits.proofs.MisfitLaws.{unbound-first}
use Rattle.smv_splits.proofs.misfits.first_not_bound.Goals as goal

pub returns : goal.returns
returns c =
    unbound-first c.args.split.now c.as_slice-bound.result.now c.as_slice.result.now c.as_slice-2.result.now c.first_unbound-new.result c.first_unbound-old.result c.first_of.result
    c.as_slice-bound.ensures c.as_slice.ensures c.as_slice-2.ensures c.first_unbound-new.ensures c.first_unbound-old.ensures c.first_of.ensures
