use Rattle.std.proofs.Common.{◌∙◌}
use Rattle.smv_splits.proofs.MisfitLaws.{equations-first}
use Rattle.smv_splits.proofs.misfits.equations_misfit.Goals as goal

pub returns : goal.returns
returns c =
    equations-first c.args.families.now c.args.split.now c.as_slice-pairs.result.now c.as_slice-vars.result.now c.as_slice.result.now c.in_ok-rights.rights.names c.in_ok-rights.rights.repeated c.in_ok-new.new
    c.deref.result.now c.first_not_in_one-not_one.result c.first_not_new-not_new.result c.first_other_kind-other_kind.result c.first_stray-stray.result c.first_of.result c.first_of-2.result c.first_of-3.result
    c.as_slice-pairs.ensures c.as_slice-vars.ensures c.as_slice.ensures c.in_ok-rights.ensures.names c.in_ok-rights.ensures.repeated c.in_ok-new.ensures (c.deref.ensures.value ∙ c.in_ok-standing.ensures)
    c.first_not_in_one-not_one.ensures c.first_not_new-not_new.ensures c.first_other_kind-other_kind.ensures c.first_stray-stray.ensures c.first_of.ensures c.first_of-2.ensures c.first_of-3.ensures
