use Rattle.std.proofs.Common.{◌∙◌, Err, ap}
use Rattle.smv_proof.specs.Readings.{with_sets}
use Rattle.smv_proof_read.proofs.Fronts.{none_spelled, spelled}
use Rattle.smv_proof_read.proofs.Onwards.{same_error}
use Rattle.smv_proof_read.proofs.read_proof.Goals as goal

pub returns-in_default-clause-none : goal.returns-in_default-clause-none
returns-in_default-clause-none c h = none_spelled c.args.bytes.now c.in_default.ensures

pub returns-in_err-sets-clause-none : goal.returns-in_err-sets-clause-none
returns-in_err-sets-clause-none c h =
    none_spelled c.args.bytes.now (c.in-Some.ensures ∙ ap (with_sets c.in-Some.design.now) (c.in_err-sets.ensures.none (ap Err (same_error c.from_residual.result c.in_err-sets.field-0.0 h c.from_residual.ensures.1))))

pub returns-clause-spelled : goal.returns-clause-spelled
returns-clause-spelled c =
    spelled c.args.bytes.now c.in-Some.design.now c.from_vec.result c.in_ok-sets.sets.items c.from_vec-2.result (c.in-Some.ensures ∙ ap (with_sets c.in-Some.design.now) c.in_ok-sets.ensures.read) (c.from_vec.ensures ∙ c.in_ok-design.ensures.items)
    c.from_vec-2.ensures
