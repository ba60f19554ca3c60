use Rattle.std.proofs.Common.{◌∙◌, Err, ap, arith}
use Rattle.smv_check.proofs.Told.{none_is, document_is, few_sets}
use Rattle.smv_check.proofs.check.Goals as goal

pub check_proof-requires-clause-proof : goal.check_proof-requires-clause-proof
check_proof-requires-clause-proof c = c.in-Ok.ensures.spelled.0

pub check_proof-requires-clause-few : goal.check_proof-requires-clause-few
check_proof-requires-clause-few c =
    let few = few_sets c.args.bytes.now c.in-Ok.proof c.in-Ok.ensures.spelled.1 in
    let within = c.requires in
    omega (arith, few, within)

pub returns-in-Ok : goal.returns-in-Ok
returns-in-Ok c = document_is c.args.bytes.now c.in-Ok.proof c.in-Ok.ensures.spelled c.check_proof.result c.check_proof.ensures

pub returns-in-Err-NotSpelled : goal.returns-in-Err-NotSpelled
returns-in-Err-NotSpelled c = none_is c.args.bytes.now (c.read_proof.ensures.none (c.in-Err-NotSpelled.is ∙ ap Err c.in-Err-NotSpelled.field-0-is))
