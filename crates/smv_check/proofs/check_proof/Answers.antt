use Rattle.std.proofs.Common.{◌≡◌, ◌≤◌, true, List, length, nat_le, sym, subst, arith}
use Rattle.std.specs.List.{list_all}
use Rattle.law_lists.proofs.Booleans.{right_of}
use Rattle.smv_proof.specs.declared.proof.KeptSet.{KeptSet}
use Rattle.smv_proof.specs.Documents.{most, is_set}
use Rattle.smv_check.proofs.Told.{long_as, refused_as, whole_is, planned_is}
use Rattle.smv_check.proofs.check_proof.Goals as goal

pub answer-requires-clause-plan : goal.answer-requires-clause-plan
answer-requires-clause-plan c = whole_is c.plans_of_valid_texts_are_whole.ensures c.as_slice-design.result.now c.in-Ok.plan c.in-Ok.ensures.plan

pub answer-requires-clause-sets : goal.answer-requires-clause-sets
answer-requires-clause-sets c =
    subst (λ (xs : List KeptSet). list_all is_set xs ≡ true) (sym c.as_slice.ensures)
    (right_of (nat_le (length c.args.proof.now.design) most) (list_all is_set c.args.proof.now.sets) c.requires.proof)

pub answer-requires-clause-few : goal.answer-requires-clause-few
answer-requires-clause-few c = subst (λ (xs : List KeptSet). length xs ≤ most) (sym c.as_slice.ensures) c.requires.few

pub returns-in-Ok : goal.returns-in-Ok
returns-in-Ok c = planned_is c.args.proof.now c.requires.proof c.as_slice-design.result.now c.as_slice-design.ensures c.in-Ok.plan c.in-Ok.ensures.plan c.as_slice.result.now c.as_slice.ensures c.answer.result c.answer.ensures

pub returns-in-Err-Fault : goal.returns-in-Err-Fault
returns-in-Err-Fault c =
    let refusal = rw c.in-Err-Fault.is at c.read_design.ensures.fault in
    let fault = rw c.in-Err-Fault.field-0-is at refusal in
    rw c.in-Err-Fault.field-0-is (refused_as c.args.proof.now c.requires.proof c.as_slice-design.result.now c.as_slice-design.ensures c.in-Err-Fault.fault fault)

pub returns-then-design-gt1048576 : goal.returns-then-design-gt1048576
returns-then-design-gt1048576 c = long_as c.args.proof.now c.requires.proof c.as_slice-design.result.now c.as_slice-design.ensures (omega (arith, c.if-design-gt1048576.true))
