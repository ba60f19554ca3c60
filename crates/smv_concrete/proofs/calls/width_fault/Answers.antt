use Rattle.std.proofs.Common.{Some, true, false, sym, ap, ◌∙◌}
use Rattle.law_lists.proofs.Places.{get_read}
use Rattle.law_obligations.proofs.Members.{Has-map}
use Rattle.law_obligations.proofs.OneOfEach.{get_Has}
use Rattle.smv_core.specs.declared.flat.Case.{Case}
use Rattle.smv_concrete.specs.Subjects.{unit_of}
use Rattle.smv_concrete.proofs.Faults.{fault-is, wide, width-is}
use Rattle.smv_concrete.proofs.Passed.{passed-all, passed-here, passed-more, passed-none}
use Rattle.smv_concrete.proofs.calls.width_fault.Goals as goal

pub loop-case-init : goal.loop-case-init
loop-case-init c = passed-none (wide c.args.subject.now.design.now (unit_of c.args.subject.now) c.args.subject.now.sizes.now c.args.cases.now) c.args.cases.now

pub is_wide-requires-clause-case : goal.is_wide-requires-clause-case
is_wide-requires-clause-case c = c.requires.cases c.case-item.result.classes
    (Has-map (λ (x : Case). x.classes) (get_Has c.args.cases.now c.loop-case.case-index c.case-item.result (get_read c.args.cases.now c.loop-case.case-index c.case-item.result c.loop-case-test.true c.case-item.is)))

pub fault_at_unit-fault-requires : goal.fault_at_unit-fault-requires
fault_at_unit-fault-requires c = c.requires.subject.units

pub returns-then-wide : goal.returns-then-wide
returns-then-wide c =
    let s = c.args.subject.now in
    let test = wide s.design.now (unit_of s) s.sizes.now c.args.cases.now in
    let some = passed-here test c.args.cases.now c.loop-case.case-index c.case-item.result c.loop-case-test.true c.case-item.is (sym c.in_ok-wide.ensures ∙ c.if-wide.true) c.loop-case.invariant in
    ap Some (fault-is s.design.now s.units.now s.leaf.now s.sizes.now 30 c.fault_at_unit-fault.result c.requires.subject.units c.fault_at_unit-fault.ensures) ∙ sym (width-is s.design.now (unit_of s) s.sizes.now c.args.cases.now true some)

pub loop-case-preserved : goal.loop-case-preserved
loop-case-preserved c =
    let s = c.args.subject.now in
    passed-more (wide s.design.now (unit_of s) s.sizes.now c.args.cases.now) c.args.cases.now c.loop-case.case-index c.case-item.result c.loop-case-test.true c.case-item.is (sym c.in_ok-wide.ensures ∙ c.if-wide.false) c.loop-case.invariant

pub returns : goal.returns
returns c =
    let s = c.args.subject.now in
    let test = wide s.design.now (unit_of s) s.sizes.now c.args.cases.now in
    sym (width-is s.design.now (unit_of s) s.sizes.now c.args.cases.now false (passed-all test c.args.cases.now c.loop-case.case-index c.loop-case-test.false c.loop-case.invariant))
