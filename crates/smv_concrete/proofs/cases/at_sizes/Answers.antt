use Rattle.std.proofs.Common.{◌≤◌, List, Some, nat_lt, sym, ap, subst, ◌∙◌}
use Rattle.std.specs.List.{list_any}
use Rattle.smv_core.specs.declared.abstract_type.AbsType.{AbsType}
use Rattle.smv_core.specs.declared.flat.Family.{Family}
use Rattle.smv_core.specs.declared.flat.SetInfo.{SetInfo}
use Rattle.law_obligations.specs.Sets.{Has}
use Rattle.law_concrete.specs.Concrete.{sized}
use Rattle.law_concrete.specs.Sizes.{element_count, sizes_at, undeclared}
use Rattle.smv_concrete.specs.Subjects.{unit_of}
use Rattle.smv_concrete.proofs.Faults.{fault-is}
use Rattle.smv_concrete.proofs.Forms.{few-forms}
use Rattle.smv_concrete.proofs.Refusals.{count-wrong, few-are, many-are, none-wrong}
use Rattle.smv_concrete.proofs.cases.at_sizes.Goals as goal

pub few_cases-requires : goal.few_cases-requires
few_cases-requires c =
    let s = c.args.subject.now in
    subst (λ (ts : List AbsType). (t : AbsType) → Has ts t → t.named ≤ 256) (sym c.requires.subject.types) (few-forms s.design.now s.sizes.now c.requires.apart c.requires.few)

pub returns-in-Some-clause-cases : goal.returns-in-Some-clause-cases
returns-in-Some-clause-cases c = (few-are c.args.subject.now c.requires.subject c.requires.apart c.as_slice-3.result.now c.in_ok-cases.field-0 c.in-Some.cases c.as_slice-3.ensures c.in-Some.is c.in_ok-cases.ensures).0

pub returns-in-Some-clause-refuses : goal.returns-in-Some-clause-refuses
returns-in-Some-clause-refuses c =
    let s = c.args.subject.now in
    let are = few-are c.args.subject.now c.requires.subject c.requires.apart c.as_slice-3.result.now c.in_ok-cases.field-0 c.in-Some.cases c.as_slice-3.ensures c.in-Some.is c.in_ok-cases.ensures in
    none-wrong s.design.now (unit_of s) s.sizes.now (c.if-subject-undeclared.false ∙ (c.undeclared.ensures.count ∙ ap (λ (sets : List SetInfo). undeclared sets) c.as_slice.ensures))
    (sym (c.in_ok-wide.ensures ∙ ap (λ (fs : List Family). list_any (λ f. nat_lt 256 (element_count (sized s.design.now (sizes_at s.design.now.sets s.sizes.now)) f)) fs) c.as_slice-2.ensures) ∙ c.if-wide.false) are.1 are.2

pub returns-in-None-clause-refuses : goal.returns-in-None-clause-refuses
returns-in-None-clause-refuses c =
    let s = c.args.subject.now in
    count-wrong s.design.now (unit_of s) s.sizes.now (c.if-subject-undeclared.false ∙ (c.undeclared.ensures.count ∙ ap (λ (sets : List SetInfo). undeclared sets) c.as_slice.ensures))
    (sym (c.in_ok-wide.ensures ∙ ap (λ (fs : List Family). list_any (λ f. nat_lt 256 (element_count (sized s.design.now (sizes_at s.design.now.sets s.sizes.now)) f)) fs) c.as_slice-2.ensures) ∙ c.if-wide.false)
    (many-are c.args.subject.now c.requires.subject c.requires.apart c.as_slice-3.result.now c.in_ok-cases.field-0 c.as_slice-3.ensures c.in-None.is c.in_ok-cases.ensures)
    ∙ ap Some (sym (fault-is s.design.now s.units.now s.leaf.now s.sizes.now 29 c.fault_at_unit-fault-in-None.result c.requires.subject.units c.fault_at_unit-fault-in-None.ensures))
