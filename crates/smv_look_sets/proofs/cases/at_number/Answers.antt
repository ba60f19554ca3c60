use Rattle.std.proofs.Common.{◌≡◌, ◌∙◌, length, sym, arith}
use Rattle.std.proofs.lemmas.List.{length-map}
use Rattle.smv_core.specs.declared.flat.Case.{Case as CaseData}
use Rattle.smv_decide.specs.Leaves.{classes_in}
use Rattle.smv_decide.specs.Tasks.{case_in}
use Rattle.law_checked_proofs.specs.Cases.{cases_from}
use Rattle.smv_look_sets.proofs.SoughtLaws.{cases_long, none_found, one_found}
use Rattle.smv_look_sets.proofs.cases.at_number.Goals as goal

pub returns-then-place-count : goal.returns-then-place-count
returns-then-place-count c =
    let test = c.if-place-count.true in
    let long : length c.args.cases.now ≡ length (cases_from c.args.unit.now (case_in c.args.task.now) 0 (classes_in c.args.cases.now)) =
    sym (cases_long c.args.unit.now (case_in c.args.task.now) 0 (classes_in c.args.cases.now) ∙ length-map c.args.cases.now (λ (k : CaseData). k.classes)) in
    none_found c.args.budgets.nodes c.args.budgets.steps (cases_from c.args.unit.now (case_in c.args.task.now) 0 (classes_in c.args.cases.now)) c.args.number c.saturating_sub-place.result c.saturating_sub-place.ensures (length c.args.cases.now) long
    (omega (arith, test, long))

pub returns : goal.returns
returns c =
    one_found c.args.budgets.nodes c.args.budgets.steps (cases_from c.args.unit.now (case_in c.args.task.now) 0 (classes_in c.args.cases.now)) c.args.number c.saturating_sub-place.result c.saturating_sub-place.ensures (length c.args.cases.now) c.in_ok-sought.sought
    (sym (cases_long c.args.unit.now (case_in c.args.task.now) 0 (classes_in c.args.cases.now) ∙ length-map c.args.cases.now (λ (k : CaseData). k.classes))) c.in_ok-sought.ensures
