use Rattle.std.proofs.Common.{◌∙◌, ◌≤◌, ◌∷◌, [], List, length, Some, ap, arith, subst, sym}
use Rattle.std.specs.Prelude.{Option, option_map}
use Rattle.std.proofs.lemmas.Option.{slice_get-map}
use Rattle.smv_core.specs.declared.flat.Case.{Case as CaseData}
use Rattle.smv_decide.specs.Leaves.{classes_in}
use Rattle.smv_decide.specs.Tasks.{case_in}
use Rattle.smv_kept_cases.specs.Tried.{IsLeafTried}
use Rattle.law_checked_proofs.specs.Cases.{UnitCase, cases_from}
use Rattle.smv_look_sets.specs.declared.sought.Sought.{Sought}
use Rattle.smv_look_sets.specs.Sought.{IsFoundOf}
use Rattle.smv_look_sets.proofs.SoughtLaws.{alone_found, case_there, one_is_case}
use Rattle.smv_look_sets.proofs.PlaceLaws.{part_there}
use Rattle.smv_look_sets.proofs.cases.alone.Goals as goal

pub tried-requires-clause-cases : goal.tried-requires-clause-cases
tried-requires-clause-cases c =
    let case = part_there c.args.cases.now c.args.place c.requires.there in
    one_is_case c.args.task.now.design.now c.args.task.now.leaf.now c.args.task.now.choice.now c.args.cases.now c.one_case-own.result.now c.args.place case.0 c.requires.cases case.1 (c.one_case-own.ensures case.0 case.1)

pub tried-requires-clause-few : goal.tried-requires-clause-few
tried-requires-clause-few c =
    let case = part_there c.args.cases.now c.args.place c.requires.there in
    subst (λ (xs : List CaseData). length xs ≤ 4096) (sym (c.one_case-own.ensures case.0 case.1)) (omega arith)

pub returns : goal.returns
returns c =
    let case = part_there c.args.cases.now c.args.place c.requires.there in
    let unit = c.args.unit.now in
    let own = c.one_case-own.ensures case.0 case.1 in
    let here : UnitCase = record { unit = unit; number = 0; classes = case.0.classes; case = case_in c.args.task.now case.0.classes } in
    let there = case_there unit (case_in c.args.task.now) 0 (classes_in c.args.cases.now) c.args.place case.0.classes c.args.place (omega arith)
    (slice_get-map (λ (k : CaseData). k.classes) c.args.cases.now c.args.place ∙ ap (option_map (λ (k : CaseData). k.classes)) case.1) in
    subst (λ (o : Option UnitCase). IsFoundOf c.args.budgets.nodes c.args.budgets.steps (length c.args.cases.now) (option_map (λ k. k ∷ []) o) c.found.result) (sym there)
    (subst (λ (s : Sought). IsFoundOf c.args.budgets.nodes c.args.budgets.steps (length c.args.cases.now) (Some (record here { number = c.args.place } ∷ [])) s) (sym c.found.ensures)
    (alone_found c.args.budgets.nodes c.args.budgets.steps (length c.args.cases.now) c.args.place here c.in_ok-tried.tried.verdict c.in_ok-tried.tried.sets c.in_ok-sets.sets
    (subst (λ (xs : List CaseData). IsLeafTried [] c.args.budgets.nodes c.args.budgets.steps (cases_from unit (case_in c.args.task.now) 0 (classes_in xs)) c.in_ok-tried.tried.verdict c.in_ok-tried.tried.sets) own c.in_ok-tried.ensures)
    c.in_ok-sets.ensures))
