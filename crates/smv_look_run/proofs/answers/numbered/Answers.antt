use Rattle.std.proofs.Common.{◌∙◌, ℕ, Some, None, ap, refl, sym, option_copied}
use Rattle.smv_look_lines.specs.Cones.{count_line}
use Rattle.smv_look_run.specs.Cases.{cone_status, cone_text}
use Rattle.smv_look_run.proofs.CaseLaws.{counted, is_case, numbered}
use Rattle.smv_look_run.proofs.answers.numbered.Goals as goal

pub of_case-requires-clause-case : goal.of_case-requires-clause-case
of_case-requires-clause-case c =
    is_case c.args.design.now c.args.leaf.now c.args.choice.now c.args.cases.now c.requires.cases c.args.number c.cases_are_of_leaves.ensures c.requires.room c.in-Some.case.now (sym c.case_at.ensures ∙ ap option_copied c.in-Some.is)

pub of_case-requires-clause-count : goal.of_case-requires-clause-count
of_case-requires-clause-count c = counted c.args.design.now c.args.leaf.now c.args.choice.now c.args.cases.now c.requires.cases c.args.number _ refl

pub returns-in_ok-bytes-in-Some-clause-status : goal.returns-in_ok-bytes-in-Some-clause-status
returns-in_ok-bytes-in-Some-clause-status c =
    sym (ap cone_status (numbered c.args.design.now c.args.leaf.now c.args.choice.now c.args.cases.now c.requires.cases c.args.number (Some c.in-Some.case.now) (sym c.case_at.ensures ∙ ap option_copied c.in-Some.is)))

pub returns-in_ok-bytes-in-Some-clause-bytes : goal.returns-in_ok-bytes-in-Some-clause-bytes
returns-in_ok-bytes-in-Some-clause-bytes c =
    c.in_ok-bytes-in-Some.ensures
    ∙ sym (ap (cone_text c.args.design.now c.args.unit c.args.leaf.now c.args.choice.now c.args.number)
    (numbered c.args.design.now c.args.leaf.now c.args.choice.now c.args.cases.now c.requires.cases c.args.number (Some c.in-Some.case.now) (sym c.case_at.ensures ∙ ap option_copied c.in-Some.is)))

pub returns-in_ok-bytes-in-None-clause-status : goal.returns-in_ok-bytes-in-None-clause-status
returns-in_ok-bytes-in-None-clause-status c =
    sym (ap cone_status (numbered c.args.design.now c.args.leaf.now c.args.choice.now c.args.cases.now c.requires.cases c.args.number None (sym c.case_at.ensures ∙ ap option_copied c.in-None.is)))

pub returns-in_ok-bytes-in-None-clause-bytes : goal.returns-in_ok-bytes-in-None-clause-bytes
returns-in_ok-bytes-in-None-clause-bytes c =
    c.in_ok-bytes-in-None.ensures
    ∙ (ap (λ (n : ℕ). count_line c.args.design.now c.args.unit n) (counted c.args.design.now c.args.leaf.now c.args.choice.now c.args.cases.now c.requires.cases c.args.number _ refl)
    ∙ sym (ap (cone_text c.args.design.now c.args.unit c.args.leaf.now c.args.choice.now c.args.number)
    (numbered c.args.design.now c.args.leaf.now c.args.choice.now c.args.cases.now c.requires.cases c.args.number None (sym c.case_at.ensures ∙ ap option_copied c.in-None.is))))
