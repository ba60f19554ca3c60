-- Branch by branch: the name says what the query is made of.
use Rattle.std.proofs.Common.{◌∙◌, ap, ap₂, is_some, Some, sym, true≢false}
use Rattle.std.specs.Prelude.{option_map}
use Rattle.clap.specs.Matches.{found_of}
use Rattle.clap.specs.Walk.{rows_of}
use Rattle.smv_command.specs.Commands.{both, budgets_in}
use Rattle.smv_look_command.specs.declared.queries.Query.TheVariants.{Aiger, Cone, Sets}
use Rattle.smv_look_command.specs.Queries.{any_case_in}
use Rattle.smv_look_command.proofs.ByName.{at_aiger, at_cone, at_explain, at_front, at_lint, at_list, at_sets, given_to_aiger, given_to_cone, given_to_sets, no_name}
use Rattle.smv_look_command.proofs.words.named.Goals as goal

pub returns-then-eq : goal.returns-then-eq
returns-then-eq c = at_list c.args.word.now (rows_of (found_of c.args.matches.now)) (sym c.eq.ensures ∙ c.if-eq.true)

pub text_in-requires : goal.text_in-requires
text_in-requires c = (given_to_cone c.args.word.now (rows_of (found_of c.args.matches.now)) (sym c.eq-else-eq.ensures ∙ c.if-eq-2.true) c.requires).0

pub case_in-case-requires : goal.case_in-case-requires
case_in-case-requires c = (given_to_cone c.args.word.now (rows_of (found_of c.args.matches.now)) (sym c.eq-else-eq.ensures ∙ c.if-eq-2.true) c.requires).1

pub returns-in_ok-name : goal.returns-in_ok-name
returns-in_ok-name c =
    at_cone c.args.word.now (rows_of (found_of c.args.matches.now)) (sym c.eq-else-eq.ensures ∙ c.if-eq-2.true)
    ∙ ap₂ (λ x y. option_map (λ p. Cone p.0 p.1) (both x y)) c.in_ok-name.ensures c.case_in-case.ensures

pub returns-then-eq-3 : goal.returns-then-eq-3
returns-then-eq-3 c = at_lint c.args.word.now (rows_of (found_of c.args.matches.now)) (sym c.eq-else-eq-2.ensures ∙ c.if-eq-3.true)

pub returns-then-eq-4 : goal.returns-then-eq-4
returns-then-eq-4 c = at_explain c.args.word.now (rows_of (found_of c.args.matches.now)) (sym c.eq-else-eq-3.ensures ∙ c.if-eq-4.true)

pub text_in-requires-then-eq-5 : goal.text_in-requires-then-eq-5
text_in-requires-then-eq-5 c = (given_to_sets c.args.word.now (rows_of (found_of c.args.matches.now)) (sym c.eq-else-eq-4.ensures ∙ c.if-eq-5.true) c.requires).0

pub any_case_in-case-requires : goal.any_case_in-case-requires
any_case_in-case-requires c = (given_to_sets c.args.word.now (rows_of (found_of c.args.matches.now)) (sym c.eq-else-eq-4.ensures ∙ c.if-eq-5.true) c.requires).1

pub budgets_in-budgets-requires : goal.budgets_in-budgets-requires
budgets_in-budgets-requires c = (given_to_sets c.args.word.now (rows_of (found_of c.args.matches.now)) (sym c.eq-else-eq-4.ensures ∙ c.if-eq-5.true) c.requires).2

pub returns-in_ok-name-2 : goal.returns-in_ok-name-2
returns-in_ok-name-2 c =
    at_sets c.args.word.now (rows_of (found_of c.args.matches.now)) (sym c.eq-else-eq-4.ensures ∙ c.if-eq-5.true)
    ∙ (ap (λ x. option_map (λ p. Sets p.0 p.1.0 p.1.1) (both x (both (any_case_in (rows_of (found_of c.args.matches.now))) (budgets_in (rows_of (found_of c.args.matches.now)))))) c.in_ok-name-2.ensures
    ∙ ap₂ (λ x y. option_map (λ p. Sets p.0 p.1.0 p.1.1) (both (Some c.in_ok-name-2.name) (both x y))) c.any_case_in-case.ensures c.budgets_in-budgets.ensures)

pub returns-then-eq-6 : goal.returns-then-eq-6
returns-then-eq-6 c = at_front c.args.word.now (rows_of (found_of c.args.matches.now)) (sym c.eq-else-eq-5.ensures ∙ c.if-eq-6.true)

pub text_in-requires-then-eq-7 : goal.text_in-requires-then-eq-7
text_in-requires-then-eq-7 c = (given_to_aiger c.args.word.now (rows_of (found_of c.args.matches.now)) (sym c.eq-else-eq-6.ensures ∙ c.if-eq-7.true) c.requires).0

pub case_in-case-requires-then-eq-7 : goal.case_in-case-requires-then-eq-7
case_in-case-requires-then-eq-7 c = (given_to_aiger c.args.word.now (rows_of (found_of c.args.matches.now)) (sym c.eq-else-eq-6.ensures ∙ c.if-eq-7.true) c.requires).1

pub returns-in_ok-name-3 : goal.returns-in_ok-name-3
returns-in_ok-name-3 c =
    at_aiger c.args.word.now (rows_of (found_of c.args.matches.now)) (sym c.eq-else-eq-6.ensures ∙ c.if-eq-7.true)
    ∙ ap₂ (λ x y. option_map (λ p. Aiger p.0 p.1) (both x y)) c.in_ok-name-3.ensures c.case_in-case-then-eq-7.ensures

pub unreachable-requires : goal.unreachable-requires
unreachable-requires c =
    let none =
    no_name c.args.word.now (rows_of (found_of c.args.matches.now)) (sym c.eq.ensures ∙ c.if-eq.false) (sym c.eq-else-eq.ensures ∙ c.if-eq-2.false) (sym c.eq-else-eq-2.ensures ∙ c.if-eq-3.false)
    (sym c.eq-else-eq-3.ensures ∙ c.if-eq-4.false) (sym c.eq-else-eq-4.ensures ∙ c.if-eq-5.false) (sym c.eq-else-eq-5.ensures ∙ c.if-eq-6.false) (sym c.eq-else-eq-6.ensures ∙ c.if-eq-7.false) in
    true≢false (sym (ap is_some (sym none) ∙ c.requires))
