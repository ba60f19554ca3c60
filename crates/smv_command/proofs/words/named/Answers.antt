-- Branch by branch: the name says what the command is made of.
use Rattle.std.proofs.Common.{◌∙◌, ap, arith, codes, is_some, refl, sym, true≢false}
use Rattle.std.specs.Prelude.{option_map}
use Rattle.std.proofs.lemmas.Result.{IfOk-weaker}
use Rattle.clap.specs.Matches.{found_of}
use Rattle.clap.specs.Walk.{rows_of}
use Rattle.smv_command.specs.Ranges.{most_copies}
use Rattle.smv_command.specs.declared.commands.Command.TheVariants.{Generated, Proof, Resume}
use Rattle.smv_command.proofs.Values.{number_ranged}
use Rattle.smv_command.proofs.ByName.{at_check, at_confirm, at_generated, at_induct, at_ltl, at_only, at_print, at_proof, at_prove, at_resume, given_to_confirm, given_to_generated, given_to_induct, given_to_ltl, given_to_only, given_to_proof, given_to_prove, given_to_resume, has_none, names_bits, needs_none, no_name}
use Rattle.smv_command.proofs.words.named.Goals as goal

pub prove_in-requires : goal.prove_in-requires
prove_in-requires c = λ there. given_to_prove c.args.word.now (rows_of (found_of c.args.matches.now)) (sym c.eq.ensures ∙ c.if-eq.true) (c.requires (names_bits c.args.word.now (rows_of (found_of c.args.matches.now)) there))

pub returns-then-eq : goal.returns-then-eq
returns-then-eq c = at_prove c.args.word.now (rows_of (found_of c.args.matches.now)) (sym c.eq.ensures ∙ c.if-eq.true) ∙ sym c.prove_in.ensures

pub only_in-requires-clause-name : goal.only_in-requires-clause-name
only_in-requires-clause-name c = λ there. (given_to_only c.args.word.now (rows_of (found_of c.args.matches.now)) (sym c.eq-else-eq.ensures ∙ c.if-eq-2.true) (c.requires (names_bits c.args.word.now (rows_of (found_of c.args.matches.now)) there))).0

pub only_in-requires-clause-budgets : goal.only_in-requires-clause-budgets
only_in-requires-clause-budgets c = λ there. (given_to_only c.args.word.now (rows_of (found_of c.args.matches.now)) (sym c.eq-else-eq.ensures ∙ c.if-eq-2.true) (c.requires (names_bits c.args.word.now (rows_of (found_of c.args.matches.now)) there))).1

pub returns-then-eq-2 : goal.returns-then-eq-2
returns-then-eq-2 c = IfOk-weaker c.only_in.result _ _ (λ found is. at_only c.args.word.now (rows_of (found_of c.args.matches.now)) (sym c.eq-else-eq.ensures ∙ c.if-eq-2.true) ∙ is) c.only_in.ensures

pub returns-then-eq-3 : goal.returns-then-eq-3
returns-then-eq-3 c = at_print c.args.word.now (rows_of (found_of c.args.matches.now)) (sym c.eq-else-eq-2.ensures ∙ c.if-eq-3.true)

pub number_in-copies-requires : goal.number_in-copies-requires
number_in-copies-requires c =
    (most_copies, omega arith, given_to_generated c.args.word.now (rows_of (found_of c.args.matches.now)) (sym c.eq-else-eq-3.ensures ∙ c.if-eq-4.true) (c.requires (needs_none c.args.word.now (codes "generated") (rows_of (found_of c.args.matches.now)) (sym c.eq-else-eq-3.ensures ∙ c.if-eq-4.true) refl)))

pub overflow_cast-copies : goal.overflow_cast-copies
overflow_cast-copies c =
    let rows = rows_of (found_of c.args.matches.now) in
    let given = given_to_generated c.args.word.now rows (sym c.eq-else-eq-3.ensures ∙ c.if-eq-4.true) (c.requires (needs_none c.args.word.now (codes "generated") (rows_of (found_of c.args.matches.now)) (sym c.eq-else-eq-3.ensures ∙ c.if-eq-4.true) refl)) in
    let range = number_ranged most_copies (codes "N") rows c.number_in-copies.result (c.number_in-copies.ensures most_copies given) in
    omega (arith, range.1)

pub returns-then-eq-4 : goal.returns-then-eq-4
returns-then-eq-4 c =
    let rows = rows_of (found_of c.args.matches.now) in
    let is_generated = sym c.eq-else-eq-3.ensures ∙ c.if-eq-4.true in
    at_generated c.args.word.now rows is_generated ∙ ap (option_map Generated) (c.number_in-copies.ensures most_copies (given_to_generated c.args.word.now rows is_generated (c.requires (needs_none c.args.word.now (codes "generated") (rows_of (found_of c.args.matches.now)) (sym c.eq-else-eq-3.ensures ∙ c.if-eq-4.true) refl))))

pub budgets_in-budgets-requires : goal.budgets_in-budgets-requires
budgets_in-budgets-requires c = given_to_proof c.args.word.now (rows_of (found_of c.args.matches.now)) (sym c.eq-else-eq-4.ensures ∙ c.if-eq-5.true) (c.requires (needs_none c.args.word.now (codes "proof") (rows_of (found_of c.args.matches.now)) (sym c.eq-else-eq-4.ensures ∙ c.if-eq-5.true) refl))

pub returns-then-eq-5 : goal.returns-then-eq-5
returns-then-eq-5 c = at_proof c.args.word.now (rows_of (found_of c.args.matches.now)) (sym c.eq-else-eq-4.ensures ∙ c.if-eq-5.true) ∙ ap (option_map Proof) c.budgets_in-budgets.ensures

pub returns-then-eq-6 : goal.returns-then-eq-6
returns-then-eq-6 c = at_check c.args.word.now (rows_of (found_of c.args.matches.now)) (sym c.eq-else-eq-5.ensures ∙ c.if-eq-6.true)

pub budgets_in-budgets-requires-then-eq-7 : goal.budgets_in-budgets-requires-then-eq-7
budgets_in-budgets-requires-then-eq-7 c = given_to_resume c.args.word.now (rows_of (found_of c.args.matches.now)) (sym c.eq-else-eq-6.ensures ∙ c.if-eq-7.true) (c.requires (needs_none c.args.word.now (codes "resume") (rows_of (found_of c.args.matches.now)) (sym c.eq-else-eq-6.ensures ∙ c.if-eq-7.true) refl))

pub returns-then-eq-7 : goal.returns-then-eq-7
returns-then-eq-7 c = at_resume c.args.word.now (rows_of (found_of c.args.matches.now)) (sym c.eq-else-eq-6.ensures ∙ c.if-eq-7.true) ∙ ap (option_map Resume) c.budgets_in-budgets-then-eq-7.ensures

pub confirm_in-requires-clause-name : goal.confirm_in-requires-clause-name
confirm_in-requires-clause-name c = λ there. (given_to_confirm c.args.word.now (rows_of (found_of c.args.matches.now)) (sym c.eq-else-eq-7.ensures ∙ c.if-eq-8.true) (c.requires (names_bits c.args.word.now (rows_of (found_of c.args.matches.now)) there))).0

pub confirm_in-requires-clause-sizes : goal.confirm_in-requires-clause-sizes
confirm_in-requires-clause-sizes c = λ there. (given_to_confirm c.args.word.now (rows_of (found_of c.args.matches.now)) (sym c.eq-else-eq-7.ensures ∙ c.if-eq-8.true) (c.requires (names_bits c.args.word.now (rows_of (found_of c.args.matches.now)) there))).1

pub confirm_in-requires-clause-budgets : goal.confirm_in-requires-clause-budgets
confirm_in-requires-clause-budgets c = λ there. (given_to_confirm c.args.word.now (rows_of (found_of c.args.matches.now)) (sym c.eq-else-eq-7.ensures ∙ c.if-eq-8.true) (c.requires (names_bits c.args.word.now (rows_of (found_of c.args.matches.now)) there))).3

pub returns-then-eq-8 : goal.returns-then-eq-8
returns-then-eq-8 c = IfOk-weaker c.confirm_in.result _ _ (λ found is. at_confirm c.args.word.now (rows_of (found_of c.args.matches.now)) (sym c.eq-else-eq-7.ensures ∙ c.if-eq-8.true) ∙ is) c.confirm_in.ensures

pub induct_in-requires-clause-name : goal.induct_in-requires-clause-name
induct_in-requires-clause-name c = (given_to_induct c.args.word.now (rows_of (found_of c.args.matches.now)) (sym c.eq-else-eq-8.ensures ∙ c.if-eq-9.true) (c.requires (needs_none c.args.word.now (codes "induct") (rows_of (found_of c.args.matches.now)) (sym c.eq-else-eq-8.ensures ∙ c.if-eq-9.true) refl))).0

pub induct_in-requires-clause-var : goal.induct_in-requires-clause-var
induct_in-requires-clause-var c = (given_to_induct c.args.word.now (rows_of (found_of c.args.matches.now)) (sym c.eq-else-eq-8.ensures ∙ c.if-eq-9.true) (c.requires (needs_none c.args.word.now (codes "induct") (rows_of (found_of c.args.matches.now)) (sym c.eq-else-eq-8.ensures ∙ c.if-eq-9.true) refl))).1

pub induct_in-requires-clause-budgets : goal.induct_in-requires-clause-budgets
induct_in-requires-clause-budgets c = (given_to_induct c.args.word.now (rows_of (found_of c.args.matches.now)) (sym c.eq-else-eq-8.ensures ∙ c.if-eq-9.true) (c.requires (needs_none c.args.word.now (codes "induct") (rows_of (found_of c.args.matches.now)) (sym c.eq-else-eq-8.ensures ∙ c.if-eq-9.true) refl))).2

pub returns-in_ok-command : goal.returns-in_ok-command
returns-in_ok-command c = at_induct c.args.word.now (rows_of (found_of c.args.matches.now)) (sym c.eq-else-eq-8.ensures ∙ c.if-eq-9.true) ∙ c.in_ok-command.ensures

pub ltl_in-requires : goal.ltl_in-requires
ltl_in-requires c = λ there. (given_to_ltl c.args.word.now (rows_of (found_of c.args.matches.now)) (sym c.eq-else-eq-9.ensures ∙ c.if-eq-10.true) (c.requires (names_bits c.args.word.now (rows_of (found_of c.args.matches.now)) there))).1

pub returns-then-eq-10 : goal.returns-then-eq-10
returns-then-eq-10 c = at_ltl c.args.word.now (rows_of (found_of c.args.matches.now)) (sym c.eq-else-eq-9.ensures ∙ c.if-eq-10.true) ∙ sym c.ltl_in.ensures

pub unreachable-requires : goal.unreachable-requires
unreachable-requires c =
    let none =
    no_name c.args.word.now (rows_of (found_of c.args.matches.now)) (sym c.eq.ensures ∙ c.if-eq.false) (sym c.eq-else-eq.ensures ∙ c.if-eq-2.false) (sym c.eq-else-eq-2.ensures ∙ c.if-eq-3.false)
    (sym c.eq-else-eq-3.ensures ∙ c.if-eq-4.false) (sym c.eq-else-eq-4.ensures ∙ c.if-eq-5.false) (sym c.eq-else-eq-5.ensures ∙ c.if-eq-6.false) (sym c.eq-else-eq-6.ensures ∙ c.if-eq-7.false) (sym c.eq-else-eq-7.ensures ∙ c.if-eq-8.false) (sym c.eq-else-eq-8.ensures ∙ c.if-eq-9.false) (sym c.eq-else-eq-9.ensures ∙ c.if-eq-10.false) in
    true≢false (sym (ap is_some (sym none) ∙ (c.requires (has_none c.args.word.now (rows_of (found_of c.args.matches.now)) (sym c.eq.ensures ∙ c.if-eq.false) (sym c.eq-else-eq.ensures ∙ c.if-eq-2.false) (sym c.eq-else-eq-7.ensures ∙ c.if-eq-8.false) (sym c.eq-else-eq-9.ensures ∙ c.if-eq-10.false)))))
