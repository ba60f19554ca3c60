-- What the matches of words that are taken have, subcommand by subcommand.
use Rattle.std.proofs.Common.{◌≡◌, ◌∙◌, ◌||◌, Bool, true, false, not, List, [], ◌∷◌, inl, inr, refl, sym, ap, arith, subst, is_some, codes, true≢false, pos}
use Rattle.std.specs.Prelude.{unwrap_or}
use Rattle.clap.specs.Walk.{Row, Rule, Text, all_of, nothing_held, rows_after, settled, walk, with_default}
use Rattle.clap.specs.Simple.{Shape, built, built_leaf, filled, inherited, marked_built, subcommand_of, with_index, with_leaf_noted}
use Rattle.clap.specs.Faults.{fault_of, level_fault}
use Rattle.clap.specs.declared.builder.value_parser.ValueParser.TheVariants.{Signed}
use Rattle.clap.specs.Takes.{value_passes, values_pass}
use Rattle.clap.proofs.ValueTestLemmas.{accepts-Accepts}
use Rattle.clap.proofs.WalkLemmas.{both as both_true}
use Rattle.smv_command.specs.Ranges.{most_nodes, most_steps, most_copies, most_size}
use Rattle.smv_command.specs.Built.{IsGiven}
use Rattle.smv_command.specs.CommandLine as line
use Rattle.smv_command.specs.Commands.{bits_in, both, budgets_in, misnames, name_in, named, number, number_in, numbers, sizes_in, var_in}
use Rattle.smv_command.specs.declared.commands.Command.TheVariants.{Prove, Only, Generated, Proof, Resume, Confirm, Induct, Ltl}
use Rattle.smv_command.proofs.Rows.{AllFit, Among, EachKnown, HasValue, IsKnown, are_known, built_entered, given_pass, has_default, has_given, kept_by_default, level_is, value_of}
use Rattle.smv_command.proofs.Values.{both_given, both_there, map_given, number_given, word_given}
use Rattle.smv_command.proofs.ByName.{prove_is, only_is, print_is, generated_is, proof_is, check_is, resume_is, confirm_is, induct_is, ltl_is}

-- the subcommands as a parse sees them, once the command is built
abbrev above : Shape
above = with_leaf_noted (marked_built line.smv.top)

abbrev seen : Shape → Shape
seen s = built_leaf (inherited above s)

abbrev bits : Rule
bits = filled line.bits

abbrev nodes : Rule
nodes = filled line.nodes

abbrev steps : Rule
steps = filled line.steps

abbrev name : Rule
name = with_index 1 (filled line.name)

abbrev copies : Rule
copies = with_index 1 (filled line.copies)

abbrev sizes : Rule
sizes = with_index 2 (filled line.sizes)

abbrev var : Rule
var = with_index 2 (filled line.var)

abbrev budgets : List Rule
budgets = nodes ∷ steps ∷ []

each_of_budgets : EachKnown budgets budgets
each_of_budgets = (record { by_id = refl; valued = refl }, (record { by_id = refl; valued = refl }, tt))

each_of_prove : EachKnown (bits ∷ budgets) (bits ∷ budgets)
each_of_prove = (record { by_id = refl; valued = refl }, (record { by_id = refl; valued = refl }, (record { by_id = refl; valued = refl }, tt)))

each_of_only : EachKnown (name ∷ bits ∷ budgets) (name ∷ bits ∷ budgets)
each_of_only =
    (record { by_id = refl; valued = refl }, (record { by_id = refl; valued = refl }, (record { by_id = refl; valued = refl }, (record { by_id = refl; valued = refl }, tt))))

each_of_generated : EachKnown (copies ∷ []) (copies ∷ [])
each_of_generated = (record { by_id = refl; valued = refl }, tt)

each_of_confirm : EachKnown (name ∷ sizes ∷ bits ∷ budgets) (name ∷ sizes ∷ bits ∷ budgets)
each_of_confirm =
    (record { by_id = refl; valued = refl }, (record { by_id = refl; valued = refl }, (record { by_id = refl; valued = refl }, (record { by_id = refl; valued = refl }, (record { by_id = refl; valued = refl }, tt)))))

each_of_induct : EachKnown (name ∷ var ∷ budgets) (name ∷ var ∷ budgets)
each_of_induct =
    (record { by_id = refl; valued = refl }, (record { by_id = refl; valued = refl }, (record { by_id = refl; valued = refl }, (record { by_id = refl; valued = refl }, tt))))

nodes_given : (rows : List Row) → HasValue nodes rows → is_some (number_in most_nodes (codes "nodes") rows) ≡ true
nodes_given rows v = number_given most_nodes (codes "nodes") rows v.written (omega arith) v.one (accepts-Accepts false (Signed (pos 1) (pos most_nodes)) v.written v.passing)

steps_given : (rows : List Row) → HasValue steps rows → is_some (number_in most_steps (codes "steps") rows) ≡ true
steps_given rows v = number_given most_steps (codes "steps") rows v.written (omega arith) v.one (accepts-Accepts false (Signed (pos 1) (pos most_steps)) v.written v.passing)

copies_given : (rows : List Row) → HasValue copies rows → is_some (number_in most_copies (codes "N") rows) ≡ true
copies_given rows v = number_given most_copies (codes "N") rows v.written (omega arith) v.one (accepts-Accepts false (Signed (pos 1) (pos most_copies)) v.written v.passing)

-- words that pass spell sizes
sizes_spelled : (words : List Text) → values_pass sizes words ≡ true → is_some (numbers most_size words) ≡ true
sizes_spelled [] e = refl
sizes_spelled (word ∷ words) e =
    let p = both_true (value_passes sizes word) (values_pass sizes words) e in
    both_given (λ p. p.0 ∷ p.1) (number most_size word) (numbers most_size words)
    (word_given most_size word (omega arith) (accepts-Accepts false (Signed (pos 1) (pos most_size)) word p.0)) (sizes_spelled words p.1)

sizes_given : (c : List Rule) (rows : List Row) → IsKnown c sizes → AllFit c rows → is_some (sizes_in rows) ≡ true
sizes_given c rows known fits = sizes_spelled (unwrap_or (all_of (codes "SIZE") rows) []) (given_pass c sizes rows known fits)

budgets_given : (c : List Rule) (rows : List Row) → IsKnown c nodes → IsKnown c steps → AllFit c (with_default (with_default rows nodes) steps)
    → is_some (budgets_in (with_default (with_default rows nodes) steps)) ≡ true
budgets_given c rows known_nodes known_steps fits =
    let end = with_default (with_default rows nodes) steps in
    both_given (λ p. record { nodes = p.0; steps = p.1 }) (number_in most_nodes (codes "nodes") end) (number_in most_steps (codes "steps") end)
    (nodes_given end (value_of c nodes end known_nodes fits (kept_by_default (codes "nodes") (with_default rows nodes) steps (has_default rows nodes (codes "1000000") [] refl))))
    (steps_given end (value_of c steps end known_steps fits (has_default (with_default rows nodes) steps (codes "1000") [] refl)))

-- the test that nothing required is absent
absent : (g x : Bool) → (not g || x) ≡ false → (g ≡ true) × (x ≡ false)
absent true x e = (refl, e)
absent false x e = absurd (true≢false e)

-- what a subcommand's level without a fault gives, where it does not misname its bits
abbrev Gives : List Text → Shape → Type 0
Gives rest s = level_fault s [] nothing_held rest false [] ≡ [] → misnames s.name (rows_after s.rules [] rest) ≡ false → is_some (named s.name (rows_after s.rules [] rest)) ≡ true

-- bits that are not misnamed are there
named_there : (b : Bool) → not b ≡ false → b ≡ true
named_there true e = refl
named_there false e = absurd (true≢false e)

prove_given : (rest : List Text) → Gives rest (seen line.prove)
prove_given rest e right =
    let c = bits ∷ budgets in
    let rows = rows_after c [] rest in
    let level = level_is (seen line.prove) [] rest false [] (are_known c each_of_prove) each_of_prove e in
    ap is_some (prove_is rows) ∙ both_given (λ p. Prove p.0 p.1) (bits_in rows) (budgets_in rows) (named_there (is_some (bits_in rows)) right)
    (budgets_given c (with_default (settled c (walk c [] nothing_held rest).held).rows bits) each_of_prove.1.0 each_of_prove.1.1.0 level.fits)

only_given : (rest : List Text) → Gives rest (seen line.only)
only_given rest e right =
    let c = name ∷ bits ∷ budgets in
    let rows = rows_after c [] rest in
    let level = level_is (seen line.only) [] rest false [] (are_known c each_of_only) each_of_only e in
    let named = value_of c name rows each_of_only.0 level.fits (has_given (codes "NAME") rows (absent _ _ level.given).0) in
    ap is_some (only_is rows) ∙ both_given (λ p. Only p.0 p.1.0 p.1.1) (name_in rows) (both (bits_in rows) (budgets_in rows)) (ap is_some named.first)
    (both_there (bits_in rows) (budgets_in rows) (named_there (is_some (bits_in rows)) right)
    (budgets_given c (with_default (with_default (settled c (walk c [] nothing_held rest).held).rows name) bits) each_of_only.1.1.0 each_of_only.1.1.1.0 level.fits))

generated_given : (rest : List Text) → Gives rest (seen line.generated)
generated_given rest e right =
    let c = copies ∷ [] in
    let rows = rows_after c [] rest in
    let level = level_is (seen line.generated) [] rest false [] (are_known c each_of_generated) each_of_generated e in
    let given = value_of c copies rows each_of_generated.0 level.fits (has_given (codes "N") rows (absent _ _ level.given).0) in
    ap is_some (generated_is rows) ∙ map_given Generated (number_in most_copies (codes "N") rows) (copies_given rows given)

proof_given : (rest : List Text) → Gives rest (seen line.proof)
proof_given rest e right =
    let level = level_is (seen line.proof) [] rest false [] (are_known budgets each_of_budgets) each_of_budgets e in
    ap is_some (proof_is (rows_after budgets [] rest)) ∙ map_given Proof (budgets_in (rows_after budgets [] rest))
    (budgets_given budgets (settled budgets (walk budgets [] nothing_held rest).held).rows each_of_budgets.0 each_of_budgets.1.0 level.fits)

resume_given : (rest : List Text) → Gives rest (seen line.resume)
resume_given rest e right =
    let level = level_is (seen line.resume) [] rest false [] (are_known budgets each_of_budgets) each_of_budgets e in
    ap is_some (resume_is (rows_after budgets [] rest)) ∙ map_given Resume (budgets_in (rows_after budgets [] rest))
    (budgets_given budgets (settled budgets (walk budgets [] nothing_held rest).held).rows each_of_budgets.0 each_of_budgets.1.0 level.fits)

confirm_given : (rest : List Text) → Gives rest (seen line.confirm)
confirm_given rest e right =
    let c = name ∷ sizes ∷ bits ∷ budgets in
    let rows = rows_after c [] rest in
    let level = level_is (seen line.confirm) [] rest false [] (are_known c each_of_confirm) each_of_confirm e in
    let named = value_of c name rows each_of_confirm.0 level.fits (has_given (codes "NAME") rows (absent _ _ level.given).0) in
    ap is_some (confirm_is rows) ∙ both_given (λ p. Confirm p.0 p.1.0 p.1.1.0 p.1.1.1) (name_in rows) (both (sizes_in rows) (both (bits_in rows) (budgets_in rows))) (ap is_some named.first)
    (both_there (sizes_in rows) (both (bits_in rows) (budgets_in rows)) (sizes_given c rows each_of_confirm.1.0 level.fits)
    (both_there (bits_in rows) (budgets_in rows) (named_there (is_some (bits_in rows)) right)
    (budgets_given c (with_default (with_default (with_default (settled c (walk c [] nothing_held rest).held).rows name) sizes) bits) each_of_confirm.1.1.1.0 each_of_confirm.1.1.1.1.0 level.fits)))

induct_given : (rest : List Text) → Gives rest (seen line.induct)
induct_given rest e right =
    let c = name ∷ var ∷ budgets in
    let rows = rows_after c [] rest in
    let level = level_is (seen line.induct) [] rest false [] (are_known c each_of_induct) each_of_induct e in
    let given = absent _ _ level.given in
    let named = value_of c name rows each_of_induct.0 level.fits (has_given (codes "NAME") rows given.0) in
    let varied = value_of c var rows each_of_induct.1.0 level.fits (has_given (codes "VAR") rows (absent _ _ given.1).0) in
    ap is_some (induct_is rows) ∙ both_given (λ p. Induct p.0 p.1.0 p.1.1) (name_in rows) (both (var_in rows) (budgets_in rows)) (ap is_some named.first)
    (both_there (var_in rows) (budgets_in rows) (ap is_some varied.first)
    (budgets_given c (with_default (with_default (settled c (walk c [] nothing_held rest).held).rows name) var) each_of_induct.1.1.0 each_of_induct.1.1.1.0 level.fits))

ltl_given : (rest : List Text) → Gives rest (seen line.ltl)
ltl_given rest e right =
    let c = bits ∷ budgets in
    let rows = rows_after c [] rest in
    let level = level_is (seen line.ltl) [] rest false [] (are_known c each_of_prove) each_of_prove e in
    ap is_some (ltl_is rows) ∙ both_given (λ p. Ltl p.0 p.1) (bits_in rows) (budgets_in rows) (named_there (is_some (bits_in rows)) right)
    (budgets_given c (with_default (settled c (walk c [] nothing_held rest).held).rows bits) each_of_prove.1.0 each_of_prove.1.1.0 level.fits)

among_gives : (s : Shape) (rest : List Text) → Among s (built line.smv).subs → Gives rest s
among_gives s rest (inl is) = subst (Gives rest) (sym is) (prove_given rest)
among_gives s rest (inr (inl is)) = subst (Gives rest) (sym is) (only_given rest)
among_gives s rest (inr (inr (inl is))) = subst (Gives rest) (sym is) (λ e right. ap is_some (print_is (rows_after [] [] rest)))
among_gives s rest (inr (inr (inr (inl is)))) = subst (Gives rest) (sym is) (generated_given rest)
among_gives s rest (inr (inr (inr (inr (inl is))))) = subst (Gives rest) (sym is) (proof_given rest)
among_gives s rest (inr (inr (inr (inr (inr (inl is)))))) = subst (Gives rest) (sym is) (λ e right. ap is_some (check_is (rows_after [] [] rest)))
among_gives s rest (inr (inr (inr (inr (inr (inr (inl is))))))) = subst (Gives rest) (sym is) (resume_given rest)
among_gives s rest (inr (inr (inr (inr (inr (inr (inr (inl is)))))))) = subst (Gives rest) (sym is) (confirm_given rest)
among_gives s rest (inr (inr (inr (inr (inr (inr (inr (inr (inl is))))))))) = subst (Gives rest) (sym is) (induct_given rest)
among_gives s rest (inr (inr (inr (inr (inr (inr (inr (inr (inr (inl is)))))))))) = subst (Gives rest) (sym is) (ltl_given rest)
among_gives s rest (inr (inr (inr (inr (inr (inr (inr (inr (inr (inr never)))))))))) = absurd never

-- words without a fault name a command, unless they misname its bits
pub taken_given : (words : List Text) → fault_of line.smv words ≡ [] → IsGiven (subcommand_of line.smv words)
taken_given words e =
    let entered = built_entered (built line.smv) words tt refl e in
    subst IsGiven (sym entered.is) (among_gives entered.shape entered.rest entered.among entered.fault)
