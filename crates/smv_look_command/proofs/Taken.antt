-- What the matches of words that are taken have, subcommand by subcommand.
use Rattle.std.proofs.Common.{◌≡◌, ◌∙◌, ◌||◌, Bool, true, false, not, List, [], ◌∷◌, Option, Some, None, ℕ, inl, inr, refl, sym, ap, arith, subst, is_some, codes, true≢false, pos}
use Rattle.std.specs.Prelude.{find, option_and_then, option_map, slice_get, unwrap_or}
use Rattle.std.specs.Str.{bytes_eq}
use Rattle.clap.specs.Takes.{value_passes, values_pass}
use Rattle.clap.specs.Walk.{Row, Rule, Text, nothing_held, rows_after, settled, walk, with_default}
use Rattle.clap.proofs.WalkLemmas.{both as both_true}
use Rattle.clap.specs.Simple.{Shape, built, built_leaf, filled, inherited, marked_built, subcommand_of, with_index, with_leaf_noted}
use Rattle.clap.specs.Faults.{fault_of, level_fault}
use Rattle.clap.specs.declared.builder.value_parser.ValueParser.TheVariants.{Signed}
use Rattle.clap.proofs.ValueTestLemmas.{accepts-Accepts}
use Rattle.smv_command.specs.Commands.{both, budgets_in, name_in, number, number_in}
use Rattle.smv_command.specs.Ranges.{most_nodes, most_steps}
use Rattle.smv_command.proofs.Rows.{AllFit, Among, EachKnown, HasValue, IsKnown, are_known, built_entered, given_pass, has_default, has_given, kept_by_default, level_is, value_of}
use Rattle.smv_command.proofs.Values.{both_given, both_there, number_given, word_given}
use Rattle.smv_command.specs.CommandLine as smv
use Rattle.smv_look_command.specs.CommandLine as line
use Rattle.smv_look_command.specs.Queries.{any_case, any_case_in, most_cases, named}
use Rattle.smv_look_command.specs.declared.queries.Query.TheVariants.{Aiger, Cone, Sets}
use Rattle.smv_look_command.proofs.ByName.{aiger_is, cone_is, explain_is, front_is, lint_is, list_is, sets_is}

-- the subcommands as a parse sees them, once the command is built
abbrev above : Shape
above = with_leaf_noted (marked_built line.smv_look.top)

abbrev seen : Shape → Shape
seen s = built_leaf (inherited above s)

abbrev name : Rule
name = with_index 1 (filled line.name)

abbrev case : Rule
case = with_index 2 (filled line.case)

abbrev any : Rule
any = with_index 2 (filled line.any_case)

abbrev nodes : Rule
nodes = filled smv.nodes

abbrev steps : Rule
steps = filled smv.steps

each_of_cone : EachKnown (name ∷ case ∷ []) (name ∷ case ∷ [])
each_of_cone = (record { by_id = refl; valued = refl }, (record { by_id = refl; valued = refl }, tt))

case_given : (rows : List Row) → HasValue case rows → is_some (number_in most_cases (codes "CASE") rows) ≡ true
case_given rows v = number_given most_cases (codes "CASE") rows v.written (omega arith) v.one (accepts-Accepts false (Signed (pos 1) (pos most_cases)) v.written v.passing)

each_of_sets : EachKnown (name ∷ any ∷ nodes ∷ steps ∷ []) (name ∷ any ∷ nodes ∷ steps ∷ [])
each_of_sets =
    (record { by_id = refl; valued = refl }, (record { by_id = refl; valued = refl }, (record { by_id = refl; valued = refl }, (record { by_id = refl; valued = refl }, tt))))

nodes_given : (rows : List Row) → HasValue nodes rows → is_some (number_in most_nodes (codes "nodes") rows) ≡ true
nodes_given rows v = number_given most_nodes (codes "nodes") rows v.written (omega arith) v.one (accepts-Accepts false (Signed (pos 1) (pos most_nodes)) v.written v.passing)

steps_given : (rows : List Row) → HasValue steps rows → is_some (number_in most_steps (codes "steps") rows) ≡ true
steps_given rows v = number_given most_steps (codes "steps") rows v.written (omega arith) v.one (accepts-Accepts false (Signed (pos 1) (pos most_steps)) v.written v.passing)

budgets_given : (c : List Rule) (rows : List Row) → IsKnown c nodes → IsKnown c steps → AllFit c (with_default (with_default rows nodes) steps)
    → is_some (budgets_in (with_default (with_default rows nodes) steps)) ≡ true
budgets_given c rows known_nodes known_steps fits =
    let end = with_default (with_default rows nodes) steps in
    both_given (λ p. record { nodes = p.0; steps = p.1 }) (number_in most_nodes (codes "nodes") end) (number_in most_steps (codes "steps") end)
    (nodes_given end (value_of c nodes end known_nodes fits (kept_by_default (codes "nodes") (with_default rows nodes) steps (has_default rows nodes (codes "1000000") [] refl))))
    (steps_given end (value_of c steps end known_steps fits (has_default (with_default rows nodes) steps (codes "1000") [] refl)))

-- a number that may be left out is one where it is given
any_given : (c : List Rule) (rows : List Row) → IsKnown c any → AllFit c rows → is_some (any_case_in rows) ≡ true
any_given c rows known fits = of (find (λ r. bytes_eq r.id (codes "CASE")) rows) (given_pass c any rows known fits)
  where
    with_first : (words : List Text) → values_pass any words ≡ true → is_some (any_case (slice_get words 0)) ≡ true
    with_first [] p = refl
    with_first (word ∷ words) p =
        let spelled = word_given most_cases word (omega arith) (accepts-Accepts false (Signed (pos 1) (pos most_cases)) word (both_true (value_passes any word) (values_pass any words) p).0) in
        given (number most_cases word) spelled
      where
        given : (o : Option ℕ) → is_some o ≡ true → is_some (option_map Some o) ≡ true
        given None e = e
        given (Some n) e = refl

    of : (found : Option Row) → values_pass any (unwrap_or (option_map (λ r. r.values) found) []) ≡ true → is_some (any_case (option_and_then (λ r. slice_get r.values 0) found)) ≡ true
    of None p = refl
    of (Some r) p = with_first r.values p

-- the test that nothing required is absent
absent : (g x : Bool) → (not g || x) ≡ false → (g ≡ true) × (x ≡ false)
absent true x e = (refl, e)
absent false x e = absurd (true≢false e)

-- what a subcommand's level without a fault gives
abbrev Gives : List Text → Shape → Type 0
Gives rest s = level_fault s [] nothing_held rest false [] ≡ [] → is_some (named s.name (rows_after s.rules [] rest)) ≡ true

cone_given : (rest : List Text) → Gives rest (seen line.cone)
cone_given rest e =
    let c = name ∷ case ∷ [] in
    let rows = rows_after c [] rest in
    let level = level_is (seen line.cone) [] rest false [] (are_known c each_of_cone) each_of_cone e in
    let named = value_of c name rows each_of_cone.0 level.fits (has_given (codes "NAME") rows (absent _ _ level.given).0) in
    ap is_some (cone_is rows) ∙ both_given (λ p. Cone p.0 p.1) (name_in rows) (number_in most_cases (codes "CASE") rows) (ap is_some named.first)
    (case_given rows (value_of c case rows each_of_cone.1.0 level.fits (has_default (with_default (settled c (walk c [] nothing_held rest).held).rows name) case (codes "1") [] refl)))

sets_given : (rest : List Text) → Gives rest (seen line.sets)
sets_given rest e =
    let c = name ∷ any ∷ nodes ∷ steps ∷ [] in
    let rows = rows_after c [] rest in
    let level = level_is (seen line.sets) [] rest false [] (are_known c each_of_sets) each_of_sets e in
    let named = value_of c name rows each_of_sets.0 level.fits (has_given (codes "NAME") rows (absent _ _ level.given).0) in
    ap is_some (sets_is rows) ∙ both_given (λ p. Sets p.0 p.1.0 p.1.1) (name_in rows) (both (any_case_in rows) (budgets_in rows)) (ap is_some named.first)
    (both_there (any_case_in rows) (budgets_in rows) (any_given c rows each_of_sets.1.0 level.fits)
    (budgets_given c (with_default (with_default (settled c (walk c [] nothing_held rest).held).rows name) any) each_of_sets.1.1.0 each_of_sets.1.1.1.0 level.fits))

aiger_given : (rest : List Text) → Gives rest (seen line.aiger)
aiger_given rest e =
    let c = name ∷ case ∷ [] in
    let rows = rows_after c [] rest in
    let level = level_is (seen line.aiger) [] rest false [] (are_known c each_of_cone) each_of_cone e in
    let named = value_of c name rows each_of_cone.0 level.fits (has_given (codes "NAME") rows (absent _ _ level.given).0) in
    ap is_some (aiger_is rows) ∙ both_given (λ p. Aiger p.0 p.1) (name_in rows) (number_in most_cases (codes "CASE") rows) (ap is_some named.first)
    (case_given rows (value_of c case rows each_of_cone.1.0 level.fits (has_default (with_default (settled c (walk c [] nothing_held rest).held).rows name) case (codes "1") [] refl)))

among_gives : (s : Shape) (rest : List Text) → Among s (built line.smv_look).subs → Gives rest s
among_gives s rest (inl is) = subst (Gives rest) (sym is) (λ e. ap is_some (list_is (rows_after [] [] rest)))
among_gives s rest (inr (inl is)) = subst (Gives rest) (sym is) (cone_given rest)
among_gives s rest (inr (inr (inl is))) = subst (Gives rest) (sym is) (λ e. ap is_some (lint_is (rows_after [] [] rest)))
among_gives s rest (inr (inr (inr (inl is)))) = subst (Gives rest) (sym is) (λ e. ap is_some (explain_is (rows_after [] [] rest)))
among_gives s rest (inr (inr (inr (inr (inl is))))) = subst (Gives rest) (sym is) (sets_given rest)
among_gives s rest (inr (inr (inr (inr (inr (inl is)))))) = subst (Gives rest) (sym is) (λ e. ap is_some (front_is (rows_after [] [] rest)))
among_gives s rest (inr (inr (inr (inr (inr (inr (inl is))))))) = subst (Gives rest) (sym is) (aiger_given rest)
among_gives s rest (inr (inr (inr (inr (inr (inr (inr never))))))) = absurd never

-- words without a fault name a query
pub taken_named : (words : List Text) → fault_of line.smv_look words ≡ [] → is_some (option_and_then (λ found. named found.0 found.1) (subcommand_of line.smv_look words)) ≡ true
taken_named words e =
    let entered = built_entered (built line.smv_look) words tt refl e in
    ap (λ (o : Option (Text × List Row)). is_some (option_and_then (λ found. named found.0 found.1) o)) entered.is ∙ among_gives entered.shape entered.rest entered.among entered.fault
