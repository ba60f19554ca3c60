use Rattle.std.proofs.Common.{rules, arith, ◌≡◌, ◌∙◌, sym, length, [], true, false}
use Rattle.std.proofs.lemmas.Bool.{eqb-true}
use Rattle.std.specs.Option.{option_copied}
use Rattle.smv_eval.proofs.PathLaws.{nothing_left, no_state, not_now, last_broken, not_before, rest_violates, more_states, one_state, met_by, broken_by, violates_by}
use Rattle.smv_eval.proofs.violations.+violates_after.Goals as goal

pub returns-then-not-is_state-clause-violates : goal.returns-then-not-is_state-clause-violates
returns-then-not-is_state-clause-violates t c case is well before read path all same =
    let f : c.is_state.result ≡ false = search (rules, c.if-not-is_state.true) in
    let k = c.in-Some.ensures.cases in
    no_state c.args.problem.now (option_copied c.args.old) c.args.states.now c.in-Some.state.now c.in-Some.others.now k.0 c.is_state.result c.is_state.ensures f case is well before read path all same

pub returns-then-not-branch-clause-violates : goal.returns-then-not-branch-clause-violates
returns-then-not-branch-clause-violates t c case is well before read path all same =
    let f : c.in_ok-all_met.field-0 ≡ false = search (rules, c.if-not-branch.true) in
    let k = c.in-Some.ensures.cases in
    not_now c.args.problem.now (option_copied c.args.old) c.args.states.now c.in-Some.state.now c.in-Some.others.now k.0 c.in_ok-cells.cells.items c.in_ok-cells.ensures c.in_ok-all_met.field-0
    (met_by _ _ _ _ _ _ _ c.as_slice.ensures.value c.as_slice-2.ensures c.in_ok-all_met.ensures) f case is well before read path all same

pub returns-then-is_empty-clause-states : goal.returns-then-is_empty-clause-states
returns-then-is_empty-clause-states t c broken case is well =
    let s : c.is_state.result ≡ true = search (rules, c.if-not-is_state.false) in
    let none : c.in-Some.others.now ≡ [] = nothing_left c.in-Some.others.now (let zero = eqb-true (length c.in-Some.others.now) 0 (sym c.is_empty.ensures ∙ c.if-is_empty.true) in omega (arith, zero)) in
    let k = c.in-Some.ensures.cases in
    one_state c.args.problem.now (option_copied c.args.old) c.args.states.now c.in-Some.state.now c.in-Some.others.now k.0 c.is_state.result c.is_state.ensures s none case is well

pub returns-then-is_empty-clause-violates : goal.returns-then-is_empty-clause-violates
returns-then-is_empty-clause-violates t c case is well before read path all same =
    let m : c.in_ok-all_met.field-0 ≡ true = search (rules, c.if-not-branch.false) in
    let none : c.in-Some.others.now ≡ [] = nothing_left c.in-Some.others.now (let zero = eqb-true (length c.in-Some.others.now) 0 (sym c.is_empty.ensures ∙ c.if-is_empty.true) in omega (arith, zero)) in
    let k = c.in-Some.ensures.cases in
    last_broken c.args.problem.now (option_copied c.args.old) c.args.states.now c.in-Some.state.now c.in-Some.others.now k.0 c.in_ok-cells.cells.items c.in_ok-cells.ensures c.in_ok-all_met.field-0
    (met_by _ _ _ _ _ _ _ c.as_slice.ensures.value c.as_slice-2.ensures c.in_ok-all_met.ensures) m none c.in_ok-broken.broken (broken_by _ _ _ _ _ c.as_slice-then-is_empty.ensures.value c.in_ok-broken.ensures) case is well before read path all same

pub returns-then-not-branch-2-clause-violates : goal.returns-then-not-branch-2-clause-violates
returns-then-not-branch-2-clause-violates t c case is well before read path all same =
    let m : c.in_ok-all_met.field-0 ≡ true = search (rules, c.if-not-branch.false) in
    let f : c.in_ok-all_met-2.field-0 ≡ false = search (rules, c.if-not-branch-2.true) in
    let some : c.in-Some.others.now ≡ [] → ⊥ = λ e. search (rules, e, c.if-is_empty.false, c.is_empty.ensures) in
    let k = c.in-Some.ensures.cases in
    not_before c.args.problem.now (option_copied c.args.old) c.args.states.now c.in-Some.state.now c.in-Some.others.now k.0 c.in_ok-cells.cells.items c.in_ok-cells.ensures c.in_ok-all_met.field-0
    (met_by _ _ _ _ _ _ _ c.as_slice.ensures.value c.as_slice-2.ensures c.in_ok-all_met.ensures) m some c.in_ok-all_met-2.field-0 (met_by _ _ _ _ _ _ _ c.as_slice-3.ensures.value c.as_slice-4.ensures c.in_ok-all_met-2.ensures) f case is well before read path all same

pub returns-clause-states : goal.returns-clause-states
returns-clause-states t c violates case is well =
    let s : c.is_state.result ≡ true = search (rules, c.if-not-is_state.false) in
    let k = c.in-Some.ensures.cases in
    more_states c.args.problem.now (option_copied c.args.old) c.args.states.now c.in-Some.state.now c.in-Some.others.now k.0 c.is_state.result c.is_state.ensures s (c.in_ok-violates.ensures.states violates) case is well

pub returns-clause-violates : goal.returns-clause-violates
returns-clause-violates t c case is well before read path all same =
    let m : c.in_ok-all_met.field-0 ≡ true = search (rules, c.if-not-branch.false) in
    let n : c.in_ok-all_met-2.field-0 ≡ true = search (rules, c.if-not-branch-2.false) in
    let some : c.in-Some.others.now ≡ [] → ⊥ = λ e. search (rules, e, c.if-is_empty.false, c.is_empty.ensures) in
    let k = c.in-Some.ensures.cases in
    rest_violates c.args.problem.now (option_copied c.args.old) c.args.states.now c.in-Some.state.now c.in-Some.others.now k.0 c.in_ok-cells.cells.items c.in_ok-cells.ensures c.in_ok-all_met.field-0
    (met_by _ _ _ _ _ _ _ c.as_slice.ensures.value c.as_slice-2.ensures c.in_ok-all_met.ensures) m some c.in_ok-all_met-2.field-0 (met_by _ _ _ _ _ _ _ c.as_slice-3.ensures.value c.as_slice-4.ensures c.in_ok-all_met-2.ensures) n
    c.in_ok-violates.violates (violates_by _ _ _ _ _ c.as_slice-5.ensures.value c.in_ok-violates.ensures.violates) case is well before read path all same
