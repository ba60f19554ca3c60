use Rattle.std.proofs.Common.{◌≡◌, ◌∙◌, ◌<◌, List, length, take, sym, ap, arith}
use Rattle.smv_decide.specs.Leaves.{classes_in}
use Rattle.smv_decide.specs.Tasks.{case_in}
use Rattle.smv_decide.proofs.Told.{Has_at}
use Rattle.law_checked_proofs.specs.Cases.{UnitCase, cases_from}
use Rattle.smv_kept_cases.proofs.LeafLaws.{old_is_set, no_cases, one_more, cut_here, leaf_more, leaf_open, leaf_all}
use Rattle.smv_kept_cases.proofs.leaf.try_cases.Goals as goal

pub loop-k-init : goal.loop-k-init
loop-k-init c = record {
  shared = c.requires.shared;
  sets = no_cases c.args.old.now.sets.now c.args.budgets.nodes c.args.budgets.steps c.args.unit.now (case_in c.args.task.now) c.args.cases.now c.new-sets.result c.new-sets.ensures;
}

pub try_case-requires-clause-case : goal.try_case-requires-clause-case
try_case-requires-clause-case c =
    let test = c.loop-k-test.true in
    let lt : c.loop-k.k < length c.args.cases.now = omega (arith, test) in
    c.requires.cases.are_cases c.index-cases-k.result (Has_at c.args.cases.now c.loop-k.k c.index-cases-k.result lt c.index-cases-k.is)

pub try_case-requires-clause-width : goal.try_case-requires-clause-width
try_case-requires-clause-width c =
    let test = c.loop-k-test.true in
    let lt : c.loop-k.k < length c.args.cases.now = omega (arith, test) in
    c.requires.cases.have_width c.index-cases-k.result (Has_at c.args.cases.now c.loop-k.k c.index-cases-k.result lt c.index-cases-k.is)

pub try_case-requires-clause-set : goal.try_case-requires-clause-set
try_case-requires-clause-set c = λ set is.
    let here : UnitCase = record { unit = c.args.unit.now; number = c.loop-k.k; classes = c.index-cases-k.result.classes; case = case_in c.args.task.now c.index-cases-k.result.classes } in
    old_is_set c.args.old.now.sets.now c.requires.old.are_sets here set (sym (c.requires.old.are_first here) ∙ (sym c.find-found.ensures ∙ is))

pub loop-k-preserved : goal.loop-k-preserved
loop-k-preserved c = record {
  shared = c.in_ok-done.ensures.shared;
  sets =
      let test = c.loop-k-test.true in
      let lt : c.loop-k.k < length c.args.cases.now = omega (arith, test) in
      let here : UnitCase = record { unit = c.args.unit.now; number = c.loop-k.k; classes = c.index-cases-k.result.classes; case = case_in c.args.task.now c.index-cases-k.result.classes } in
      leaf_more c.args.old.now.sets.now c.args.budgets.nodes c.args.budgets.steps
      (cases_from c.args.unit.now (case_in c.args.task.now) 0 (classes_in (take c.loop-k.k c.args.cases.now))) _ c.loop-k.sets c.push.new.self _ here c.in_ok-done.done.tried c.in-True.set
      (one_more c.args.unit.now (case_in c.args.task.now) c.args.cases.now c.loop-k.k c.index-cases-k.result lt c.index-cases-k.is) c.in_ok-push-in-True.ensures.ok (c.find-found.ensures ∙ c.requires.old.are_first here) c.in-True.is c.in_ok-done.ensures.tried c.loop-k.invariant.sets;
}

pub returns-in-Open-clause-tried : goal.returns-in-Open-clause-tried
returns-in-Open-clause-tried c =
    let test = c.loop-k-test.true in
    let lt : c.loop-k.k < length c.args.cases.now = omega (arith, test) in
    let here : UnitCase = record { unit = c.args.unit.now; number = c.loop-k.k; classes = c.index-cases-k.result.classes; case = case_in c.args.task.now c.index-cases-k.result.classes } in
    leaf_open c.args.old.now.sets.now c.args.budgets.nodes c.args.budgets.steps (cases_from c.args.unit.now (case_in c.args.task.now) 0 (classes_in c.args.cases.now))
    (cases_from c.args.unit.now (case_in c.args.task.now) 0 (classes_in (take c.loop-k.k c.args.cases.now))) _ c.loop-k.sets _ here c.in_ok-done.done.tried c.in-Open.verdict
    (cut_here c.args.unit.now (case_in c.args.task.now) c.args.cases.now c.loop-k.k c.index-cases-k.result lt c.index-cases-k.is) (c.find-found.ensures ∙ c.requires.old.are_first here) c.in-Open.is c.in_ok-done.ensures.tried c.loop-k.invariant.sets

pub returns-clause-tried : goal.returns-clause-tried
returns-clause-tried c =
    let test = c.loop-k-test.false in
    leaf_all c.args.old.now.sets.now c.args.budgets.nodes c.args.budgets.steps c.args.unit.now (case_in c.args.task.now) c.args.cases.now c.loop-k.k c.loop-k.sets (omega (arith, test)) c.loop-k.invariant.sets
