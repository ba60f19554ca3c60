use Rattle.std.proofs.Common.{List, sym, ap, subst, ◌∙◌}
use Rattle.smv_core.specs.declared.flat.Class.{Class}
use Rattle.law_obligations.specs.Sets.{Has}
use Rattle.law_concrete.specs.Sizes.{width_fault_of}
use Rattle.law_reports.specs.Told.{IsToldBy}
use Rattle.smv_concrete.specs.Subjects.{case_in, unit_of}
use Rattle.smv_confirm.proofs.Given.{are-narrow, is-sized}
use Rattle.smv_confirm.proofs.subjects.tell_cases.Goals as goal

pub width_fault-requires-clause-sized : goal.width_fault-requires-clause-sized
width_fault-requires-clause-sized c = let s = c.args.subject.now in is-sized c.given_are_sizes.ensures s.design.now (unit_of s) s.sizes.now c.requires.ready c.requires.sizes c.requires.taken

pub width_fault-requires-clause-cases : goal.width_fault-requires-clause-cases
width_fault-requires-clause-cases c = λ classes h. subst (λ (list : List (List Class)). Has list classes) c.requires.cases h

pub decide_cases-requires-clause-sized : goal.decide_cases-requires-clause-sized
decide_cases-requires-clause-sized c = let s = c.args.subject.now in is-sized c.given_are_sizes.ensures s.design.now (unit_of s) s.sizes.now c.requires.ready c.requires.sizes c.requires.taken

pub decide_cases-requires-clause-cases : goal.decide_cases-requires-clause-cases
decide_cases-requires-clause-cases c = are-narrow c.args.subject.now c.args.cases.now c.requires.cases (sym c.in_ok-wide.ensures ∙ c.in-None.is)

pub returns-in-Some-clause-refuses : goal.returns-in-Some-clause-refuses
returns-in-Some-clause-refuses c = let s = c.args.subject.now in ap (width_fault_of s.design.now (unit_of s) s.sizes.now) (sym c.requires.cases) ∙ (sym c.in_ok-wide.ensures ∙ c.in-Some.is)

pub returns-in_ok-verdict-in-None-clause-refuses : goal.returns-in_ok-verdict-in-None-clause-refuses
returns-in_ok-verdict-in-None-clause-refuses c = let s = c.args.subject.now in ap (width_fault_of s.design.now (unit_of s) s.sizes.now) (sym c.requires.cases) ∙ (sym c.in_ok-wide.ensures ∙ c.in-None.is)

pub returns-in_ok-verdict-in-None-clause-verdict : goal.returns-in_ok-verdict-in-None-clause-verdict
returns-in_ok-verdict-in-None-clause-verdict c = subst (λ (list : List (List Class)). IsToldBy (case_in c.args.subject.now) c.args.bits c.args.budgets.nodes c.args.budgets.steps list c.in_ok-verdict-in-None.verdict) c.requires.cases c.in_ok-verdict-in-None.ensures
