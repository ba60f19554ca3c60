use Rattle.std.proofs.Common.{refl, sym, ap, subst, ◌∙◌}
use Rattle.smv_bits.specs.declared.Bits.TheVariants.{Declared}
use Rattle.smv_rings.specs.Lists.{lists_of}
use Rattle.law_reports.specs.CaseLists.{case_lists}
use Rattle.smv_decide.specs.declared.Decided.{Decided}
use Rattle.smv_decide.specs.Decisions.{IsDecided}
use Rattle.smv_decide.proofs.Deciding.{reached_in, shown_by, order_declared, wired_declared}
use Rattle.smv_decide.proofs.tell.Goals as goal

pub path-requires-clause-order : goal.path-requires-clause-order
path-requires-clause-order c = order_declared c.args.problem c.as_slice-order.result.now (λ case e well. c.as_slice-order.ensures.value ∙ c.in_ok-order-in-Reaches.ensures case e well)

pub path-requires-clause-lists : goal.path-requires-clause-lists
path-requires-clause-lists c =
    wired_declared c.args.problem (lists_of c.args.store.now c.args.rel.now) c.as_slice-order.result.now _ refl (λ case e well. c.as_slice-order.ensures.value ∙ c.in_ok-order-in-Reaches.ensures case e well) c.requires.lists

pub returns-in_ok-states-in-Reaches-clause-decided : goal.returns-in_ok-states-in-Reaches-clause-decided
returns-in_ok-states-in-Reaches-clause-decided c = λ case e well.
    subst (IsDecided Declared c.args.budgets.nodes c.args.budgets.steps case) (sym (ap (λ (d : Decided). d.decision) c.shown.ensures)) (
      c.in-Reaches.depth,
      reached_in c.args.store.now (lists_of c.args.store.now c.args.rel.now) (case_lists case) c.args.budgets.nodes c.args.budgets.steps c.in-Reaches.depth c.args.outcome c.in-Reaches.rings c.requires.found c.in-Reaches.is (c.requires.lists case e well),
      shown_by c.args.problem case c.in-Reaches.depth c.in_ok-states-in-Reaches.states e (c.in_ok-states-in-Reaches.ensures.shortest case e well),
    )

pub returns-in_ok-states-in-Reaches-clause-shared : goal.returns-in_ok-states-in-Reaches-clause-shared
returns-in_ok-states-in-Reaches-clause-shared c = ap (λ (d : Decided). d.shared) c.shown.ensures
