use Rattle.std.proofs.Common.{◌∙◌, ap, sym}
use Rattle.smv_core.specs.declared.flat.Element.{Element}
use Rattle.bdd_store.specs.Diagram.{table}
use Rattle.bdd_store.proofs.Keeping.{keeps_then}
use Rattle.smv_encode.proofs.Calls.{live_on, cells_on}
use Rattle.smv_encode.proofs.Adds.{element_is, one_element, demands_shown}
use Rattle.smv_encode.proofs.Whole.{now_are}
use Rattle.smv_encode.proofs.KnownCases.{case_known_kept}
use Rattle.smv_encode.proofs.elements.element_at.Goals as goal

pub own_met-requires : goal.own_met-requires
own_met-requires c = record {
  cells = live_on c.args.store.now c.value_at.new.store c.args.cells.now c.in_ok-value.ensures.keeps c.requires.cells;
  known = case_known_kept c.args.store.now c.value_at.new.store c.args.problem.now c.args.cells.now _ c.in_ok-value.ensures.keeps c.requires.cells c.requires.known;
}

pub returns-clause-means : goal.returns-clause-means
returns-clause-means c = λ d is well o are x hx bit placed.
    element_is d o c.args.step (record { element = x; bit = bit }) (table c.and.new.store c.in_ok-r.r) (table c.own_met.new.store c.in_ok-value.value) (table c.own_met.new.store c.in_ok-met.met) c.in_ok-r.ensures.table
    (λ a. c.in_ok-met.ensures.keeps.tables c.in_ok-value.value c.in_ok-value.ensures.live a ∙ c.in_ok-value.ensures.value d is well x (sym (ap (λ (y : Element). y.family) (one_element d x c.args.element.now hx))) o.order bit placed a)
    (c.in_ok-met.ensures.means d is well o (cells_on d o c.args.store.now c.value_at.new.store c.args.problem.now c.args.cells.now c.in_ok-value.ensures.keeps c.requires.cells are) x hx d.problem.now
    (demands_shown d d.problem.now c.args.problem.now.now c.as_slice-demands.result.now c.as_slice-demands.ensures (now_are c.args.problem.now d is well)))

pub returns-clause-known : goal.returns-clause-known
returns-clause-known c =
    let k = keeps_then c.args.store.now c.value_at.new.store c.own_met.new.store c.in_ok-value.ensures.keeps c.in_ok-met.ensures.keeps in
    case_known_kept c.own_met.new.store c.and.new.store c.args.problem.now c.args.cells.now c.own_met.new.known c.in_ok-r.ensures.keeps (live_on c.args.store.now c.own_met.new.store c.args.cells.now k c.requires.cells) c.in_ok-met.ensures.known
