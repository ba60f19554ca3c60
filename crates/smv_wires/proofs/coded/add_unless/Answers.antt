use Rattle.std.proofs.Common.{Bool, [], ◌∷◌, ◌++◌, if◌then◌else◌, refl, sym, subst, ◌∙◌}
use Rattle.bdd_store.specs.Diagram.{table}
use Rattle.law_obligations.specs.Cones.{kept}
use Rattle.law_arrangements.specs.Orders.{arranged}
use Rattle.smv_cells.specs.Seen.{IsSeen}
use Rattle.smv_encode.specs.Coded.{state_at}
use Rattle.smv_wires.specs.Tried.{view_coded}
use Rattle.smv_wires.proofs.Behind.{keeps_behind, tried_written}
use Rattle.smv_wires.proofs.coded.add_unless.Goals as goal

pub returns-then-is_tried-clause-seen : goal.returns-then-is_tried-clause-seen
returns-then-is_tried-clause-seen c = λ d is well order next coded xs hxs x hx front fresh seen.
    subst (λ (b : Bool). IsSeen table c.args.store.now c.args.problem.now c.args.cells.now.items (view_coded d order (if b then front else front ++ x ∷ []) next))
    (sym c.if-is_tried.true ∙ tried_written d well x c.args.element.now hx xs c.args.tried.now hxs c.is_tried.result c.is_tried.ensures) seen

pub returns-clause-seen : goal.returns-clause-seen
returns-clause-seen c = λ d is well order next coded xs hxs x hx front fresh seen.
    subst (λ (b : Bool). IsSeen table c.add_coded.new.store c.args.problem.now c.add_coded.new.cells.items (view_coded d order (if b then front else front ++ x ∷ []) next))
    (sym c.if-is_tried.false ∙ tried_written d well x c.args.element.now hx xs c.args.tried.now hxs c.is_tried.result c.is_tried.ensures)
    (c.in_ok-add_coded.ensures.seen d is well order next coded x hx (kept front) (kept (front ++ x ∷ [])) (state_at d (arranged order) next) (keeps_behind x front fresh) (λ a. refl) seen)
