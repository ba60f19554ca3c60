use Rattle.std.proofs.Common.{List, ◌∷◌, false, refl, subst}
use Rattle.bdd_store.specs.declared.Ref.{Ref}
use Rattle.bdd_store.proofs.Keeping.{keeps_then}
use Rattle.law_obligations.specs.Readings.{values_of}
use Rattle.smv_conditions.specs.declared.offers.Offer.{Offer}
use Rattle.smv_cells.specs.declared.cells.Cell.{Cell}
use Rattle.smv_encode.proofs.Calls.{list_seen}
use Rattle.smv_wires.specs.Wired.{view_beside, meets_at, whens, HoldsAlone}
use Rattle.smv_wires.proofs.Tests.{all_made, tests_kept, alone_kept}
use Rattle.smv_wires.proofs.Added.{first_element, cell_of, wire_determined, wire_seen}
use Rattle.smv_wires.proofs.wires.wire_cell.Goals as goal

pub returns-clause-made : goal.returns-clause-made
returns-clause-made c = all_made c.tested_values.new.store c.is_alone.new.store c.in_ok-values.values c.in_ok-alone.ensures.keeps c.in_ok-values.ensures.made

pub returns-clause-determined : goal.returns-clause-determined
returns-clause-determined c = λ d is well order done x left next tried try seen.
    let k = c.in-Some.ensures.cases in
    let hx = first_element d order done x left try c.args.tried.now _ c.in-Some.element.now k.0 tried in
    wire_determined c.args.problem.now d well order done x left try next c.tested_values.new.store c.in_ok-values.values (c.in_ok-values.ensures.tests d is well order done x left next hx try seen)
    (λ a. subst (λ (os : List (Offer Ref)). HoldsAlone false (whens c.tested_values.new.store a os)) c.as_slice.ensures (c.in_ok-alone.ensures.alone c.if-not-alone.false a))
    (c.in_ok-ready.ensures c.if-not-ready.false d is well x left hx tried)

pub returns-clause-seen : goal.returns-clause-seen
returns-clause-seen c = λ d is well order done x left next tried try seen.
    let k = c.in-Some.ensures.cases in
    let hx = first_element d order done x left try c.args.tried.now _ c.in-Some.element.now k.0 tried in
    let made = c.in_ok-values.ensures.made in
    let keeps = c.in_ok-alone.ensures.keeps in
    let cell : Cell Ref = record { family = c.in-Some.element.now.family; indexes = c.in_ok-indexes.indexes; values = c.in_ok-values.values } in
    wire_seen c.args.problem.now d well order done x left try next c.is_alone.new.store c.in_ok-values.values
    (λ a. tests_kept d.problem.world.classes c.tested_values.new.store c.is_alone.new.store a (meets_at d order done x left next a) (values_of d.problem.world x) c.in_ok-values.values keeps made (c.in_ok-values.ensures.tests d is well order done x left next hx try seen a))
    (λ a. alone_kept c.tested_values.new.store c.is_alone.new.store a c.in_ok-values.values keeps made
    (subst (λ (os : List (Offer Ref)). HoldsAlone false (whens c.tested_values.new.store a os)) c.as_slice.ensures (c.in_ok-alone.ensures.alone c.if-not-alone.false a)))
    (c.in_ok-ready.ensures c.if-not-ready.false d is well x left hx tried)
    c.args.cells.now.items cell (cell_of c.args.problem.now d is well x c.in-Some.element.now hx c.in_ok-indexes.indexes c.in_ok-indexes.ensures c.in_ok-values.values) refl
    (list_seen c.args.store.now c.is_alone.new.store c.args.problem.now c.args.cells.now.items (view_beside d order done (x ∷ left) next) (keeps_then c.args.store.now c.tested_values.new.store c.is_alone.new.store c.in_ok-values.ensures.keeps keeps) c.requires.live seen)
