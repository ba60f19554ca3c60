use Rattle.std.proofs.Common.{map, Some, sym, ap, subst, ◌∙◌}
use Rattle.bdd_store.specs.Diagram.{IsLive, table}
use Rattle.law_obligations.specs.Sets.{first}
use Rattle.smv_core.specs.declared.flat.Element.{Element}
use Rattle.smv_spots.specs.Spots.{place_in}
use Rattle.smv_conditions.specs.Offers.{AreOffersMade, any_offer}
use Rattle.smv_encode.proofs.Adds.{one_element}
use Rattle.smv_encode.proofs.Calls.{list_kept, list_seen}
use Rattle.smv_encode.proofs.CodedCells.{placed_indexes}
use Rattle.smv_wires.specs.Tried.{view_keeping}
use Rattle.smv_wires.proofs.Added.{cell_of}
use Rattle.smv_wires.proofs.Behind.{one_more}
use Rattle.smv_wires.proofs.Values.{made_pushed}
use Rattle.smv_wires.proofs.coded.add_coded.Goals as goal

pub returns-clause-live : goal.returns-clause-live
returns-clause-live c =
    made_pushed c.coded_values.new.store c.args.cells.now.items _ _ (list_kept c.args.store.now c.coded_values.new.store c.args.cells.now.items c.in_ok-values.ensures.keeps c.requires.live)
    (subst (AreOffersMade (IsLive c.coded_values.new.store)) (sym c.from_vec.ensures) c.in_ok-values.ensures.made) c.in_ok-push.ensures.items

pub returns-clause-seen : goal.returns-clause-seen
returns-clause-seen c = λ d is well order next coded x hx keeps more state k same seen.
    let x' = c.args.element.now in
    let p = c.args.problem.now in
    one_more p d well c.coded_values.new.store x keeps more state k c.args.cells.now.items _ _ (cell_of p d is well x x' hx c.in_ok-indexes.indexes c.in_ok-indexes.ensures c.from_vec.result)
    (λ a q.
    ap (any_offer d.problem.world.classes table c.coded_values.new.store a q) c.from_vec.ensures
    ∙ c.in_ok-values.ensures.values d is well order next coded x (hx.among x first) (sym (ap (λ (y : Element). y.family) (one_element d x x' hx)))
    (ap (map (place_in d.problem.world.classes)) c.as_slice.ensures ∙ placed_indexes p d is well x x' (hx.among x first) (one_element d x x' hx) c.in_ok-indexes.indexes c.in_ok-indexes.ensures) a q
    ∙ ap (λ v. q (Some v)) (sym (same a)))
    c.in_ok-push.ensures.items (list_seen c.args.store.now c.coded_values.new.store p c.args.cells.now.items (view_keeping d keeps state) c.in_ok-values.ensures.keeps c.requires.live seen)
