use Rattle.std.proofs.Common.{◌≡◌, map, ◌++◌, ap, ◌∙◌}
use Rattle.std.specs.List.{flat_map}
use Rattle.smv_first_fault.specs.Firsts.{least, fault_at, earlier_of}
use Rattle.law_designs.specs.WholeText.{claims_of}
use Rattle.law_designs.specs.SingleFaults.{meet, mixed, lacking, unnamed}
use Rattle.smv_single_assignment.specs.Held.{among, assigned_of, conflicts_of, standing_of}
use Rattle.smv_single_assignment.proofs.FaultLaws.{single-first}
use Rattle.smv_single_assignment.proofs.single_fault.Goals as goal

pub returns : goal.returns
returns c =
    let flat_text = c.args.flat_text.now in
    let items = c.as_slice-items.ensures in
    let all : map standing_of c.in_ok-all.all.items ≡ flat_map assigned_of flat_text.items = c.in_ok-all.ensures ∙ ap (flat_map assigned_of) items in
    c.earlier-2.ensures ∙ ap (λ f. earlier_of f c.earlier.result) c.fault_at.ensures
    ∙ ap (earlier_of (fault_at 15 c.in_ok-conflict.conflict)) (c.earlier.ensures ∙ ap (λ f. earlier_of f c.fault_at-3.result) c.fault_at-2.ensures ∙ ap (earlier_of (fault_at 16 c.first_mixed-mixed.result)) c.fault_at-3.ensures)
    ∙ single-first flat_text c.in_ok-conflict.conflict c.first_mixed-mixed.result c.first_without-without.result
    (c.in_ok-conflict.ensures ∙ ap (λ l. least (among meet conflicts_of assigned_of l)) items)
    (c.first_mixed-mixed.ensures ∙ ap (λ l. least (mixed l)) (c.in_ok-table.ensures.held ∙ all))
    (c.first_without-without.ensures ∙ ap (λ l. least (flat_map lacking (map standing_of l) ++ flat_map unnamed (claims_of c.as_slice-items.result.now))) c.deref.ensures.value
    ∙ ap (λ l. least (flat_map lacking l ++ flat_map unnamed (claims_of c.as_slice-items.result.now))) all ∙ ap (λ l. least (flat_map lacking (flat_map assigned_of flat_text.items) ++ flat_map unnamed (claims_of l))) items)
