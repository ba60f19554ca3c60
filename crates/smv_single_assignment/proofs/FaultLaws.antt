-- The first of the three faults.
use Rattle.std.proofs.Common.{◌≡◌, ℕ, ◌++◌, ap, sym, ◌∙◌}
use Rattle.std.specs.Prelude.{Option}
use Rattle.std.specs.List.{flat_map}
use Rattle.smv_core.specs.declared.flat.FlatText.{FlatText}
use Rattle.smv_first_fault.specs.Firsts.{least, fault_at, earlier_of}
use Rattle.smv_first_fault.proofs.FirstLaws.{first-both, first-at, two, one}
use Rattle.law_designs.specs.WholeText.{claims_of}
use Rattle.law_designs.specs.SingleFaults.{meet, mixed, lacking, unnamed, conflicting, assigned_in, first_fault_of_single}
use Rattle.law_designs.specs.Standing.{statements_of}
use Rattle.smv_single_assignment.specs.Held.{among, assigned_of, conflicts_of}
use Rattle.smv_single_assignment.proofs.StandingLaws.{items-assigned, items-conflicts}

pub single-first : (flat_text : FlatText) (a b c : Option ℕ) → a ≡ least (among meet conflicts_of assigned_of flat_text.items) → b ≡ least (mixed (flat_map assigned_of flat_text.items)) → c ≡ least (flat_map lacking (flat_map assigned_of flat_text.items) ++ flat_map unnamed (claims_of flat_text.items))
    → earlier_of (fault_at 15 a) (earlier_of (fault_at 16 b) (fault_at 17 c)) ≡ first_fault_of_single flat_text
single-first flat_text a b c first second third =
    let all : flat_map assigned_of flat_text.items ≡ assigned_in flat_text = sym (items-assigned 0 flat_text.items) in
    two 15 (conflicting (statements_of flat_text)) a _ _ (first ∙ ap least (sym (items-conflicts 0 flat_text.items)))
    (two 16 (mixed (assigned_in flat_text)) b _ _ (second ∙ ap (λ l. least (mixed l)) all)
    (one 17 (flat_map lacking (assigned_in flat_text) ++ flat_map unnamed (claims_of flat_text.items)) c (third ∙ ap (λ l. least (flat_map lacking l ++ flat_map unnamed (claims_of flat_text.items))) all)))
