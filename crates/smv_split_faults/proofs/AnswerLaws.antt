-- The first fault of splits, from the places of its parts.
use Rattle.std.proofs.Common.{◌≡◌, ℕ, List, [], ◌++◌, ap, sym, ◌∙◌}
use Rattle.std.specs.Prelude.{Option}
use Rattle.std.specs.List.{flat_map}
use Rattle.smv_core.specs.declared.flat.Design.{Design}
use Rattle.smv_core.specs.declared.flat.Family.{Family}
use Rattle.smv_core.specs.declared.flat.FlatSplit.{FlatSplit}
use Rattle.smv_core.specs.declared.flat.Unit.{Unit}
use Rattle.smv_mentions.specs.Scopes.{first_of_places}
use Rattle.smv_mentions.specs.FirstFault.{first_of, faults_at}
use Rattle.smv_first_fault.specs.Firsts.{least, fault_at, earlier_of}
use Rattle.smv_first_fault.proofs.LeastLaws.{least-append}
use Rattle.smv_first_fault.proofs.FirstLaws.{first-both, first-at, earlier-none}
use Rattle.law_obligations.specs.Units.{units_of}
use Rattle.law_splits.specs.SplitFaults.{astray, split_again, misfits, mismatches, cuts_of, first_fault_of_splits}
use Rattle.law_splits.proofs.Types.{types_tell}
use Rattle.smv_splits.specs.Groups.{first_lost}
use Rattle.smv_split_faults.specs.Waiting.{shown_of_unit}

pub fault-is : (d e : Design) (families : List Family) (splits : List FlatSplit) (units : List Unit) (lost mismatch misfit : Option ℕ) → e ≡ d → families ≡ d.families → splits ≡ d.splits → units ≡ units_of d →
    lost ≡ first_lost e → mismatch ≡ least (flat_map (shown_of_unit e) units) → misfit ≡ least (flat_map (misfits families) splits) →
    earlier_of (fault_at 23 lost) (fault_at 24 (first_of_places misfit mismatch)) ≡ first_fault_of_splits d
fault-is d e families splits units lost mismatch misfit same fs ss us a b c =
    ap (λ o. earlier_of (fault_at 23 o) (fault_at 24 (first_of_places misfit mismatch))) (a ∙ ap first_lost same ∙ sym (least-append first-list (split_again d.splits)))
    ∙ ap (λ o. earlier_of (fault_at 23 (least lost-list)) (fault_at 24 o))
    (ap (λ o. first_of_places o mismatch) (c ∙ ap (λ l. least (flat_map (misfits l) splits)) fs ∙ ap (λ l. least (flat_map (misfits d.families) l)) ss)
    ∙ ap (first_of_places (least (flat_map (misfits d.families) d.splits))) (b ∙ ap (λ d. least (flat_map (shown_of_unit d) units)) same ∙ ap (λ l. least (flat_map (shown_of_unit d) l)) us ∙ ap least (sym (types_tell d)))
    ∙ sym (least-append (flat_map (misfits d.families) d.splits) (flat_map mismatches (cuts_of d))))
    ∙ ap (λ f. earlier_of f (fault_at 24 (least fit-list))) (sym (first-at 23 lost-list))
    ∙ ap (λ f. earlier_of (first_of (faults_at (23, lost-list))) f) (sym (first-at 24 fit-list) ∙ sym (earlier-none (first_of (faults_at (24, fit-list)))) ∙ sym (first-both (faults_at (24, fit-list)) []))
    ∙ sym (first-both (faults_at (23, lost-list)) (faults_at (24, fit-list) ++ []))
  where
    first-list : List ℕ
    first-list = flat_map (astray d) d.splits

    lost-list : List ℕ
    lost-list = flat_map (astray d) d.splits ++ split_again d.splits

    fit-list : List ℕ
    fit-list = flat_map (misfits d.families) d.splits ++ flat_map mismatches (cuts_of d)
