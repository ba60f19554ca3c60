use Rattle.std.proofs.Common.{◌≡◌, ℕ, List, true, refl}
use Rattle.std.specs.List.{list_all}
use Rattle.law_lists.proofs.Booleans.{and_both}
use Rattle.smv_core.specs.declared.tree.Text.{Text}
use Rattle.law_obligations.specs.Sets.{Has}
use Rattle.law_reports.specs.ListLaws.{CaseListsAreLists}
use Rattle.law_valid_texts.specs.Reports.{IsValid}
use Rattle.smv_proof.specs.declared.proof.KeptSet.{KeptSet}
use Rattle.smv_proof.specs.declared.proof.Proof.{Proof}
use Rattle.smv_proof.specs.Documents.{is_set, is_proof}
use Rattle.smv_proof.specs.Laws.{KeptSetsAreSets}
use Rattle.law_checked_proofs.specs.Cases.{UnitCase, cases_of}
use Rattle.law_checked_proofs.specs.Kept.{IsProofOf}
use Rattle.law_checked_proofs.specs.Resumed.{IsResumedProof}
use Rattle.law_judgements.specs.Judgements.{checked}
use Rattle.law_kept_proofs.specs.Laws.{UnitNamesAreNames, CasesAreSmall, HaveFewLines}
use Rattle.law_kept_proofs.proofs.Proofs.{IsSmall, all_kept, all_resumed, is_within}
use Rattle.law_kept_proofs.proofs.laws.kept_proofs_are_proofs.Goals as goal

module _ (sets_are : KeptSetsAreSets) (lists_are : CaseListsAreLists) (names : UnitNamesAreNames) (small : CasesAreSmall) (nodes images : ℕ) where
  each : (text : List ℕ) (tree : Text) → IsValid text tree → (c : UnitCase) → Has (cases_of tree) c → IsSmall c
  each text tree valid c h =
      let r = small text tree valid c h in
      record { named = names text tree valid c h; number = r.0; bits = r.1 }

  kept : (text : List ℕ) (proof : Proof) → IsProofOf nodes images text proof → HaveFewLines proof.sets → is_proof proof ≡ true
  kept text proof is few =
      and_both (is_within text is.tree proof.design is.is_valid is.design) (all_kept sets_are lists_are nodes images (cases_of is.tree) proof.sets (each text is.tree is.is_valid) is.are_kept few)

  resumed : (old : List KeptSet) (text : List ℕ) (proof : Proof) → list_all is_set old ≡ true → IsResumedProof old nodes images text proof → HaveFewLines proof.sets → is_proof proof ≡ true
  resumed old text proof are is few =
      and_both (is_within text is.tree proof.design is.is_valid is.design) (all_resumed sets_are lists_are nodes images old are (cases_of is.tree) proof.sets (each text is.tree is.is_valid) is.are_sets few)

pub returns-clause-kept : goal.returns-clause-kept
returns-clause-kept c text nodes images proof is few =
    kept c.kept_sets_mean.ensures.sets c.case_lists_are_lists.ensures c.cases_are_small.ensures.names c.cases_are_small.ensures.small nodes images text proof is few

pub returns-clause-resumed : goal.returns-clause-resumed
returns-clause-resumed c old text nodes images proof are is few =
    resumed c.kept_sets_mean.ensures.sets c.case_lists_are_lists.ensures c.cases_are_small.ensures.names c.cases_are_small.ensures.small nodes images old text proof are is few

pub returns-clause-judged : goal.returns-clause-judged
returns-clause-judged c text nodes images proof is few =
    let spelled = kept c.kept_sets_mean.ensures.sets c.case_lists_are_lists.ensures c.cases_are_small.ensures.names c.cases_are_small.ensures.small nodes images text proof is few in
    checked proof (spelled, refl) (c.kept_proofs_are_checked.ensures.checked text nodes images proof is)

pub returns-clause-resumed_judged : goal.returns-clause-resumed_judged
returns-clause-resumed_judged c old text nodes images proof are is few =
    let spelled = resumed c.kept_sets_mean.ensures.sets c.case_lists_are_lists.ensures c.cases_are_small.ensures.names c.cases_are_small.ensures.small nodes images old text proof are is few in
    checked proof (spelled, refl) (c.resumed_proofs_are_checked.ensures.checked old text nodes images proof is)
