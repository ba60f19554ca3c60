-- The answers of the passes, joined.
use Rattle.std.proofs.Common.{◌≡◌, ap, sym, subst, ◌∙◌}
use Rattle.std.specs.Prelude.{Some, None, Result}
use Rattle.smv_core.specs.declared.fault.Fault.{Fault}
use Rattle.smv_core.specs.declared.fault.Refusal.{Refusal}
use Rattle.smv_core.specs.declared.tree.Text.{Text}
use Rattle.smv_mentions.specs.FirstFault.{first_fault, or_else}
use Rattle.law_designs.specs.KindFaults.{first_fault_of_kinds}
use Rattle.law_designs.specs.Flattening.{flatten}
use Rattle.smv_cases.specs.Faults.{Refuses}
use Rattle.smv_problem.specs.declared.report.Plan.{Plan}
use Rattle.smv_front.specs.TextFault.{flat_text_fault, text_fault}

module _ (text : Text) where
  pub names-found : (f : Fault) → first_fault text ≡ Some f → text_fault text ≡ Some f
  unfolding text_fault
  names-found f is = ap (λ g. or_else g (or_else (first_fault_of_kinds text) (flat_text_fault (flatten text)))) is

  later-than-names : first_fault text ≡ None → text_fault text ≡ or_else (first_fault_of_kinds text) (flat_text_fault (flatten text))
  unfolding text_fault
  later-than-names none = ap (λ g. or_else g (or_else (first_fault_of_kinds text) (flat_text_fault (flatten text)))) none

  pub kinds-found : (f : Fault) → first_fault text ≡ None → first_fault_of_kinds text ≡ Some f → text_fault text ≡ Some f
  kinds-found f none is = later-than-names none ∙ ap (λ g. or_else g (flat_text_fault (flatten text))) is

  pub flat_text-answers : (r : Result Plan Refusal) → first_fault text ≡ None → first_fault_of_kinds text ≡ None → Refuses (flat_text_fault (flatten text)) r → Refuses (text_fault text) r
  flat_text-answers r none empty is = subst (λ g. Refuses g r) (sym (later-than-names none ∙ ap (λ g. or_else g (flat_text_fault (flatten text))) empty)) is

  pub ruleset text_answers = (names-found, kinds-found, flat_text-answers)
