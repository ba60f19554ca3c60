use Rattle.std.proofs.Common.{refl}
use Rattle.smv_command.specs.declared.exit.Status.TheVariants as status
use Rattle.law_fault_places.proofs.Refusals.{refusal-tells, document-refusal-tells}
use Rattle.law_fault_places.proofs.Inductions.{induction-refusal-tells}
use Rattle.law_fault_places.proofs.Formulas.{formula-refusal-tells}
use Rattle.law_fault_places.proofs.texts.refusals_tell_faults.Goals as goal

pub returns-clause-texts : goal.returns-clause-texts
returns-clause-texts c = λ command text answer own due. refusal-tells c.faults_are_within.ensures command text status.Refused answer own due refl

pub returns-clause-documents : goal.returns-clause-documents
returns-clause-documents c = λ command bytes answer due. document-refusal-tells c.faults_are_within.ensures command bytes status.Refused answer due refl

pub returns-clause-inductions : goal.returns-clause-inductions
returns-clause-inductions c = λ name var budgets text answer due. induction-refusal-tells c.faults_are_within.ensures c.places_are_carried_back.ensures status.Inducted refl name var budgets text status.Refused answer due refl

pub returns-clause-formulas : goal.returns-clause-formulas
returns-clause-formulas c = λ bits budgets text answer due. formula-refusal-tells c.one_answer.ensures.within c.refusals_are_within.ensures c.translations_are_carried_back.ensures c.faults_are_within.ensures status.AllFormulas refl bits budgets text status.Refused answer due refl
