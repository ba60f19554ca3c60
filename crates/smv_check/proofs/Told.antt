-- What is answered of sets, and of a document.
use Rattle.std.proofs.Common.{◌≡◌, ◌∙◌, ◌≤◌, ◌<◌, ℕ, Bool, true, false, ◌&&◌, List, [], ◌∷◌, ◌++◌, length, Some, None, Result, Ok, Err, IfSome, refl, sym, ap, subst, arith}
use Rattle.smv_bits.specs.declared.Bits.TheVariants.{Declared}
use Rattle.std.specs.Prelude.{codes}
use Rattle.std.specs.List.{flat_map}
use Rattle.std.specs.Fmt.{decimal}
use Rattle.std.proofs.lemmas.List.{length-append}
use Rattle.law_lists.proofs.Booleans.{left_of, right_of}
use Rattle.smv_core.specs.declared.fault.Fault.{Fault}
use Rattle.smv_core.specs.declared.tree.Text.{Text}
use Rattle.law_obligations.specs.Units.{script_of}
use Rattle.smv_problem.specs.declared.report.Plan.{Plan}
use Rattle.law_valid_texts.specs.Plans.{limit}
use Rattle.law_valid_texts.specs.Reports.{IsValid, script_of_tree}
use Rattle.law_valid_texts.specs.Rooms.{IsWholePlan}
use Rattle.law_answers.specs.Dues.{IsFault, too_long, malformed, faulty, unnamed, of_unit}
use Rattle.smv_command.specs.declared.commands.Command.{Command}
use Rattle.smv_command.specs.declared.commands.Command.TheVariants.{Prove}
use Rattle.smv_read_design.specs.Answers.{HasPlan, IsFaultOf as IsFaultRead}
use Rattle.smv_read_design.specs.ReadPlanLaws.{PlansOfValidTextsAreWhole}
use Rattle.smv_proof.specs.declared.proof.Proof.{Proof}
use Rattle.smv_proof.specs.declared.proof.KeptSet.{KeptSet}
use Rattle.smv_proof.specs.Documents.{is_proof, document, Spells, SpellsNone, line, node_line, set_lines}
use Rattle.law_checked_proofs.specs.Cases.{UnitCase, unit_cases, cases_of}
use Rattle.law_checked_proofs.specs.Checked.{are_for, are_within}
use Rattle.law_judgements.specs.Judgements.{IsFaultOf, IsJudged, FailsAt}
use Rattle.law_judgements.specs.Judgements as judgements
use Rattle.law_judgements.specs.Judgements.Judgement.{yes, form, design, set}
use Rattle.smv_check.specs.declared.errors.CheckError.{CheckError}
use Rattle.smv_check.specs.declared.errors.CheckError.TheVariants.{Form, Design, Set, OutOfMemory}
use Rattle.smv_check.specs.declared.units.Progress.{Progress}
use Rattle.smv_check.specs.Progress.{fit, HasPassed, FirstFails}
use Rattle.smv_check.specs.Answers.{judgement_of, IsAnswer}
use Rattle.smv_check.proofs.Fits.{all_sets}

-- ---- at the end of all cases

pub failed_is : (cases : List UnitCase) (sets : List KeptSet) (p : Progress) (number : ℕ) → HasPassed cases sets p → length sets ≤ p.looked → p.failed ≡ Some number → IsAnswer cases sets (Err (Set number))
failed_is cases sets p number passed le same =
    let r = all_sets cases sets p passed le in
    (r.0, subst (FirstFails cases sets) same r.1.1)

pub met_is : (cases : List UnitCase) (sets : List KeptSet) (p : Progress) → HasPassed cases sets p → length sets ≤ p.looked → p.failed ≡ None → IsAnswer cases sets (Ok p.looked)
met_is cases sets p passed le same =
    let r = all_sets cases sets p passed le in
    (r.0, subst (FirstFails cases sets) same r.1.1, r.1.0)

-- ---- the fault of a design

abbrev is_prove : Command → Bool
is_prove (Prove bits budgets) = true
is_prove _ = false

fault_of : (command : Command) (text : List ℕ) (number at : ℕ) → is_prove command ≡ true → IsFault command text number at → IsFaultOf text number at
fault_of command text _ _ e (too_long long) = judgements.too_long long
fault_of command text _ _ e (malformed number at within fault) = judgements.malformed number at within fault
fault_of command text _ _ e (faulty tree fault deciding is found) = judgements.faulty tree fault is found
fault_of _ text _ _ e (unnamed name bits nodes steps none) = absurd (cc (e))
fault_of _ text _ _ e (of_unit name sizes bits budgets number at is) = absurd (cc (e))

fault_is : (text : List ℕ) (fault : Fault) → IsFaultRead text fault → IsFaultOf text fault.number fault.at
fault_is text fault is = fault_of (Prove Declared (record { nodes = 1; steps = 1 })) text fault.number fault.at refl (is (Prove Declared (record { nodes = 1; steps = 1 })) refl)

-- ---- a document

module _ (proof : Proof) (spelled : is_proof proof ≡ true) where
  spells : Spells (document proof) proof
  spells = (spelled, refl)

  refused_is : (fault : Fault) → IsFaultOf proof.design fault.number fault.at → IsJudged (document proof) (design fault.number fault.at)
  refused_is fault is = judgements.has_fault proof fault.number fault.at spells is

  long_is : limit < length proof.design → IsJudged (document proof) (design 31 0)
  long_is long = judgements.has_fault proof 31 0 spells (judgements.too_long long)

  module _ (tree : Text) (valid : IsValid proof.design tree) where
    form_is : fit (cases_of tree) proof.sets ≡ false → IsJudged (document proof) form
    form_is not = by (are_for (cases_of tree) proof.sets) refl
      where
        within : are_for (cases_of tree) proof.sets ≡ true → are_within (cases_of tree) proof.sets ≡ false
        within e = sym (ap (λ (b : Bool). b && are_within (cases_of tree) proof.sets) e) ∙ not

        by : (b : Bool) → are_for (cases_of tree) proof.sets ≡ b → IsJudged (document proof) form
        by true e = judgements.not_within proof tree spells valid e (within e)
        by false e = judgements.not_for proof tree spells valid e

    pub answer_is : (result : Result ℕ CheckError) → IsAnswer (cases_of tree) proof.sets result → IfSome (judgement_of result) (IsJudged (document proof))
    answer_is (Ok count) (fits, all, same) =
        subst (λ (n : ℕ). IsJudged (document proof) (yes n)) (sym same)
        (judgements.checked proof spells (record {
          tree = tree;
          is_valid = valid;
          are_for = left_of (are_for (cases_of tree) proof.sets) (are_within (cases_of tree) proof.sets) fits;
          are_within = right_of (are_for (cases_of tree) proof.sets) (are_within (cases_of tree) proof.sets) fits;
          all_meet = all;
        }))
    answer_is (Err Form) not = form_is not
    answer_is (Err (Design fault)) none = absurd none
    answer_is (Err (Set number)) (fits, fails) =
        judgements.fails proof tree number spells valid
        (left_of (are_for (cases_of tree) proof.sets) (are_within (cases_of tree) proof.sets) fits)
        (right_of (are_for (cases_of tree) proof.sets) (are_within (cases_of tree) proof.sets) fits)
        fails
    answer_is (Err OutOfMemory) out = tt

-- ---- the plan of the design

pub whole_is : PlansOfValidTextsAreWhole → (text : List ℕ) (plan : Plan) → HasPlan text plan → IsWholePlan plan
whole_is whole text plan (tree, valid, is) = whole text tree valid plan is

pub planned_is : (proof : Proof) → is_proof proof ≡ true → (text : List ℕ) → text ≡ proof.design → (plan : Plan) → HasPlan text plan → (sets : List KeptSet) → sets ≡ proof.sets →
    (result : Result ℕ CheckError) → IsAnswer (unit_cases (script_of plan.design plan.leaves plan.choices)) sets result → IfSome (judgement_of result) (IsJudged (document proof))
unfolding cases_of
planned_is proof spelled text same plan (tree, valid, is) sets same_sets result answer =
    let script : script_of plan.design plan.leaves plan.choices ≡ script_of_tree tree = λ i. script_of (is.design i) (is.leaves i) (is.choices i) in
    answer_is proof spelled tree (subst (λ (t : List ℕ). IsValid t tree) same valid) result
    (subst (λ (xs : List KeptSet). IsAnswer (cases_of tree) xs result) same_sets (subst (λ s. IsAnswer (unit_cases s) sets result) script answer))

-- ---- the fault of the design

pub refused_as : (proof : Proof) → is_proof proof ≡ true → (text : List ℕ) → text ≡ proof.design → (fault : Fault) → IsFaultRead text fault → IsJudged (document proof) (design fault.number fault.at)
refused_as proof spelled text same fault is = refused_is proof spelled fault (subst (λ (t : List ℕ). IsFaultOf t fault.number fault.at) same (fault_is text fault is))

pub long_as : (proof : Proof) → is_proof proof ≡ true → (text : List ℕ) → text ≡ proof.design → limit < length text → IsJudged (document proof) (design 31 0)
long_as proof spelled text same long = long_is proof spelled (subst (λ (t : List ℕ). limit < length t) same long)

-- ---- the bytes

pub none_is : (bytes : List ℕ) → SpellsNone bytes → IsJudged bytes form
none_is bytes none = judgements.not_spelled none

pub document_is : (bytes : List ℕ) (proof : Proof) → Spells bytes proof → (result : Result ℕ CheckError) → IfSome (judgement_of result) (IsJudged (document proof)) → IfSome (judgement_of result) (IsJudged bytes)
document_is bytes proof spelled result is = subst (λ (bs : List ℕ). IfSome (judgement_of result) (IsJudged bs)) (sym spelled.1) is

sized : (kept : KeptSet) → 1 ≤ length (set_lines kept)
sized kept =
    let tail = line (kept.unit ∷ decimal kept.number ∷ decimal kept.root ∷ decimal (length kept.nodes) ∷ []) in
    let a = length-append (codes "set" ++ 32 ∷ tail) (flat_map node_line kept.nodes) in
    let b = length-append (codes "set") (32 ∷ tail) in
    omega (arith, a, b)

all_sized : (sets : List KeptSet) → length sets ≤ length (flat_map set_lines sets)
all_sized [] = omega arith
all_sized (kept ∷ sets) =
    let a = length-append (set_lines kept) (flat_map set_lines sets) in
    let b = sized kept in
    let c = all_sized sets in
    omega (arith, a, b, c)

-- a document has more bytes than sets
pub few_sets : (bytes : List ℕ) (proof : Proof) → bytes ≡ document proof → length proof.sets ≤ length bytes
few_sets bytes proof same =
    let sets = flat_map set_lines proof.sets in
    let design_line = line (codes "design" ∷ decimal (length proof.design) ∷ []) in
    let a = length-append (line (codes "smv" ∷ codes "proof" ∷ codes "1" ∷ [])) (design_line ++ (proof.design ++ 10 ∷ sets)) in
    let b = length-append design_line (proof.design ++ 10 ∷ sets) in
    let c = length-append proof.design (10 ∷ sets) in
    let d = all_sized proof.sets in
    let e = ap (λ (xs : List ℕ). length xs) same in
    omega (arith, a, b, c, d, e)
