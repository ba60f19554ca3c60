-- A plan of a text, its script, and what no first fault says.
use Rattle.std.proofs.Common.{◌≡◌, ◌∙◌, List, [], ◌∷◌, Option, Some, None, ap, refl}
use Rattle.smv_core.specs.declared.tree.Text.{Text}
use Rattle.smv_core.specs.declared.fault.Fault.{Fault}
use Rattle.smv_core.specs.declared.flat.Design.{Design}
use Rattle.smv_core.specs.declared.flat.Leaf.{Leaf}
use Rattle.law_obligations.specs.Units.{script_of}
use Rattle.law_splits.specs.Leaves.{leaves_of}
use Rattle.smv_problem.specs.declared.report.Plan.{Plan}
use Rattle.law_valid_texts.specs.Joined.{script_with}
use Rattle.law_valid_texts.specs.Plans.{IsPlanOf}
use Rattle.law_valid_texts.specs.Faults.{first_there}
use Rattle.law_valid_texts.specs.Faultless.{script_of_plan}

first_absent : (f : Option Fault) (faults : List (Option Fault)) → first_there (f ∷ faults) ≡ None → (f ≡ None) × (first_there faults ≡ None)
first_absent None faults e = (refl, e)
first_absent (Some f) faults e = let bad : ⊥ = cc in absurd bad

-- no pass of nine finds a fault
pub all_absent : (a b c d e f g h i : Option Fault) → first_there (a ∷ b ∷ c ∷ d ∷ e ∷ f ∷ g ∷ h ∷ i ∷ []) ≡ None
    → (a ≡ None) × (b ≡ None) × (c ≡ None) × (d ≡ None) × (e ≡ None) × (f ≡ None) × (g ≡ None) × (h ≡ None) × (i ≡ None)
all_absent a b c d e f g h i none =
    let p = first_absent a (b ∷ c ∷ d ∷ e ∷ f ∷ g ∷ h ∷ i ∷ []) none in
    let q = first_absent b (c ∷ d ∷ e ∷ f ∷ g ∷ h ∷ i ∷ []) p.1 in
    let r = first_absent c (d ∷ e ∷ f ∷ g ∷ h ∷ i ∷ []) q.1 in
    let s = first_absent d (e ∷ f ∷ g ∷ h ∷ i ∷ []) r.1 in
    let t = first_absent e (f ∷ g ∷ h ∷ i ∷ []) s.1 in
    let u = first_absent f (g ∷ h ∷ i ∷ []) t.1 in
    let v = first_absent g (h ∷ i ∷ []) u.1 in
    let w = first_absent h (i ∷ []) v.1 in
    let x = first_absent i [] w.1 in
    (p.0, q.0, r.0, s.0, t.0, u.0, v.0, w.0, x.0)

-- the script of a plan is that of the text's leaves with the plan's choices
pub is_script : (tree : Text) (plan : Plan) → IsPlanOf tree plan → script_of_plan plan ≡ script_with tree plan.choices
is_script tree plan is =
    ap (λ (leaves : List Leaf). script_of plan.design leaves plan.choices) is.leaves
    ∙ ap (λ (d : Design). script_of d (leaves_of d) plan.choices) is.design
