-- Where the same is known, the same is warned of.
use Rattle.std.proofs.Common.{◌≡◌, ◌∙◌, ℕ, ◌+◌, List, [], ◌∷◌, ◌++◌, Bool, ◌||◌, cond, refl, ap, ap₂}
use Rattle.smv_core.specs.declared.flat.Family.{Family}
use Rattle.smv_look_lint.specs.declared.warnings.Flaw.TheVariants.{Unapplied, Unassigned, Undefined, Unread, Unused}
use Rattle.smv_look_lint.specs.declared.warnings.Warning.{Warning}
use Rattle.smv_look_lint.specs.Strays.{warning}
use Rattle.smv_look_lint.specs.Lint.{Known, family_warnings, free_warning, idle_warning, unread_warning, warnings_from}
use Rattle.smv_look_lint.specs.Marks.{AreAlike, IsSameKnown}

module _ (one other : Known) (same : IsSameKnown one other) where
  free-same : (k : ℕ) (f : Family) → free_warning one k f ≡ free_warning other k f
  free-same k f =
      ap₂ (λ (p q : Bool). cond p [] (cond f.is_abstract (warning k f.at Undefined ∷ []) (cond q [] (warning k f.at Unassigned ∷ [])))) (same.defined k) (same.inputs f.at)

  idle-same : (k : ℕ) (f : Family) → idle_warning one k f ≡ idle_warning other k f
  idle-same k f =
      ap₂ (λ (p : Bool) (more : List Warning). cond p more (cond (f.is_abstract || one.inputs f.at) (warning k f.at Unused ∷ []) (warning k f.at Unread ∷ []))) (same.mapped k) (ap (λ (p : Bool). cond p [] (warning k f.at Unapplied ∷ [])) (same.picked k))
      ∙ ap (λ (p : Bool). cond (other.mapped k) (cond (other.picked k) [] (warning k f.at Unapplied ∷ [])) (cond (f.is_abstract || p) (warning k f.at Unused ∷ []) (warning k f.at Unread ∷ []))) (same.inputs f.at)

  unread-same : (k : ℕ) (f : Family) → unread_warning one k f ≡ unread_warning other k f
  unread-same k f = ap₂ (λ (p : Bool) (more : List Warning). cond p [] more) (ap₂ (λ (p q : Bool). p || q) (same.read k) (same.outputs f.at)) (idle-same k f)

  pub warnings-same : (k : ℕ) (families : List Family) → warnings_from one k families ≡ warnings_from other k families
  warnings-same k [] = refl
  warnings-same k (f ∷ families) = ap₂ (λ (x y : List Warning). x ++ y) (ap₂ (λ (x y : List Warning). x ++ y) (free-same k f) (unread-same k f)) (warnings-same (k + 1) families)
