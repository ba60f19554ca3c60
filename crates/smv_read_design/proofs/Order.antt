-- The passes one behind the other, and the lengths of a plan's lists.
use Rattle.std.proofs.Common.{◌≡◌, ◌∙◌, [], ◌∷◌, length, Option, Some, None, refl}
use Rattle.std.proofs.lemmas.List.{length-map}
use Rattle.smv_core.specs.declared.fault.Fault.{Fault}
use Rattle.smv_core.specs.declared.flat.Design.{Design}
use Rattle.smv_mentions.specs.FirstFault.{or_else}
use Rattle.law_obligations.specs.Units.{units_of}
use Rattle.law_splits.specs.Leaves.{leaves_of}
use Rattle.law_splits.proofs.Splits.{one_each}
use Rattle.law_uses.specs.Choices.{choice_of, choices_of}
use Rattle.law_valid_texts.specs.Faults.{first_there}

-- the first of nine, the last of which comes behind all others
pub nested : (a b c d e f g h i : Option Fault) →
    first_there (a ∷ b ∷ c ∷ d ∷ e ∷ f ∷ g ∷ h ∷ i ∷ []) ≡ or_else (or_else a (or_else b (or_else c (or_else (d) (or_else e (or_else f (or_else g h))))))) i
nested (Some x) b c d e f g h i = refl
nested None (Some x) c d e f g h i = refl
nested None None (Some x) d e f g h i = refl
nested None None None (Some x) e f g h i = refl
nested None None None None (Some x) f g h i = refl
nested None None None None None (Some x) g h i = refl
nested None None None None None None (Some x) h i = refl
nested None None None None None None None (Some x) i = refl
nested None None None None None None None None (Some x) = refl
nested None None None None None None None None None = refl

-- a choice for each unit
pub choice_each : (d : Design) → length (choices_of d) ≡ length (units_of d)
choice_each d = length-map (leaves_of d) (choice_of d (units_of d)) ∙ one_each d 0 (units_of d)
