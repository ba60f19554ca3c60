-- Uses by marks of the same-time set.
use Rattle.std.proofs.Common.{◌≡◌, ℕ, List, [], ◌∷◌, map, Bool, true, false, not, ◌&&◌, ◌||◌, if◌then◌else◌, refl, ap, ◌∙◌, is_none}
use Rattle.std.specs.List.{list_any}
use Rattle.smv_core.specs.declared.flat.Pick.{Pick}
use Rattle.smv_core.specs.declared.flat.Timing.TheVariants.{Now, Before}
use Rattle.law_obligations.specs.Outlines.{Outline, picked_unit}
use Rattle.smv_use_times.specs.declared.uses.Use.{Use}
use Rattle.smv_use_times.specs.declared.uses.Use.TheVariants.{Settled}
use Rattle.smv_use_times.specs.Uses.{use_of, asks, pick_use}

module _ (o : Outline) (among other : ℕ → Bool) where
  -- marks that are the same give the same uses
  pub by_same_marks : ((x : ℕ) → among x ≡ other x) → (picks : List Pick) → map (pick_use o among) picks ≡ map (pick_use o other) picks
  by_same_marks same [] = refl
  by_same_marks same (p ∷ picks) =
      ap (λ b. (if is_none p.layer then Settled Now else if not p.early && b then use_of (picked_unit o p) else Settled Before) ∷ map (pick_use o among) picks) (same p.family)
      ∙ ap (λ l. pick_use o other p ∷ l) (by_same_marks same picks)

  -- a pick that does not ask has the same use by any marks
  unasked : (p : Pick) (b c : Bool) (u : Use) → asks p ≡ false → (if is_none p.layer then Settled Now else if not p.early && b then u else Settled Before) ≡ (if is_none p.layer then Settled Now else if not p.early && c then u else Settled Before)
  unasked p b c u e = at (is_none p.layer) p.early e
    where
      at : (free early : Bool) → not free && not early ≡ false → (if free then Settled Now else if not early && b then u else Settled Before) ≡ (if free then Settled Now else if not early && c then u else Settled Before)
      at true early e = refl
      at false true e = refl
      at false false e = cc

  first-false : (a b : Bool) → (a || b) ≡ false → (a ≡ false) × (b ≡ false)
  first-false true b e = cc
  first-false false b e = (refl, e)

  pub by_any_marks : (picks : List Pick) → list_any asks picks ≡ false → map (pick_use o among) picks ≡ map (pick_use o other) picks
  by_any_marks [] e = refl
  by_any_marks (p ∷ picks) e =
      let both = first-false (asks p) (list_any asks picks) e in
      ap (λ x. x ∷ map (pick_use o among) picks) (unasked p (among p.family) (other p.family) (use_of (picked_unit o p)) both.0)
      ∙ ap (λ l. pick_use o other p ∷ l) (by_any_marks picks both.1)
