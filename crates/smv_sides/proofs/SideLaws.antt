-- Right sides without a set, and conditionals.
use Rattle.std.proofs.Common.{◌≡◌, ℕ, List, map, Option, Some, None, Bool, true, ◌&&◌, ◌||◌, refl, sym, ap, ◌∙◌}
use Rattle.std.specs.List.{list_any}
use Rattle.smv_core.specs.Outcome.{is_true}
use Rattle.smv_core.specs.declared.flat.Simple.{Simple}
use Rattle.smv_core.specs.declared.flat.FlatMember.{FlatMember}
use Rattle.smv_core.specs.declared.flat.FlatExpr.{FlatExpr, Choose, Choose', Each, Each', None', Some', List as ListOf, List', out-FlatExpr, roll-FlatExpr, roll-out-FlatExpr, end_of-FlatExpr, more_of-FlatExpr, items-the_row-FlatMember, items_shown-the_row-FlatMember-3}
use Rattle.law_obligations.specs.Places.{is_among}
use Rattle.law_obligations.specs.May.{seen, may}
use Rattle.law_obligations.specs.Right.{may_allow, must_allow, is_false, is_neither, chosen_surely}
use Rattle.law_obligations.specs.Mix.{Mix, mix_by}
use Rattle.law_obligations.specs.RightSides.{is_plain, surely_by}
use Rattle.law_obligations.proofs.MixLaws.{or_same}
use Rattle.law_obligations.proofs.RightLaws.{may_plain, must_plain, may_Choose, must_Choose, chosen-mix}
use Rattle.law_obligations.proofs.WalkLaws.{any-branch}
use Rattle.smv_spots.specs.declared.spots.Spot.{Spot}
use Rattle.smv_spots.specs.Spots.{place_in}
use Rattle.smv_problem.specs.declared.problem.Problem.{Problem}
use Rattle.smv_conditions.specs.declared.chances.Chances.{Chances}
use Rattle.smv_conditions.specs.Keep.{KeepsConditions}
use Rattle.smv_conditions.specs.Chances.{mix_at}
use Rattle.smv_cells.specs.declared.cells.Cell.{Cell}
use Rattle.smv_cells.specs.Cells.{AreCellsMade}
use Rattle.smv_cells.specs.Seen.{View, IsSeen, outcomes}
use Rattle.smv_cells.proofs.SeenLaws.{keeps_trans}
use Rattle.smv_outcomes.specs.Outcomes.{mix_in, IsTruthOf}
use Rattle.smv_targets.specs.declared.targets.Target.{Target}
use Rattle.smv_targets.specs.declared.targets.Sense.TheVariants as sense
use Rattle.smv_targets.specs.Targets.{IsTargetMade, IsSo}
use Rattle.smv_targets.proofs.AimLaws.{aim_on}
use Rattle.smv_targets.proofs.OfferedLaws.{and_same}
use Rattle.smv_sides.specs.Sides.{some_means, only_means, may_allowed, must_allowed}

-- what lets rows compute
unfoldable showing : Unit {0}
unfolding roll-FlatExpr out-FlatExpr Rattle.smv_core.specs.declared.flat.FlatExpr.TheBlock.shown-the_row-FlatExpr-0 Rattle.smv_core.specs.declared.flat.FlatExpr.TheBlock.shown-the_row-FlatExpr-1 Rattle.smv_core.specs.declared.flat.FlatExpr.TheBlock.shown-the_row-FlatMember-3 Rattle.smv_core.specs.declared.flat.FlatExpr.TheBlock.shown-the_row-FlatSigned-2 Rattle.smv_core.specs.declared.flat.FlatExpr.TheBlock.hidden-the_row-FlatExpr-0 Rattle.smv_core.specs.declared.flat.FlatExpr.TheBlock.hidden-the_row-FlatExpr-1 Rattle.smv_core.specs.declared.flat.FlatExpr.TheBlock.hidden-the_row-FlatMember-3 Rattle.smv_core.specs.declared.flat.FlatExpr.TheBlock.hidden-the_row-FlatSigned-2 Rattle.smv_core.specs.declared.flat.FlatExpr.TheBlock.shape-the_row-FlatExpr-0 Rattle.smv_core.specs.declared.flat.FlatExpr.TheBlock.shape-the_row-FlatExpr-1 Rattle.smv_core.specs.declared.flat.FlatExpr.TheBlock.shape-the_row-FlatMember-3 Rattle.smv_core.specs.declared.flat.FlatExpr.TheBlock.shape-the_row-FlatSigned-2 denote.Hole.Carrier.roll denote.Hole.Carrier.out denote.Hole.Carrier.shown denote.Hole.Carrier.hidden
showing = tt

list-list : (shape : _) (row : _) (at : ℕ) → ListOf (items-the_row-FlatMember _ row) at ≡ List' shape row at
unfolding showing
list-list shape row at = sym (ap (λ l. ListOf l at) (items_shown-the_row-FlatMember-3 shape row)) ∙ roll-out-FlatExpr (List' shape row at)

-- what is no list, no comprehension and no conditional is plain
pub plain_one : (e : FlatExpr) → ((cond yet other : FlatExpr) → e ≡ Choose cond yet other → ⊥) → ((members : List FlatMember) (at : ℕ) → e ≡ ListOf members at → ⊥) → ((var : ℕ) (over : Simple) (cond : Option FlatExpr) (at : ℕ) → e ≡ Each var over cond at → ⊥) → is_plain e ≡ true
unfolding showing
plain_one (List' shape row at) f g h = absurd (g (items-the_row-FlatMember _ row) at (sym (list-list shape row at)))
plain_one (Each' var over None' at) f g h = absurd (h var over None at (sym (roll-out-FlatExpr (Each' var over None' at))))
plain_one (Each' var over (Some' shape (more_of-FlatExpr cond end_of-FlatExpr)) at) f g h = absurd (h var over (Some cond) at (sym (roll-out-FlatExpr (Each' var over (Some' shape (more_of-FlatExpr cond end_of-FlatExpr)) at))))
plain_one (Choose' c (more_of-FlatExpr cond end_of-FlatExpr) l (more_of-FlatExpr left end_of-FlatExpr) r (more_of-FlatExpr right end_of-FlatExpr)) f g h =
    absurd (f cond left right (sym (roll-out-FlatExpr (Choose' c (more_of-FlatExpr cond end_of-FlatExpr) l (more_of-FlatExpr left end_of-FlatExpr) r (more_of-FlatExpr right end_of-FlatExpr)))))
plain_one _ f g h = refl

module _ {S C : Type 0} (holds : S → C → (ℕ → Bool) → Bool) where
  pub plain_may : (s t : S) (problem : Problem) (cells : List (Cell C)) (x : Target C) (b : List Spot) (e : FlatExpr) (r : C) → is_plain e ≡ true → IsSo holds s t problem cells x (some_means sense.May b e) r → IsSo holds s t problem cells x (may_allowed b e) r
  unfolding IsSo may_allowed some_means outcomes
  plain_may s t problem cells x b e r plain is z aim a = is z aim a ∙ sym (may_plain z.view.world z.view.kept (z.view.state a) z.every e (map (place_in z.view.world.classes) b) (z.value a) plain)

  pub plain_must : (s t : S) (problem : Problem) (cells : List (Cell C)) (x : Target C) (b : List Spot) (e : FlatExpr) (r : C) → is_plain e ≡ true → IsSo holds s t problem cells x (only_means b e) r → IsSo holds s t problem cells x (must_allowed b e) r
  unfolding IsSo must_allowed only_means outcomes
  plain_must s t problem cells x b e r plain is z aim a = is z aim a ∙ sym (must_plain z.view.world z.view.kept (z.view.state a) z.every e (map (place_in z.view.world.classes) b) (z.value a) plain)

  -- a comprehension by its parts
  pub each_may : (s t : S) (problem : Problem) (cells : List (Cell C)) (x : Target C) (b : List Spot) (whole : FlatExpr) (var : ℕ) (over : Simple) (cond shown : Option FlatExpr) (at : ℕ) (r : C) → whole ≡ Each var over cond at → shown ≡ cond →
      ((at : ℕ) → IsSo holds s t problem cells x (may_allowed b (Each var over shown at)) r) → IsSo holds s t problem cells x (may_allowed b whole) r
  unfolding IsSo may_allowed
  each_may s t problem cells x b whole var over cond shown at r e f is z aim a =
      is at z aim a ∙ (ap (λ (c : Option FlatExpr). may_allow z.view.world z.view.kept (z.view.state a) z.every (Each var over c at) (map (place_in z.view.world.classes) b) (z.value a)) f
      ∙ sym (ap (λ (y : FlatExpr). may_allow z.view.world z.view.kept (z.view.state a) z.every y (map (place_in z.view.world.classes) b) (z.value a)) e))

  pub each_must : (s t : S) (problem : Problem) (cells : List (Cell C)) (x : Target C) (b : List Spot) (whole : FlatExpr) (var : ℕ) (over : Simple) (cond shown : Option FlatExpr) (at : ℕ) (r : C) → whole ≡ Each var over cond at → shown ≡ cond →
      ((at : ℕ) → IsSo holds s t problem cells x (must_allowed b (Each var over shown at)) r) → IsSo holds s t problem cells x (must_allowed b whole) r
  unfolding IsSo must_allowed
  each_must s t problem cells x b whole var over cond shown at r e f is z aim a =
      is at z aim a ∙ (ap (λ (c : Option FlatExpr). must_allow z.view.world z.view.kept (z.view.state a) z.every (Each var over c at) (map (place_in z.view.world.classes) b) (z.value a)) f
      ∙ sym (ap (λ (y : FlatExpr). must_allow z.view.world z.view.kept (z.view.state a) z.every y (map (place_in z.view.world.classes) b) (z.value a)) e))

-- both branches of a conditional
module _ {S C : Type 0} (IsMade : S → C → Type 0) (holds : S → C → (ℕ → Bool) → Bool) (room : S → ℕ) where
  pub chosen_may : (s mid next last t : S) (problem : Problem) (cells : List (Cell C)) (x : Target C) (b : List Spot) (whole cond yet other cond' yet' other' : FlatExpr) (m : Chances C) (left right r : C) →
      whole ≡ Choose cond yet other → cond' ≡ cond → yet' ≡ yet → other' ≡ other → KeepsConditions IsMade holds room s mid → KeepsConditions IsMade holds room mid next → KeepsConditions IsMade holds room next last →
      AreCellsMade (IsMade s) cells → IsTargetMade (IsMade s) x → IsMade mid left → IsMade next right →
      ((v : View) → IsSeen holds next problem cells v → IsTruthOf holds last v cond' b m) → IsSo holds s mid problem cells x (may_allowed b yet') left → IsSo holds mid next problem cells x (may_allowed b other') right →
      ((a : ℕ → Bool) → holds t r a ≡ ((holds last m.no a && holds last right a) || ((holds last m.yes a && holds last left a) || (holds last m.neither a && holds last x.always a)))) → IsSo holds s t problem cells x (may_allowed b whole) r
  unfolding IsSo may_allowed IsTruthOf mix_in outcomes mix_at
  chosen_may s mid next last t problem cells x b whole cond yet other cond' yet' other' m left right r e f g h k l j made target left_made right_made truth first second all z aim a =
      let later = aim_on IsMade holds room s mid problem cells x z k made target aim in
      let after = aim_on IsMade holds room s next problem cells x z (keeps_trans IsMade holds room s mid next k l) made target aim in
      let end = aim_on IsMade holds room s last problem cells x z (keeps_trans IsMade holds room s next last (keeps_trans IsMade holds room s mid next k l) j) made target aim in
      let kept = truth z.view after.seen a in
      let A = may_allow z.view.world z.view.kept (z.view.state a) z.every yet (map (place_in z.view.world.classes) b) (z.value a) in
      let B = may_allow z.view.world z.view.kept (z.view.state a) z.every other (map (place_in z.view.world.classes) b) (z.value a) in
      let here = λ (e : FlatExpr). may_allow z.view.world z.view.kept (z.view.state a) z.every e (map (place_in z.view.world.classes) b) (z.value a) in
      let us = may z.view.world z.view.kept (z.view.state a) cond (map (place_in z.view.world.classes) b) in
      all a
      ∙ (or_same (and_same (ap (λ (y : Mix). y.no) kept) (j.same right right_made a ∙ (second z later a ∙ ap here h))) (or_same (and_same (ap (λ (y : Mix). y.yes) kept) (j.same left (l.made left left_made) a ∙ (l.same left left_made a ∙ (first z aim a ∙ ap here g)))) (and_same (ap (λ (y : Mix). y.neither) kept) (end.target.always a ∙ sym (aim.target.of_type a))))
      ∙ (ap (λ (e : FlatExpr). (list_any (λ u. is_false (seen u)) (may z.view.world z.view.kept (z.view.state a) e (map (place_in z.view.world.classes) b)) && B) || ((list_any (λ u. is_true (seen u)) (may z.view.world z.view.kept (z.view.state a) e (map (place_in z.view.world.classes) b)) && A) || (list_any (λ u. is_neither (seen u)) (may z.view.world z.view.kept (z.view.state a) e (map (place_in z.view.world.classes) b)) && is_among z.every (z.value a)))) f
      ∙ (sym (any-branch A B (is_among z.every (z.value a)) us)
      ∙ sym (ap here e ∙ may_Choose z.view.world z.view.kept (z.view.state a) z.every cond yet other (map (place_in z.view.world.classes) b) (z.value a)))))

  pub chosen_must : (s mid next last t : S) (problem : Problem) (cells : List (Cell C)) (x : Target C) (b : List Spot) (whole cond yet other cond' yet' other' : FlatExpr) (m : Chances C) (left right r : C) →
      whole ≡ Choose cond yet other → cond' ≡ cond → yet' ≡ yet → other' ≡ other → KeepsConditions IsMade holds room s mid → KeepsConditions IsMade holds room mid next → KeepsConditions IsMade holds room next last →
      AreCellsMade (IsMade s) cells → IsTargetMade (IsMade s) x → IsMade mid left → IsMade next right →
      ((v : View) → IsSeen holds next problem cells v → IsTruthOf holds last v cond' b m) → IsSo holds s mid problem cells x (must_allowed b yet') left → IsSo holds mid next problem cells x (must_allowed b other') right →
      ((a : ℕ → Bool) → holds t r a ≡ surely_by (mix_at holds last a m) (holds last left a) (holds last right a)) → IsSo holds s t problem cells x (must_allowed b whole) r
  unfolding IsSo must_allowed IsTruthOf mix_in outcomes
  chosen_must s mid next last t problem cells x b whole cond yet other cond' yet' other' m left right r e f g h k l j made target left_made right_made truth first second all z aim a =
      let later = aim_on IsMade holds room s mid problem cells x z k made target aim in
      let after = aim_on IsMade holds room s next problem cells x z (keeps_trans IsMade holds room s mid next k l) made target aim in
      let kept = truth z.view after.seen a in
      let here = λ (e : FlatExpr). must_allow z.view.world z.view.kept (z.view.state a) z.every e (map (place_in z.view.world.classes) b) (z.value a) in
      let us = λ (e : FlatExpr). may z.view.world z.view.kept (z.view.state a) e (map (place_in z.view.world.classes) b) in
      all a
      ∙ (ap (λ (y : Mix). surely_by y (holds last left a) (holds last right a)) kept
      ∙ (ap (λ (y : Bool). surely_by (mix_by seen (us cond')) y (holds last right a)) (j.same left (l.made left left_made) a ∙ (l.same left left_made a ∙ (first z aim a ∙ ap here g)))
      ∙ (ap (λ (y : Bool). surely_by (mix_by seen (us cond')) (here yet) y) (j.same right right_made a ∙ (second z later a ∙ ap here h))
      ∙ (ap (λ (e : FlatExpr). surely_by (mix_by seen (us e)) (here yet) (here other)) f
      ∙ (sym (chosen-mix (us cond) (here yet) (here other))
      ∙ sym (ap here e ∙ (must_Choose z.view.world z.view.kept (z.view.state a) z.every cond yet other (map (place_in z.view.world.classes) b) (z.value a) ∙ ap (λ (y : Bool). chosen_surely (map seen (us cond)) (here yet) (here other) y) (aim.target.of_type a))))))))
