-- Each formula of a text and its claim in the translation.
use Rattle.law_formula_trees.proofs.Lists.{each-at}
use Rattle.law_watched_runs.proofs.Extended.{none-some}
use Rattle.smv_core.specs.declared.tree.Text.{Text}
use Rattle.smv_core.specs.declared.tree.TypeExpr.{TypeExpr}
use Rattle.std.proofs.lemmas.Slice.Eq.{bytes_eq-Decides}
use Rattle.std.proofs.lemmas.Bool.{or_from}
use Rattle.law_lists.proofs.Each.{each_weaker}
use Rattle.law_lists.proofs.Options.{some_is}
use Rattle.law_lists.proofs.Booleans.{impossible}
use Rattle.std.proofs.Common.{◌≡◌, ◌↔◌, ℕ, List, [], ◌∷◌, map, Option, Some, None, option_map, Bool, true, false, Contains, nat_eq, cond, take, drop, refl, sym, ap, ◌∙◌, subst}
use Rattle.std.specs.Str.{bytes_eq}
use Rattle.std.specs.List.{AllByRecursion, list_any}
use Rattle.smv_core.specs.Values.{Name, Value, Sizes}
use Rattle.smv_core.specs.Types.{types_from, values_over}
use Rattle.smv_core.specs.FlatOrder.{TextDesign, design_of, Claimed}
use Rattle.smv_core.specs.Outcome.{State}
use Rattle.smv_core.specs.Allowed.{scene_at}
use Rattle.smv_core.specs.Sound.{claim_of as claim_unit, bound, AtEachTime, Holds, IsRun, instances}
use Rattle.smv_core.specs.declared.tree.Expr.{Expr, Number}
use Rattle.law_formulas.specs.Formulas.{Formula, now, AlwaysHolds, at_place, of_body, or_body, formula_of}
use Rattle.law_formulas.specs.Monitors.{watched, Watched, Around, outset, claim_of, names_around, translation, or_none}
use Rattle.law_formula_trees.specs.Behind.{params_of, values_around, AreChosen}
use Rattle.law_watched_runs.specs.Extended.{IsOld, EachReadOver}
use Rattle.law_formula_trees.specs.Placed.{claims_of, claim_at, watched_claim, placed, MonitorsFit, IsOldClaim, AreFreshMonitors, IsPlanOf}
use Rattle.law_formula_trees.specs.Trees.{ClaimsMeanFormulas, PlansAreOfFormulas, MapsMeanTheSame}
use Rattle.law_formulas.specs.Steps.{places_of}
use Rattle.law_watched_runs.proofs.Maps.{maps-kept}
use Rattle.law_watched_runs.proofs.Transfer.{claims-say}
use Rattle.law_formula_trees.proofs.SameTrees.{types-kept}
use Rattle.law_formula_trees.proofs.PlacedClaims.{claims-placed}
use Rattle.law_formula_trees.proofs.Joined.{names-of, choices-chosen, extends, placed-claims, body-of}

-- the types of the binders, over which the parameters' values are chosen
params-values : (types : _) (sizes : Sizes) (around : Around) → map (λ (name, over). values_over types sizes over) (params_of around) ≡ map (λ binder. values_over types sizes binder.1) around
params-values types sizes [] = refl
params-values types sizes (binder ∷ around) = ap (λ l. values_over types sizes binder.1 ∷ l) (params-values types sizes around)

-- a fresh name is none of names that are not fresh
no-param : (fresh : List Name) (m : Name) → list_any (bytes_eq m) fresh ≡ true → (params : List (Name × TypeExpr)) → AllByRecursion (λ param. list_any (bytes_eq param.0) fresh ≡ false) params → list_any (bytes_eq m) (map (λ param. param.0) params) ≡ false
no-param fresh m new [] old = refl
no-param fresh m new (param ∷ params) old = or_from (bytes_eq m param.0) (list_any (bytes_eq m) (map (λ p. p.0) params)) (differ (bytes_eq m param.0) refl) (no-param fresh m new params old.1)
  where
    differ : (b : Bool) → bytes_eq m param.0 ≡ b → b ≡ false
    differ false h = refl
    differ true h = impossible (list_any (bytes_eq m) fresh) new (ap (λ n. list_any (bytes_eq n) fresh) ((bytes_eq-Decides m param.0).0 h) ∙ old.0)

-- the monitors of what the plan has for a body have fresh names
fresh-at : (fresh : List Name) (plan : List (ℕ × Watched)) → AreFreshMonitors fresh plan → (body : Expr) (w : Watched) → of_body plan body ≡ Some w → AllByRecursion (λ m. list_any (bytes_eq m) fresh ≡ true) w.monitors
fresh-at fresh plan all body w h = found (of_body plan body) h (body-of (λ u. AllByRecursion (λ m. list_any (bytes_eq m) fresh ≡ true) u.monitors) plan all [] body)
  where
    found : (o : Option Watched) → o ≡ Some w → AllByRecursion (λ (x : Around × Watched). AllByRecursion (λ m. list_any (bytes_eq m) fresh ≡ true) x.1.monitors) (or_none [] o) → AllByRecursion (λ m. list_any (bytes_eq m) fresh ≡ true) w.monitors
    found (Some u) k x = subst (λ v. AllByRecursion (λ m. list_any (bytes_eq m) fresh ≡ true) v.monitors) (some_is k) x.0
    found None k x = none-some w k

module _ (fresh : List Name) (plan : List (ℕ × Watched)) (layer : Name) (text : Text) (fits : MonitorsFit fresh plan layer text) (sizes : Sizes) (formulas : List (ℕ × Formula)) (planned : IsPlanOf plan formulas)
    (c : Claimed) (has : Contains (claims_of (design_of text)) c) (old : IsOldClaim fresh formulas c) (vs : List Value) (chosen : Contains (instances (design_of text) sizes (claim_unit c)) vs) where
  abbrev d : TextDesign
  d = design_of text

  abbrev e : TextDesign
  e = design_of (translation plan layer text)

  -- the formula under these parameters, and this claim
  abbrev MeansIn : List (Name × TypeExpr) → Formula → Claimed → Type 0
  MeansIn params f claim = ((run : List State) → IsRun d sizes run → AlwaysHolds (scene_at d sizes c.instance) (bound params vs []) f run) ↔ ((run : List State) → IsRun e sizes run → AtEachTime (Holds e sizes (claim_unit claim) vs) None run)

  unchanged : of_body plan c.body ≡ None → MeansIn c.params (formula_of formulas c) c
  unchanged h =
      let plain : formula_of formulas c ≡ now c.body = ap (or_body c.body) (sym (planned c.body) ∙ ap (option_map (λ w. w.formula)) h) in
      subst (λ f. MeansIn c.params f c) (sym plain)
      (claims-say fresh layer sizes d e (extends fresh plan layer text fits sizes) c vs (now c.body) [] (record { named = tt; body = refl; reads = λ s. tt; defined = tt }) (subst (EachReadOver (IsOld fresh)) plain old.reads) tt)

  changed : (w : Watched) → of_body plan c.body ≡ Some w → MeansIn c.params (formula_of formulas c) (watched_claim (Some w) c)
  changed w h =
      let r = each-at (λ (x : Claimed). (u : Watched) → of_body plan x.body ≡ Some u → (around : Around) × Contains (placed plan text) (x.instance, (around, u)) × (params_of around ≡ x.params)) (claims_of d) c (claims-placed plan text fits.flat) has w h in
      let around : Around = r.0 in
      let watched : formula_of formulas c ≡ w.formula = ap (or_body c.body) (sym (planned c.body) ∙ ap (option_map (λ u. u.formula)) h) in
      let names : names_around around ≡ map (λ param. param.0) c.params = sym (names-of around) ∙ ap (map (λ param. param.0)) r.2 in
      let same_claim : claim_at (c.instance, (around, w)) c.name ≡ watched_claim (Some w) c =
      ap (λ l. record { instance = c.instance; name = c.name; params = params_of around; body = claim_of l w.monitors outset w.formula }) names
      ∙ ap (λ params. record { instance = c.instance; name = c.name; params = params; body = claim_of (map (λ param. param.0) c.params) w.monitors outset w.formula }) r.2 in
      let in_types : AreChosen (values_around (scene_at d sizes c.instance) around) vs =
      subst (λ l. AreChosen l vs) (ap (map (λ (name, over). values_over (types_from [] text.tops) sizes over)) (sym r.2) ∙ params-values (types_from [] text.tops) sizes around)
      (choices-chosen (map (λ (name, over). values_over (types_from [] text.tops) sizes over) c.params) vs chosen) in
      let in_translation : AreChosen (values_around (scene_at e sizes c.instance) around) vs =
      subst (λ types. AreChosen (map (λ binder. values_over types sizes binder.1) around) vs) (sym (types-kept plan layer text)) in_types in
      let unbound : AllByRecursion (λ m. list_any (bytes_eq m) (map (λ param. param.0) c.params) ≡ false) w.monitors =
      each_weaker (λ m. list_any (bytes_eq m) fresh ≡ true) (λ m. list_any (bytes_eq m) (map (λ param. param.0) c.params) ≡ false) (λ m new. no-param fresh m new c.params old.params) w.monitors (fresh-at fresh plan fits.monitors c.body w h) in
      subst (λ f. MeansIn c.params f (watched_claim (Some w) c)) (sym watched)
      (subst (MeansIn c.params w.formula) same_claim
      (subst (λ params. MeansIn params w.formula (claim_at (c.instance, (around, w)) c.name)) r.2
      (placed-claims fresh plan layer text fits sizes (c.instance, (around, w)) r.1 (subst (EachReadOver (IsOld fresh)) watched old.reads)
      (subst (λ l. AllByRecursion (λ m. list_any (bytes_eq m) l ≡ false) w.monitors) (sym names) unbound) c.name vs in_translation)))

  by_plan : (o : Option Watched) → of_body plan c.body ≡ o → MeansIn c.params (formula_of formulas c) (watched_claim o c)
  by_plan None h = unchanged h
  by_plan (Some w) h = changed w h

pub meant : ClaimsMeanFormulas
meant fresh plan layer text fits sizes formulas planned c has old vs chosen = by_plan fresh plan layer text fits sizes formulas planned c has old vs chosen (of_body plan c.body) refl

place-planned : (formulas : List (ℕ × Formula)) (names : List Name) (at : ℕ) → option_map (λ (w : Watched). w.formula) (at_place (watched formulas names) at) ≡ at_place formulas at
place-planned [] names at = refl
place-planned ((place, f) ∷ more) names at = by_test (nat_eq place at) (place-planned more (drop (places_of f) names) at)
  where
    by_test : (b : Bool) → option_map (λ (w : Watched). w.formula) (at_place (watched more (drop (places_of f) names)) at) ≡ at_place more at →
        option_map (λ (w : Watched). w.formula) (cond b (Some (record { formula = f; monitors = take (places_of f) names })) (at_place (watched more (drop (places_of f) names)) at)) ≡ cond b (Some f) (at_place more at)
    by_test true h = refl
    by_test false h = h

pub plans-of : PlansAreOfFormulas
plans-of formulas names (Number value at) = place-planned formulas names at
plans-of formulas names body = refl

pub maps-meant : MapsMeanTheSame
maps-meant fresh plan layer text fits sizes other f vs apart old = maps-kept fresh layer sizes (design_of text) (design_of (translation plan layer text)) (extends fresh plan layer text fits sizes) other f vs apart old
