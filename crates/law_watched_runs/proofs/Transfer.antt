-- Formulas and claims in a design and in one with monitors.
use Rattle.std.proofs.Common.{◌≡◌, ◌<◌, ◌≤◌, ◌⊎◌, inl, inr, ℕ, zero, suc, List, [], ◌∷◌, map, length, Option, Some, None, Bool, true, false, cond, All, Contains, refl, sym, ap, ◌∙◌, subst}
use Rattle.std.specs.List.{AllByRecursion}
use Rattle.std.proofs.lemmas.List.Elements.{All-head, All-tail}
use Rattle.smv_core.specs.Values.{Name, Path, Value, number, Sizes, is_in, truth}
use Rattle.smv_core.specs.FlatOrder.{TextDesign, Claimed}
use Rattle.smv_core.specs.Outcome.{State, Scene, Bindings, outcome, is_true}
use Rattle.smv_core.specs.Allowed.{allowed_by_base, scene_at}
use Rattle.smv_core.specs.Sound.{claim_of as claim_unit, bound, AtEachTime, Holds, IsRun, IsTyped}
use Rattle.smv_core.specs.declared.tree.Expr.{Expr}
use Rattle.law_formulas.specs.Formulas.{Formula, now, next, when, weak, At, HoldsFrom, AlwaysHolds}
use Rattle.law_formulas.specs.Steps.{none_of, HasNames, stepped}
use Rattle.law_formulas.specs.Monitors.{Stage, outset, under, behind, definitions}
use Rattle.law_formulas.specs.Laws.{may_be_one, bits_by, IsBit}
use Rattle.law_watched_runs.specs.Paths.{EachRead}
use Rattle.law_watched_runs.specs.Runs.{here, bindings, vars, path_to, IsDefined, IsWatched, marks_in, IsExact}
use Rattle.law_watched_runs.specs.Extended.{is_fresh, IsOld, greatest, Extends, Agree, with_monitors, extended, EachReadOver, ClaimsSayFormulas}
use Rattle.law_formulas.proofs.Reading.{definitions-keep}
use Rattle.law_watched_runs.proofs.Along.{claims, formulas, marks-has, read-marks}
use Rattle.law_watched_runs.proofs.SamePaths.{outcome-same}
use Rattle.law_watched_runs.proofs.Extended.{signal-same, itself-agrees, restrict}
use Rattle.law_watched_runs.proofs.Extending.{one-in, in-one, old-value, new-value, extend}

-- ---- the same formula in two scenes

module _ (P : Path → Type 0) (b : Bindings) where
  -- in the two states the expressions have the same outcomes
  abbrev AreAlike : Scene → Scene → State → State → Type 0
  AreAlike one two s t = (x : Expr) → EachRead P x → outcome one s x b ≡ outcome two t x b

  abbrev RunsAreAlike : Scene → Scene → List State → List State → Type 0
  RunsAreAlike one two [] [] = Unit {0}
  RunsAreAlike one two (s ∷ run) (t ∷ other) = AreAlike one two s t × RunsAreAlike one two run other
  RunsAreAlike one two _ _ = ⊥

  module _ (one two : Scene) where
    same-length : (run other : List State) → RunsAreAlike one two run other → length other ≡ length run
    same-length [] [] h = refl
    same-length [] (t ∷ other) h = absurd h
    same-length (s ∷ run) [] h = absurd h
    same-length (s ∷ run) (t ∷ other) h = ap suc (same-length run other h.1)

    at-same : (x : Expr) → EachRead P x → (run other : List State) → RunsAreAlike one two run other → (k : ℕ) → At one b x run k → At two b x other k
    at-same x read [] [] h k a = a
    at-same x read [] (t ∷ other) h k a = absurd h
    at-same x read (s ∷ run) [] h k a = absurd h
    at-same x read (s ∷ run) (t ∷ other) h zero a = sym (h.0 x read) ∙ a
    at-same x read (s ∷ run) (t ∷ other) h (suc k) a = at-same x read run other h.1 k a

    holds-same : (f : Formula) → EachReadOver P f → (run other : List State) → RunsAreAlike one two run other → HoldsFrom one b f run → HoldsFrom two b f other
    holds-same (now x) read [] [] h k = tt
    holds-same (now x) read [] (t ∷ other) h k = absurd h
    holds-same (now x) read (s ∷ run) [] h k = absurd h
    holds-same (now x) read (s ∷ run) (t ∷ other) h k = sym (h.0 x read) ∙ k
    holds-same (next at f) read [] [] h k = tt
    holds-same (next at f) read [] (t ∷ other) h k = absurd h
    holds-same (next at f) read (s ∷ run) [] h k = absurd h
    holds-same (next at f) read (s ∷ run) (t ∷ other) h k = holds-same f read run other h.1 k
    holds-same (when c f) read [] [] h k = tt
    holds-same (when c f) read [] (t ∷ other) h k = absurd h
    holds-same (when c f) read (s ∷ run) [] h k = absurd h
    holds-same (when c f) read (s ∷ run) (t ∷ other) h (inl out) = inl (sym (h.0 c read.0) ∙ out)
    holds-same (when c f) read (s ∷ run) (t ∷ other) h (inr k) = inr (holds-same f read.1 (s ∷ run) (t ∷ other) h k)
    holds-same (weak p q) read run other h k = λ u l. by_case u (k u (subst (λ n. u < n) (same-length run other h) l))
      where
        by_case : (u : ℕ) → At one b p run u ⊎ ((v : ℕ) × (v ≤ u) × At one b q run v) → At two b p other u ⊎ ((v : ℕ) × (v ≤ u) × At two b q other v)
        by_case u (inl a) = inl (at-same p read.0 run other h u a)
        by_case u (inr (v, le, a)) = inr (v, le, at-same q read.1 run other h v a)

    always-same : (f : Formula) → EachReadOver P f → (run other : List State) → RunsAreAlike one two run other → AlwaysHolds one b f run → AlwaysHolds two b f other
    always-same f read [] [] h k = tt
    always-same f read [] (t ∷ other) h k = absurd h
    always-same f read (s ∷ run) [] h k = absurd h
    always-same f read (s ∷ run) (t ∷ other) h k = (holds-same f read (s ∷ run) (t ∷ other) h k.0, always-same f read run other h.1 k.1)

-- ---- in the two designs

module _ (fresh : List Name) (layer : Name) (sizes : Sizes) (d e : TextDesign) (extends : Extends fresh layer sizes d e) where
  -- states that agree on what is old have the same outcomes in the second design and in the first
  pub alike : (instance : Path) (b : Bindings) (s t : State) → Agree fresh s t → AreAlike (IsOld fresh) b (scene_at e sizes instance) (scene_at d sizes instance) t s
  alike instance b s t agree x read =
      subst (λ types. outcome (record { types = types; families = e.families; sizes = sizes; instance = instance }) t x b ≡ outcome (scene_at d sizes instance) s x b) (sym extends.types)
      (outcome-same (IsOld fresh) d.types d.families e.families sizes instance s t (λ p old us. signal-same fresh d.families e.families extends.families sizes s t agree instance p old us) x b read)

  alike-back : (instance : Path) (b : Bindings) (s t : State) → Agree fresh s t → AreAlike (IsOld fresh) b (scene_at d sizes instance) (scene_at e sizes instance) s t
  alike-back instance b s t agree x read = sym (alike instance b s t agree x read)

  run-alike : (instance : Path) (b : Bindings) (run : List State) → RunsAreAlike (IsOld fresh) b (scene_at d sizes instance) (scene_at e sizes instance) run run
  run-alike instance b [] = tt
  run-alike instance b (s ∷ run) = (alike-back instance b s s (itself-agrees fresh s), run-alike instance b run)

  extended-alike : (instance : Path) (b : Bindings) (before : Option State) (run : List State) → RunsAreAlike (IsOld fresh) b (scene_at e sizes instance) (scene_at d sizes instance) (extended fresh layer e sizes before run) run
  extended-alike instance b before [] = tt
  extended-alike instance b before (s ∷ run) =
      (alike instance b s (with_monitors fresh layer e sizes before s) (old-value fresh layer sizes d e extends before s), extended-alike instance b (Some (with_monitors fresh layer e sizes before s)) run)

  -- ---- with its monitors a run keeps all in mind

  module _ (c : Claimed) (vs : List Value) where
    abbrev IsFreshMonitor : Name → Type 0
    IsFreshMonitor m = is_fresh fresh (path_to e sizes c vs m) ≡ true

    greatest-true : (l : List Value) → is_true (truth (Some (greatest l))) ≡ is_in l (number 1)
    greatest-true l = by_test (is_in l (number 1))
      where
        by_test : (b : Bool) → is_true (truth (Some (cond b (number 1) (number 0)))) ≡ b
        by_test true = refl
        by_test false = refl

    -- what the layer allows a monitor's element
    by-layer : (m : Name) (x : Expr) (one : IsDefined e sizes c vs m x) → IsFreshMonitor m → (before : Option State) (s : State) (l : List Value) →
        ((now : State) → allowed_by_base e sizes one.family (record { path = one.family.path; indexes = vs }) before now ≡ l) → with_monitors fresh layer e sizes before s (path_to e sizes c vs m) vs ≡ greatest l
    by-layer m x one new before s l allows =
        let is_new : is_fresh fresh one.family.path ≡ true = ap (is_fresh fresh) one.path ∙ new in
        let g = extends.given one.family one.in_design is_new vs one.in_family in
        subst (λ p. with_monitors fresh layer e sizes before s p vs ≡ greatest l) one.path
        (new-value fresh layer sizes d e extends before s one.family.path is_new vs ∙ ap greatest (g.by_layer before s ∙ sym (g.given before s) ∙ allows s))

    first-mark : (m : Name) (x : Expr) → IsDefined e sizes c vs m x → IsFreshMonitor m → (s : State) → is_true (truth (Some (with_monitors fresh layer e sizes None s (path_to e sizes c vs m) vs))) ≡ false
    first-mark m x one new s = ap (λ v. is_true (truth (Some v))) (by-layer m x one new None s (number 0 ∷ []) one.first)

    abbrev Defs : List Name → Stage → Formula → List (Name × Expr)
    Defs names stage f = definitions (vars e sizes c vs) names stage f

    abbrev AllDefined : List (Name × Expr) → Type 0
    AllDefined entries = AllByRecursion (λ entry. IsDefined e sizes c vs entry.0 entry.1) entries

    exact-first : (s : State) (f : Formula) (names : List Name) (stage : Stage) → HasNames f names → AllDefined (Defs names stage f) → AllByRecursion IsFreshMonitor names →
        marks_in e sizes c vs (with_monitors fresh layer e sizes None s) names ≡ none_of f
    exact-first s (now x) [] stage has defined new = refl
    exact-first s (now x) (n ∷ names) stage has defined new = absurd has
    exact-first s (next at f) [] stage has defined new = absurd has
    exact-first s (next at f) (m ∷ names) stage has defined new = rw (first-mark m _ defined.0 new.0 s, exact-first s f names (behind m) has defined.1 new.1) refl
    exact-first s (when x f) names stage has defined new = exact-first s f names (under stage x) has defined new
    exact-first s (weak p q) [] stage has defined new = absurd has
    exact-first s (weak p q) (w ∷ []) stage has defined new = rw (first-mark w _ defined.0 new.0 s) refl
    exact-first s (weak p q) (w ∷ n ∷ names) stage has defined new = absurd has

    abbrev may : State → Expr → Bool
    may before x = may_be_one (here e sizes c vs) (bindings e sizes c vs) before (vars e sizes c vs) x

    abbrev bits : State → Expr → List Value
    bits before x = bits_by (here e sizes c vs) (bindings e sizes c vs) before (vars e sizes c vs) x

    in-may : (l : List Value) (b : Bool) → (Contains l (number 1) → b ≡ true) → Contains l (cond b (number 1) (number 0)) → is_in l (number 1) ≡ b
    in-may l true only some = in-one l some
    in-may l false only some = by_test (is_in l (number 1)) refl
      where
        by_test : (a : Bool) → is_in l (number 1) ≡ a → a ≡ false
        by_test false h = refl
        by_test true h = sym (only (one-in l h))

    later-mark : (before : State) (m : Name) (x : Expr) → IsDefined e sizes c vs m x → IsFreshMonitor m → IsBit (here e sizes c vs) (bindings e sizes c vs) before (vars e sizes c vs) (m, x) → (s : State) →
        is_true (truth (Some (with_monitors fresh layer e sizes (Some before) s (path_to e sizes c vs m) vs))) ≡ may before x
    later-mark before m x one new bit s =
        ap (λ v. is_true (truth (Some v))) (by-layer m x one new (Some before) s (bits before x) (one.later before)) ∙ greatest-true (bits before x) ∙ in-may (bits before x) (may before x) bit.0 bit.1

    exact-later : (before s : State) (f : Formula) (names : List Name) (stage : Stage) → HasNames f names → AllDefined (Defs names stage f) → AllByRecursion IsFreshMonitor names →
        AllByRecursion (IsBit (here e sizes c vs) (bindings e sizes c vs) before (vars e sizes c vs)) (Defs names stage f) →
        marks_in e sizes c vs (with_monitors fresh layer e sizes (Some before) s) names ≡ map (λ entry. may before entry.1) (Defs names stage f)
    exact-later before s (now x) [] stage has defined new bit = refl
    exact-later before s (now x) (n ∷ names) stage has defined new bit = absurd has
    exact-later before s (next at f) [] stage has defined new bit = absurd has
    exact-later before s (next at f) (m ∷ names) stage has defined new bit = rw (later-mark before m _ defined.0 new.0 bit.0 s, exact-later before s f names (behind m) has defined.1 new.1 bit.1) refl
    exact-later before s (when x f) names stage has defined new bit = exact-later before s f names (under stage x) has defined new bit
    exact-later before s (weak p q) [] stage has defined new bit = absurd has
    exact-later before s (weak p q) (w ∷ []) stage has defined new bit = rw (later-mark before w _ defined.0 new.0 bit.0 s) refl
    exact-later before s (weak p q) (w ∷ n ∷ names) stage has defined new bit = absurd has

    module _ (f : Formula) (names : List Name) (watched : IsWatched e sizes c vs f names) (new : AllByRecursion IsFreshMonitor names) where
      exact-step : (before s : State) → IsTyped e sizes before → marks_in e sizes c vs (with_monitors fresh layer e sizes (Some before) s) names ≡ stepped (here e sizes c vs) (bindings e sizes c vs) f true (marks_in e sizes c vs before names) before
      exact-step before s typed =
          let k = definitions-keep (here e sizes c vs) (bindings e sizes c vs) before (vars e sizes c vs) names f (marks_in e sizes c vs before names) (marks-has e sizes c vs f names before watched.named)
          (read-marks e sizes c vs before typed f names outset watched.named watched.defined (watched.reads before)) in
          exact-later before s f names outset watched.named watched.defined new k.1 ∙ k.0

      exact-along : (before : State) (run : List State) → All (IsTyped e sizes) (before ∷ extended fresh layer e sizes (Some before) run) → AtEachTime (IsExact e sizes c vs f names) (Some before) (extended fresh layer e sizes (Some before) run)
      exact-along before [] typed = tt
      exact-along before (s ∷ run) typed = (
        exact-step before s (All-head (IsTyped e sizes) before (extended fresh layer e sizes (Some before) (s ∷ run)) typed),
        exact-along (with_monitors fresh layer e sizes (Some before) s) run (All-tail (IsTyped e sizes) before (extended fresh layer e sizes (Some before) (s ∷ run)) typed),
      )

pub claims-say : ClaimsSayFormulas
claims-say fresh layer sizes d e extends c vs f names watched read new = (
  λ holds run isrun. claims e sizes c vs f names watched run isrun
      (always-same (IsOld fresh) (bound c.params vs []) (scene_at d sizes c.instance) (scene_at e sizes c.instance) f read run run (run-alike fresh layer sizes d e extends c.instance (bound c.params vs []) run)
      (holds run (restrict fresh layer sizes d e extends run isrun))),
  λ holds run isrun. back holds run isrun,
)
  where
    back : ((run : List State) → IsRun e sizes run → AtEachTime (Holds e sizes (claim_unit c) vs) None run) → (run : List State) → IsRun d sizes run → AlwaysHolds (scene_at d sizes c.instance) (bound c.params vs []) f run
    back holds [] isrun = absurd isrun
    back holds (s ∷ run) isrun =
        let new_run : IsRun e sizes (extended fresh layer e sizes None (s ∷ run)) = extend fresh layer sizes d e extends (s ∷ run) isrun in
        always-same (IsOld fresh) (bound c.params vs []) (scene_at e sizes c.instance) (scene_at d sizes c.instance) f read (extended fresh layer e sizes None (s ∷ run)) (s ∷ run)
        (extended-alike fresh layer sizes d e extends c.instance (bound c.params vs []) None (s ∷ run))
        (formulas e sizes c vs f names watched (extended fresh layer e sizes None (s ∷ run)) new_run
        (exact-first fresh layer sizes d e extends c vs s f names outset watched.named watched.defined new, exact-along fresh layer sizes d e extends c vs f names watched new (with_monitors fresh layer e sizes None s) run new_run.0)
        (holds (extended fresh layer e sizes None (s ∷ run)) new_run))
