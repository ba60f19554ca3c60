-- A text and its translation: what the two designs have in common, and that the one is sound where the other is.
use Rattle.std.specs.Prelude.{◌≡◌, ◌↔◌, not, ℕ, List, [], ◌∷◌, ◌++◌, map, flat_map, filter, Some, None, false, Contains}
use Rattle.std.specs.Str.{bytes_eq}
use Rattle.std.specs.List.{AllByRecursion, list_any}
use Rattle.smv_core.specs.Values.{Name, Value, number, Sizes, range}
use Rattle.smv_core.specs.Types.{Family, types_from}
use Rattle.smv_core.specs.FlatOrder.{TextDesign, design_of, modules, Claimed}
use Rattle.smv_core.specs.Outcome.{State, family_at}
use Rattle.smv_core.specs.Allowed.{scene_at, allowed}
use Rattle.smv_core.specs.Sound.{IsSound, map_of, claim_of as claim_unit, bound, instances, AtEachTime, Holds, IsRun}
use Rattle.smv_core.specs.declared.tree.Text.{Text}
use Rattle.smv_core.specs.declared.tree.Expr.{Expr}
use Rattle.law_formulas.specs.Formulas.{IsSoundOverTimes, Formula, FormulaText, AlwaysHolds, formula_of, of_body}
use Rattle.law_formulas.specs.Laws.{bits_by}
use Rattle.law_formulas.specs.Monitors.{Watched, Around, watched, translation, translated_by, layer_of, names_around}
use Rattle.law_watched_runs.specs.Extended.{statements, is_fresh, IsOld, Extends, is_kept, is_other_layer, EachReadOver}
use Rattle.law_formula_trees.specs.Behind.{AreApart, params_of, values_around, AreChosen}
use Rattle.law_formula_trees.specs.Placed.{Placed, placed, stated, declared_at, entries_of, claim_at, claims_of, watched_claim, IsPlanOf, AreFlat, AreFreshMonitors, AreOldFamilies, AreOldFormals, AreOfOtherLayers, IsAlone, MonitorsFit, IsOldClaim}

-- ---- the two designs, part by part

-- the type names stand for what they stood for
abbrev pub TypesAreKept : Type 0
TypesAreKept = (plan : List (ℕ × Watched)) (layer : Name) (text : Text) → types_from [] (translation plan layer text).tops ≡ types_from [] text.tops

-- without those of fresh names the families are the same
abbrev pub FamiliesAreKept : Type 0
FamiliesAreKept = (fresh : List Name) (plan : List (ℕ × Watched)) (layer : Name) (text : Text) → AreFreshMonitors fresh plan → AreOldFamilies fresh (design_of text).families →
    filter (is_kept fresh) (design_of (translation plan layer text)).families ≡ (design_of text).families

-- without those of the layer the statements are the same
abbrev pub StatementsAreKept : Type 0
StatementsAreKept = (fresh : List Name) (plan : List (ℕ × Watched)) (layer : Name) (text : Text) → AreFreshMonitors fresh plan → AreOldFormals fresh (modules text.tops) → AreOfOtherLayers layer (statements (design_of text)) →
    filter (is_other_layer layer) (statements (design_of (translation plan layer text))) ≡ statements (design_of text)

-- the layer's statements are the definitions of the placed formulas' monitors
abbrev pub LayerIsPlaced : Type 0
LayerIsPlaced = (fresh : List Name) (plan : List (ℕ × Watched)) (layer : Name) (text : Text) → AreFreshMonitors fresh plan → AreOldFormals fresh (modules text.tops) → AreFlat (modules text.tops) → AreOfOtherLayers layer (statements (design_of text)) →
    filter (λ x. not (is_other_layer layer x)) (statements (design_of (translation plan layer text))) ≡ flat_map (stated layer) (placed plan text)

-- the families of fresh names are the placed formulas' monitors
abbrev pub MonitorsArePlaced : Type 0
MonitorsArePlaced = (fresh : List Name) (plan : List (ℕ × Watched)) (layer : Name) (text : Text) → AreFreshMonitors fresh plan → AreOldFamilies fresh (design_of text).families →
    filter (λ f. not (is_kept fresh f)) (design_of (translation plan layer text)).families ≡ flat_map (declared_at (types_from [] text.tops)) (placed plan text)

-- the claims are those of the text in their order, with the translated bodies
abbrev pub ClaimsAreTranslated : Type 0
ClaimsAreTranslated = (plan : List (ℕ × Watched)) (layer : Name) (text : Text) → AreFlat (modules text.tops) →
    claims_of (design_of (translation plan layer text)) ≡ map (λ c. watched_claim (of_body plan c.body) c) (claims_of (design_of text))

-- each claim whose formula is watched is that of a placed formula, under the claim's parameters
abbrev pub ClaimsArePlaced : Type 0
ClaimsArePlaced = (plan : List (ℕ × Watched)) (text : Text) → AreFlat (modules text.tops) →
    AllByRecursion (λ c. (w : Watched) → of_body plan c.body ≡ Some w → (around : Around) × Contains (placed plan text) (c.instance, (around, w)) × (params_of around ≡ c.params)) (claims_of (design_of text))

-- ---- the translation as a design with monitors

-- a layer of placed definitions gives a monitor 0 at first, and then what its definition allows in the state before
abbrev pub LayersDefine : Type 0
LayersDefine =
    (layer : Name) (sizes : Sizes) (e : TextDesign) (all : List Placed) → filter (λ x. not (is_other_layer layer x)) (statements e) ≡ flat_map (stated layer) all →
    (p : Placed) → Contains all p → (entry : Name × Expr) → Contains (entries_of p) entry → IsAlone all p entry → AreApart (names_around p.1.0) →
    (g : Family) → family_at e.families (p.0 ++ entry.0 ∷ []) ≡ Some g → g.value ≡ range 0 1 → (vs : List Value) → AreChosen (values_around (scene_at e sizes p.0) p.1.0) vs →
    ((now : State) → allowed e sizes (Some layer) (record { path = p.0 ++ entry.0 ∷ []; indexes = vs }) None now ≡ number 0 ∷ [])
    × ((before now : State) → allowed e sizes (Some layer) (record { path = p.0 ++ entry.0 ∷ []; indexes = vs }) (Some before) now ≡ bits_by (scene_at e sizes p.0) (bound (params_of p.1.0) vs []) before (names_around p.1.0) entry.1)

-- the design of a translation is that of the text with monitors
abbrev pub TranslationsExtend : Type 0
TranslationsExtend = (fresh : List Name) (plan : List (ℕ × Watched)) (layer : Name) (text : Text) → MonitorsFit fresh plan layer text → (sizes : Sizes) →
    Extends fresh layer sizes (design_of text) (design_of (translation plan layer text))

-- ---- what each unit says in the two designs

-- a formula that is placed holds at each time of each run of a text exactly where its claim does at each time of each run of the translation
abbrev pub PlacedFormulasAreClaims : Type 0
PlacedFormulasAreClaims =
    (fresh : List Name) (plan : List (ℕ × Watched)) (layer : Name) (text : Text) → MonitorsFit fresh plan layer text → (sizes : Sizes) →
    (p : Placed) → Contains (placed plan text) p → EachReadOver (IsOld fresh) p.1.1.formula → AllByRecursion (λ m. list_any (bytes_eq m) (names_around p.1.0) ≡ false) p.1.1.monitors → (name : Name) (vs : List Value) →
    let d = design_of text in let e = design_of (translation plan layer text) in
    AreChosen (values_around (scene_at e sizes p.0) p.1.0) vs →
    ((run : List State) → IsRun d sizes run → AlwaysHolds (scene_at d sizes p.0) (bound (params_of p.1.0) vs []) p.1.1.formula run)
    ↔ ((run : List State) → IsRun e sizes run → AtEachTime (Holds e sizes (claim_unit (claim_at p name)) vs) None run)

-- For every size, the formula of each claim holds at each time of each run of the text exactly where the translated claim does at each time of each run of the translation.
abbrev pub ClaimsMeanFormulas : Type 0
ClaimsMeanFormulas =
    (fresh : List Name) (plan : List (ℕ × Watched)) (layer : Name) (text : Text) → MonitorsFit fresh plan layer text → (sizes : Sizes) → (formulas : List (ℕ × Formula)) → IsPlanOf plan formulas →
    (c : Claimed) → Contains (claims_of (design_of text)) c → IsOldClaim fresh formulas c → (vs : List Value) → Contains (instances (design_of text) sizes (claim_unit c)) vs →
    let d = design_of text in let e = design_of (translation plan layer text) in
    ((run : List State) → IsRun d sizes run → AlwaysHolds (scene_at d sizes c.instance) (bound c.params vs []) (formula_of formulas c) run)
    ↔ ((run : List State) → IsRun e sizes run → AtEachTime (Holds e sizes (claim_unit (watched_claim (of_body plan c.body) c)) vs) None run)

-- a map of another layer, of a family of the text, holds at each time of each run of the text exactly where it does in the translation
abbrev pub MapsMeanTheSame : Type 0
MapsMeanTheSame =
    (fresh : List Name) (plan : List (ℕ × Watched)) (layer : Name) (text : Text) → MonitorsFit fresh plan layer text → (sizes : Sizes) →
    (other : Name) (f : Family) (vs : List Value) → bytes_eq other layer ≡ false → is_fresh fresh f.path ≡ false →
    let d = design_of text in let e = design_of (translation plan layer text) in
    ((run : List State) → IsRun d sizes run → AtEachTime (Holds d sizes (map_of other f) vs) None run)
    ↔ ((run : List State) → IsRun e sizes run → AtEachTime (Holds e sizes (map_of other f) vs) None run)

-- the plan of a text is one of its formulas
abbrev pub PlansAreOfFormulas : Type 0
PlansAreOfFormulas = (formulas : List (ℕ × Formula)) (names : List Name) → IsPlanOf (watched formulas names) formulas

-- The theorem: a text is sound over times exactly where its translation is sound.
abbrev pub TranslationIsExact : Type 0
TranslationIsExact = (names : List Name) (ft : FormulaText) → MonitorsFit names (watched ft.formulas names) (layer_of names ft) ft.text → AllByRecursion (IsOldClaim names ft.formulas) (claims_of (design_of ft.text)) →
    IsSoundOverTimes ft ↔ IsSound (translated_by names ft)
