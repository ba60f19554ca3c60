-- The design of a translation is that of the text with monitors.
use Rattle.law_formula_trees.proofs.Lists.{contains-flat, contains-map, each-at, each-mapped, each-member, each-passed, each-two, each-unit, filter-contains, find-some, flat-contains, map-contains, unfiltered}
use Rattle.law_lists.proofs.Each.{each_weaker, each_append, each_flat_map}
use Rattle.law_lists.proofs.Booleans.{impossible, right_of}
use Rattle.std.proofs.Common.{◌≡◌, ◌↔◌, ℕ, zero, suc, List, [], ◌∷◌, ◌++◌, map, filter, find, length, Option, Some, None, option_map, Bool, true, false, not, ◌&&◌, ◌||◌, cond, Contains, is_some, refl, sym, ap, ◌∙◌, subst, append-nil, arith, true≢false, nat_eq, ne_eqb, unwrap_or}
use Rattle.std.specs.Str.{bytes_eq}
use Rattle.std.specs.List.{AllByRecursion, list_any, flat_map}
use Rattle.smv_core.specs.Values.{Name, Path, Value, number, constant, scalar, ordinal, Simple, Sizes, Outcome, range, values_of, all_defined}
use Rattle.smv_core.specs.Types.{Types, Family, Shape, shape_of, simple, array_of, indexed, types_from, values_or_none}
use Rattle.smv_core.specs.FlatOrder.{Body, body_of, modules, main, Met, TextDesign, Said, design_of, declared_as}
use Rattle.smv_core.specs.Outcome.{State, Scene, Bindings, fields_of, outcome, fit, family_at, same_path}
use Rattle.smv_core.specs.Assignments.{Assigned, Around as Bindable, any, assignments}
use Rattle.smv_core.specs.Allowed.{assignments_in, is_defined_by, layer_that_defines, base_of, allowed, allowed_by_base, scene_at}
use Rattle.smv_core.specs.Sound.{claim_of as claim_unit, choices, indexes_in, bound, AtEachTime, Holds, IsRun}
use Rattle.smv_core.specs.declared.tree.Role.TheVariants.{Abstract}
use Rattle.smv_core.specs.declared.tree.Kind.{Kind}
use Rattle.smv_core.specs.declared.tree.Kind.TheVariants.{Init, Next}
use Rattle.smv_core.specs.declared.tree.Expr.{Expr, Number, Signal, And, Or, Not}
use Rattle.smv_core.specs.declared.tree.Stmt.{Assign}
use Rattle.smv_core.specs.declared.tree.Text.{Text}
use Rattle.law_formulas.specs.Formulas.{Formula, now, next, when, weak, AlwaysHolds, at_place, of_body}
use Rattle.law_formulas.specs.Steps.{HasNames}
use Rattle.law_formulas.specs.Monitors.{Watched, Around, Stage, outset, under, behind, names_around, type_of, within, word_of, path_of, monitor, started, reached, lasting, definitions, claim_of, or_none, watched_in, watched_among, translation}
use Rattle.smv_core.specs.declared.tree.Item.{Item, Declare, Instance, Layer, Forall', Block', Claim, Split, Using, Act, Row_of-Item, end_of-Item, more_of-Item}
use Rattle.law_formulas.specs.Laws.{bits_by}
use Rattle.smv_core.specs.Grammar.{chain, named}
use Rattle.smv_core.specs.declared.tree.Part.{At}
use Rattle.law_formula_trees.proofs.SameTrees.{fresh-end}
use Rattle.smv_core.specs.declared.tree.Word.{Word}
use Rattle.smv_core.specs.declared.tree.TypeExpr.{TypeExpr}
use Rattle.law_formula_trees.specs.Behind.{params_of, values_around, AreChosen}
use Rattle.law_watched_runs.specs.Extended.{statements, is_fresh, IsOld, EachReadOver, is_kept, is_other_layer, IsGiven, Extends, greatest}
use Rattle.law_formula_trees.specs.Placed.{Placed, placed_item, placed_in, stated, declared_at, entries_of, AreAlone, claim_at, MonitorsFit}
use Rattle.law_formula_trees.specs.Trees.{TranslationsExtend, PlacedFormulasAreClaims}
use Rattle.law_watched_runs.specs.Runs.{IsDefined, IsWatched}
use Rattle.law_places.proofs.Computing.{computing}
use Rattle.law_watched_runs.proofs.Extended.{path-equal, found-path, find-filter, find-among, by_layer_of}
use Rattle.law_formula_trees.proofs.Within.{path-itself, monitor-read}
use Rattle.law_watched_runs.proofs.Transfer.{claims-say}
use Rattle.law_formula_trees.proofs.SameTrees.{types-kept, families-kept}
use Rattle.law_formula_trees.proofs.SameStatements.{statements-kept}
use Rattle.law_formula_trees.proofs.PlacedStatements.{layer-placed}
use Rattle.law_formula_trees.proofs.PlacedFamilies.{monitors-placed}
use Rattle.law_formula_trees.proofs.PlacedLayer.{each-said, told-there, told, layers-define}

-- ---- lists

pub choices-chosen : (lists : List (List Value)) (vs : List Value) → Contains (choices lists) vs → AreChosen lists vs
choices-chosen [] [] c = tt
choices-chosen [] (v ∷ vs) (zero, l, e) = absurd (differ e)
  where
    differ : [] ≡ v ∷ vs → ⊥
    differ h = cc
choices-chosen [] (v ∷ vs) (suc k, l, e) = absurd (omega (arith, l))
choices-chosen (values ∷ more) [] c =
    let r = flat-contains (λ v. map (λ us. v ∷ us) (choices more)) values [] c in
    let q = map-contains (λ us. r.0 ∷ us) (choices more) [] r.2 in absurd (differ r.0 q.0 q.2)
  where
    differ : (v : Value) (us : List Value) → v ∷ us ≡ [] → ⊥
    differ v us h = cc
choices-chosen (values ∷ more) (v ∷ vs) c =
    let r = flat-contains (λ w. map (λ us. w ∷ us) (choices more)) values (v ∷ vs) c in
    let q = map-contains (λ us. r.0 ∷ us) (choices more) (v ∷ vs) r.2 in
    (subst (Contains values) (heads r.0 v q.0 vs q.2) r.1, choices-chosen more vs (subst (Contains (choices more)) (tails r.0 v q.0 vs q.2) q.1))
  where
    heads : (a b : Value) (us ws : List Value) → a ∷ us ≡ b ∷ ws → a ≡ b
    heads a b us ws h = cc

    tails : (a b : Value) (us ws : List Value) → a ∷ us ≡ b ∷ ws → us ≡ ws
    tails a b us ws h = cc

-- ---- the families of a monitor

pub record IsMonitor (types : Types) (here : Path) (m : Name) (around : Around) (f : Family) : Type 0 where
  pub path : f.path ≡ here ++ m ∷ []
  pub value : f.value ≡ range 0 1
  pub is_abstract : f.is_abstract ≡ true
  pub over : (sizes : Sizes) → map (values_of sizes) f.over ≡ map (λ binder. values_or_none sizes (simple types binder.1)) around

module _ (types : Types) where
  abbrev IsBitOver : Around → Family → Type 0
  IsBitOver around f = (f.path ≡ []) × (f.value ≡ range 0 1) × ((sizes : Sizes) → map (values_of sizes) f.over ≡ map (λ binder. values_or_none sizes (simple types binder.1)) around)

  indexed-bits : (binder : Word × TypeExpr) (around : Around) (t : Simple) → simple types (binder.1) ≡ Some t → (shape : Shape) → AllByRecursion (IsBitOver around) shape → AllByRecursion (IsBitOver (binder ∷ around)) (map (indexed t) shape)
  indexed-bits binder around t h [] all = tt
  indexed-bits binder around t h (f ∷ shape) all =
      ((all.0.0, all.0.1, λ sizes. two _ _ _ _ (sym (ap (values_or_none sizes) h)) (all.0.2 sizes)), indexed-bits binder around t h shape all.1)
    where
      two : (a b : List Value) (us ws : List (List Value)) → a ≡ b → us ≡ ws → a ∷ us ≡ b ∷ ws
      two a b us ws e k = rw (e, k) refl

  type-bits : (around : Around) → AllByRecursion (IsBitOver around) (shape_of types (type_of around))
  unfolding computing
  type-bits [] = ((refl, refl, λ sizes. refl), tt)
  type-bits (binder ∷ around) = by_simple (simple types binder.1) refl (type-bits around)
    where
      by_simple : (o : Option Simple) → simple types binder.1 ≡ o → AllByRecursion (IsBitOver around) (shape_of types (type_of around)) → AllByRecursion (IsBitOver (binder ∷ around)) (array_of o (shape_of types (type_of around)))
      by_simple None h all = tt
      by_simple (Some t) h all = indexed-bits binder around t h (shape_of types (type_of around)) all

  declared-monitors : (here : Path) (m : Name) (around : Around) (shape : Shape) → AllByRecursion (IsBitOver around) shape → AllByRecursion (IsMonitor types here m around) (map (declared_as Abstract (here ++ m ∷ [])) shape)
  declared-monitors here m around [] all = tt
  declared-monitors here m around (f ∷ shape) all =
      (record { path = ap (λ p. (here ++ m ∷ []) ++ p) all.0.0 ∙ append-nil (here ++ m ∷ []); value = all.0.1; is_abstract = refl; over = all.0.2 }, declared-monitors here m around shape all.1)

-- ---- names and definitions

abbrev entry_with : Name → Expr → Name × Expr
entry_with m x = (m, x)

-- each monitor has a definition
has-definition : (vars : List Name) (f : Formula) (names : List Name) (stage : Stage) → HasNames f names → (m : Name) → Contains names m → (x : Expr) × Contains (definitions vars names stage f) (m, x)
has-definition vars (now e) [] stage has m (k, l, e') = absurd (omega (arith, l))
has-definition vars (now e) (n ∷ names) stage has m c = absurd has
has-definition vars (next at f) [] stage has m c = absurd has
has-definition vars (next at f) (n ∷ names) stage has m (zero, l, e) = (reached vars stage, (0, omega arith, ap (λ o. entry_with o (reached vars stage)) e))
has-definition vars (next at f) (n ∷ names) stage has m (suc k, l, e) =
    let r = has-definition vars f names (behind n) has m (k, omega (arith, l), e) in (r.0, (suc r.1.0, omega (arith, r.1.1), r.1.2))
has-definition vars (when c f) names stage has m there = has-definition vars f names (under stage c) has m there
has-definition vars (weak p q) [] stage has m c = absurd has
has-definition vars (weak p q) (w ∷ []) stage has m (zero, l, e) = (And (Or (reached vars stage ∷ monitor vars w ∷ []) ∷ Not q 0 ∷ []), (0, omega arith, ap (λ o. entry_with o (And (Or (reached vars stage ∷ monitor vars w ∷ []) ∷ Not q 0 ∷ []))) e))
has-definition vars (weak p q) (w ∷ []) stage has m (suc k, l, e) = absurd (omega (arith, l))
has-definition vars (weak p q) (w ∷ n ∷ names) stage has m c = absurd has

pub definitions-fresh : (P : Name → Type 0) (vars : List Name) (f : Formula) (names : List Name) (stage : Stage) → AllByRecursion P names → AllByRecursion (λ entry. P entry.0) (definitions vars names stage f)
definitions-fresh P vars (now e) names stage all = tt
definitions-fresh P vars (next at f) [] stage all = tt
definitions-fresh P vars (next at f) (m ∷ names) stage all = (all.0, definitions-fresh P vars f names (behind m) all.1)
definitions-fresh P vars (when c f) names stage all = definitions-fresh P vars f names (under stage c) all
definitions-fresh P vars (weak p q) [] stage all = tt
definitions-fresh P vars (weak p q) (w ∷ names) stage all = (all.0, tt)

-- each definition allows the outcome, or each bit
module _ (scene : Scene) (b : Bindings) (s : State) (vars : List Name) where
  abbrev IsFitted : Expr → Type 0
  IsFitted e = bits_by scene b s vars e ≡ fit (number 0 ∷ number 1 ∷ []) (outcome scene s e b ∷ [])

  fitted-reached : (stage : Stage) → IsFitted (reached vars stage)
  fitted-reached stage = by_parts stage.start stage.conditions
    where
      by_parts : (start : Option Name) (cs : List Expr) → IsFitted (chain And (started vars start) (map lasting cs))
      by_parts None [] = refl
      by_parts (Some m) [] = refl
      by_parts start (c ∷ cs) = refl

  fitted : (f : Formula) (names : List Name) (stage : Stage) → AllByRecursion (λ entry. IsFitted entry.1) (definitions vars names stage f)
  fitted (now e) names stage = tt
  fitted (next at f) [] stage = tt
  fitted (next at f) (m ∷ names) stage = (fitted-reached stage, fitted f names (behind m))
  fitted (when c f) names stage = fitted f names (under stage c)
  fitted (weak p q) [] stage = tt
  fitted (weak p q) (w ∷ names) stage = (refl, tt)

greatest-fits : (o : Outcome) → Contains (fit (number 0 ∷ number 1 ∷ []) (o ∷ [])) (greatest (fit (number 0 ∷ number 1 ∷ []) (o ∷ [])))
greatest-fits None = (1, omega arith, refl)
greatest-fits (Some (number zero)) = (0, omega arith, refl)
greatest-fits (Some (number (suc zero))) = (0, omega arith, refl)
greatest-fits (Some (number (suc (suc n)))) = by_tests (nat_eq (suc (suc n)) 0) (nat_eq (suc (suc n)) 1) (ne_eqb (suc (suc n)) 0 (λ e. omega (arith, e))) (ne_eqb (suc (suc n)) 1 (λ e. omega (arith, e)))
  where
    values : Bool → Bool → List Value
    values a b = unwrap_or (all_defined (cond (a || (b || false)) (Some (number (suc (suc n)))) None ∷ [])) (number 0 ∷ number 1 ∷ [])

    by_tests : (a b : Bool) → a ≡ false → b ≡ false → Contains (values a b) (greatest (values a b))
    by_tests false false h k = (1, omega arith, refl)
    by_tests true b h k = absurd (true≢false h)
    by_tests false true h k = absurd (true≢false k)
greatest-fits (Some (constant a)) = (1, omega arith, refl)
greatest-fits (Some (scalar t n)) = (1, omega arith, refl)
greatest-fits (Some (ordinal t n)) = (1, omega arith, refl)

-- what a definition behind binders assigns
assigned-path : (P : Path → Type 0) (instance : Path) (which : Kind) (around : Around) (m : Name) (names : List Name) (value : Expr) (bs : Bindable) → P (instance ++ m ∷ []) →
    AllByRecursion (λ (a : Assigned). P a.path) (assignments instance (within around (Assign which (path_of names m) value 0)) bs)
unfolding computing
assigned-path P instance which [] m names value bs h = (subst (λ p. P (instance ++ m ∷ p)) (sym (no-fields names)) h, tt)
  where
    no-fields : (list : List Name) → fields_of (map (λ var. At (Signal (named (word_of var) []))) list) ≡ []
    no-fields [] = refl
    no-fields (n ∷ list) = no-fields list
assigned-path P instance which (binder ∷ around) m names value bs h = assigned-path P instance which around m names value ((binder.0.name, any) ∷ bs) h

assigned-hit : (instance : Path) (which : Kind) (around : Around) (m : Name) (names : List Name) (value : Expr) (bs : Bindable) →
    list_any (λ (a : Assigned). same_path a.path (instance ++ m ∷ [])) (assignments instance (within around (Assign which (path_of names m) value 0)) bs) ≡ true
unfolding computing
assigned-hit instance which [] m names value bs = ap (λ p. same_path (instance ++ m ∷ p) (instance ++ m ∷ []) || false) (no-fields names) ∙ ap (λ b. b || false) (path-itself (instance ++ m ∷ []))
  where
    no-fields : (list : List Name) → fields_of (map (λ var. At (Signal (named (word_of var) []))) list) ≡ []
    no-fields [] = refl
    no-fields (n ∷ list) = no-fields list
assigned-hit instance which (binder ∷ around) m names value bs = assigned-hit instance which around m names value ((binder.0.name, any) ∷ bs)

module _ (fresh : List Name) (layer : Name) (sizes : Sizes) (types : Types) (families families' : List Family) (met met' : List Met) (placed : List Placed)
    (same-families : filter (is_kept fresh) families' ≡ families)
    (same-said : filter (is_other_layer layer) (statements (record { types = types; families = families'; met = met' })) ≡ statements (record { types = types; families = families; met = met }))
    (left : AllByRecursion (λ x. AllByRecursion (λ (a : Assigned). is_fresh fresh a.path ≡ false) (assignments_in x)) (statements (record { types = types; families = families; met = met })))
    (own-said : filter (λ x. not (is_other_layer layer x)) (statements (record { types = types; families = families'; met = met' })) ≡ flat_map (stated layer) placed)
    (own-families : filter (λ f. not (is_kept fresh f)) families' ≡ flat_map (declared_at types) placed)
    (alone : AreAlone placed)
    (named-all : (p : Placed) → Contains placed p → HasNames p.1.1.formula p.1.1.monitors)
    (fresh-all : (p : Placed) → Contains placed p → AllByRecursion (λ m. list_any (bytes_eq m) fresh ≡ true) p.1.1.monitors) where
  abbrev e : TextDesign
  e = record { types = types; families = families'; met = met' }

  fresh-entry : (p : Placed) → Contains placed p → (entry : Name × Expr) → Contains (entries_of p) entry → is_fresh fresh (p.0 ++ entry.0 ∷ []) ≡ true
  fresh-entry p has entry c =
      fresh-end fresh p.0 entry.0 (each-at (λ x. list_any (bytes_eq x.0) fresh ≡ true) (entries_of p) entry (definitions-fresh (λ m. list_any (bytes_eq m) fresh ≡ true) (names_around p.1.0) p.1.1.formula p.1.1.monitors outset (fresh-all p has)) c)

  abbrev AssignsFresh : Said → Type 0
  AssignsFresh x = AllByRecursion (λ (a : Assigned). is_fresh fresh a.path ≡ true) (assignments_in x)

  own : AllByRecursion (λ x. is_other_layer layer x ≡ false → AssignsFresh x) (statements e)
  own = each_weaker (λ x. not (is_other_layer layer x) ≡ true → AssignsFresh x) (λ x. is_other_layer layer x ≡ false → AssignsFresh x) (λ x h k. h (ap not k)) (statements e)
      (each-passed AssignsFresh (λ x. not (is_other_layer layer x)) (statements e) (subst (AllByRecursion AssignsFresh) (sym own-said)
      (each-said layer sizes e placed own-said AssignsFresh (λ p has entry c. (
        assigned-path (λ q. is_fresh fresh q ≡ true) p.0 Init p.1.0 entry.0 (names_around p.1.0) (Number 0 0) [] (fresh-entry p has entry c),
        assigned-path (λ q. is_fresh fresh q ≡ true) p.0 Next p.1.0 entry.0 (names_around p.1.0) entry.1 [] (fresh-entry p has entry c),
      )))))

  -- where a family of a fresh name comes from
  abbrev Located : Family → Type 0
  Located f = (p : Placed) × Contains placed p × (m : Name) × Contains p.1.1.monitors m × IsMonitor types p.0 m p.1.0 f

  locate : (f : Family) → Contains families' f → is_fresh fresh f.path ≡ true → Located f
  locate f has new =
      let r = flat-contains (declared_at types) placed f (subst (λ l. Contains l f) own-families (filter-contains (λ g. not (is_kept fresh g)) families' f has (ap (λ b. not (not b)) new))) in
      let p : Placed = r.0 in
      let q = flat-contains (λ m. map (declared_as Abstract (p.0 ++ m ∷ [])) (shape_of types (type_of p.1.0))) p.1.1.monitors f r.2 in
      (p, r.1, q.0, q.1, each-at (IsMonitor types p.0 q.0 p.1.0) (map (declared_as Abstract (p.0 ++ q.0 ∷ [])) (shape_of types (type_of p.1.0))) f (declared-monitors types p.0 q.0 p.1.0 (shape_of types (type_of p.1.0)) (type-bits types p.1.0)) q.2)

  bits : (f : Family) → Contains families' f → is_fresh fresh f.path ≡ true → f.value ≡ range 0 1
  bits f has new = (locate f has new).4.value

  -- ---- the base definition of a monitor

  abbrev defines : Path → Said → Bool
  defines path act = is_some act.layer && is_defined_by path act

  any-old : (p : Path) (as' : List Assigned) → AllByRecursion (λ (a : Assigned). is_fresh fresh a.path ≡ false) as' → list_any (λ (a : Assigned). same_path a.path p) as' ≡ true → is_fresh fresh p ≡ false
  any-old p [] all h = absurd (true≢false (sym h))
  any-old p (a ∷ more) all h = by_test (same_path a.path p) refl h (λ k. any-old p more all.1 k)
    where
      by_test : (b : Bool) → same_path a.path p ≡ b → b || list_any (λ (x : Assigned). same_path x.path p) more ≡ true → (list_any (λ (x : Assigned). same_path x.path p) more ≡ true → is_fresh fresh p ≡ false) → is_fresh fresh p ≡ false
      by_test true k q rest = ap (is_fresh fresh) (sym (path-equal a.path p k)) ∙ all.0
      by_test false k q rest = rest q

  module _ (p : Placed) (has : Contains placed p) (entry : Name × Expr) (c : Contains (entries_of p) entry) where
    abbrev the_path : Path
    the_path = p.0 ++ entry.0 ∷ []

    there : (y : Said) × (find (defines the_path) (flat_map (stated layer) placed) ≡ Some y)
    there = find-some (defines the_path) (flat_map (stated layer) placed) (told layer sizes e placed own-said Init (Number 0 0) p entry) (told-there layer sizes e placed own-said p has entry c).0
        (assigned-hit p.0 Init p.1.0 entry.0 (names_around p.1.0) (Number 0 0) [])

    others : AllByRecursion (λ x. defines the_path x ≡ true → not (is_other_layer layer x) ≡ true) (statements e)
    others = each_weaker (λ x. is_other_layer layer x ≡ true → AllByRecursion (λ (a : Assigned). is_fresh fresh a.path ≡ false) (assignments_in x)) (λ x. defines the_path x ≡ true → not (is_other_layer layer x) ≡ true) one (statements e)
        (each-passed (λ x. AllByRecursion (λ (a : Assigned). is_fresh fresh a.path ≡ false) (assignments_in x)) (is_other_layer layer) (statements e)
        (subst (AllByRecursion (λ x. AllByRecursion (λ (a : Assigned). is_fresh fresh a.path ≡ false) (assignments_in x))) (sym same-said) left))
      where
        one : (x : Said) → (is_other_layer layer x ≡ true → AllByRecursion (λ (a : Assigned). is_fresh fresh a.path ≡ false) (assignments_in x)) → defines the_path x ≡ true → not (is_other_layer layer x) ≡ true
        one x h k = by_test (is_other_layer layer x) refl
          where
            by_test : (b : Bool) → is_other_layer layer x ≡ b → not b ≡ true
            by_test false g = refl
            by_test true g = impossible (is_fresh fresh the_path) (fresh-entry p has entry c) (any-old the_path (assignments_in x) (h g) (right_of (is_some x.layer) (is_defined_by the_path x) k))

    layer-of : there.0.layer ≡ Some layer
    layer-of = find-among (λ y. y.layer ≡ Some layer) (defines the_path) (flat_map (stated layer) placed) there.0 (each-said layer sizes e placed own-said (λ y. y.layer ≡ Some layer) (λ q h n k. (refl, refl))) there.1

    base-is : (f : Family) → f.path ≡ the_path → f.is_abstract ≡ true → base_of e f ≡ Some (Some layer)
    base-is f path abstract =
        ap (λ b. cond b (layer_that_defines f.path met') (Some None)) abstract
        ∙ ap (λ q. option_map (λ act. act.layer) (find (defines q) (statements e))) path
        ∙ ap (option_map (λ act. act.layer)) (find-filter (defines the_path) (λ x. not (is_other_layer layer x)) (statements e) others ∙ ap (find (defines the_path)) own-said ∙ there.1)
        ∙ ap Some layer-of

  -- the layer is the base of each family of a fresh name
  fresh-base : (f : Family) → Contains families' f → is_fresh fresh f.path ≡ true → base_of e f ≡ Some (Some layer)
  fresh-base f has new =
      let at = locate f has new in
      let second = has-definition (names_around at.0.1.0) at.0.1.1.formula at.0.1.1.monitors outset (named-all at.0 at.1) at.2 at.3 in
      base-is at.0 at.1 (at.2, second.0) second.1 f at.4.path at.4.is_abstract

  -- ---- what a monitor may be

  module _ (f : Family) (has : Contains families' f) (new : is_fresh fresh f.path ≡ true) (vs : List Value) (in_f : Contains (indexes_in sizes f) vs) where
    abbrev at : Located f
    at = locate f has new

    abbrev p : Placed
    p = at.0

    abbrev around : Around
    around = p.1.0

    abbrev definition : (x : Expr) × Contains (entries_of p) (at.2, x)
    definition = has-definition (names_around around) p.1.1.formula p.1.1.monitors outset (named-all p at.1) at.2 at.3

    abbrev found : (g : Family) × (family_at families' (p.0 ++ at.2 ∷ []) ≡ Some g)
    found = find-some (λ g. same_path g.path (p.0 ++ at.2 ∷ [])) families' f has (subst (λ q. same_path q (p.0 ++ at.2 ∷ []) ≡ true) (sym at.4.path) (path-itself (p.0 ++ at.2 ∷ [])))

    found-bit : found.0.value ≡ range 0 1
    found-bit = bits found.0 (find-among (Contains families') (λ g. same_path g.path (p.0 ++ at.2 ∷ [])) families' found.0 (each-member families') found.1)
        (ap (is_fresh fresh) (found-path fresh families' (p.0 ++ at.2 ∷ []) found.0 found.1) ∙ fresh-entry p at.1 (at.2, definition.0) definition.1)

    chosen : AreChosen (values_around (scene_at e sizes p.0) around) vs
    chosen = subst (λ l. AreChosen l vs) (at.4.over sizes) (choices-chosen (map (values_of sizes) f.over) vs in_f)

    is-defined : ((now : State) → allowed e sizes (Some layer) (record { path = p.0 ++ at.2 ∷ []; indexes = vs }) None now ≡ number 0 ∷ [])
        × ((before now : State) → allowed e sizes (Some layer) (record { path = p.0 ++ at.2 ∷ []; indexes = vs }) (Some before) now ≡ bits_by (scene_at e sizes p.0) (bound (params_of around) vs []) before (names_around around) definition.0)
    is-defined = layers-define layer sizes e placed own-said p at.1 (at.2, definition.0) definition.1 (alone.alone p at.1 (at.2, definition.0) definition.1) (alone.apart p at.1) found.0 found.1 found-bit vs chosen

    abbrev values : Option State → List Value
    values None = number 0 ∷ []
    values (Some before) = bits_by (scene_at e sizes p.0) (bound (params_of around) vs []) before (names_around around) definition.0

    by-layer : (before : Option State) (s : State) → allowed e sizes (Some layer) (record { path = f.path; indexes = vs }) before s ≡ values before
    by-layer None s = ap (λ q. allowed e sizes (Some layer) (record { path = q; indexes = vs }) None s) at.4.path ∙ is-defined.0 s
    by-layer (Some before) s = ap (λ q. allowed e sizes (Some layer) (record { path = q; indexes = vs }) (Some before) s) at.4.path ∙ is-defined.1 before s

    filled : (before : Option State) → Contains (values before) (greatest (values before))
    filled None = (0, omega arith, refl)
    filled (Some before) =
        subst (λ l. Contains l (greatest l)) (sym (each-at (λ entry. IsFitted (scene_at e sizes p.0) (bound (params_of around) vs []) before (names_around around) entry.1) (entries_of p) (at.2, definition.0)
        (fitted (scene_at e sizes p.0) (bound (params_of around) vs []) before (names_around around) p.1.1.formula p.1.1.monitors outset) definition.1))
        (greatest-fits (outcome (scene_at e sizes p.0) before definition.0 (bound (params_of around) vs [])))

    given : IsGiven layer e sizes f vs
    given = record {
      values = values;
      given = λ before s. ap (by_layer_of e sizes (record { path = f.path; indexes = vs }) before s) (base-is p at.1 (at.2, definition.0) definition.1 f at.4.path at.4.is_abstract) ∙ by-layer before s;
      by_layer = by-layer;
      filled = filled;
    }

-- ---- the two texts

module _ (P : Watched → Type 0) (plan : List (ℕ × Watched)) (all : AllByRecursion (λ entry. P entry.1) plan) where
  abbrev Of : Around × Watched → Type 0
  Of w = P w.1

  place-of : (list : List (ℕ × Watched)) → AllByRecursion (λ entry. P entry.1) list → (at : ℕ) (around : Around) → AllByRecursion Of (or_none around (at_place list at))
  place-of [] h at around = tt
  place-of ((place, w) ∷ list) h at around = by_test (nat_eq place at) (place-of list h.1 at around)
    where
      by_test : (b : Bool) → AllByRecursion Of (or_none around (at_place list at)) → AllByRecursion Of (or_none around (cond b (Some w) (at_place list at)))
      by_test true k = (h.0, tt)
      by_test false k = k

  pub body-of : (around : Around) (body : Expr) → AllByRecursion Of (or_none around (of_body plan body))
  body-of around (Number value at) = place-of plan all at around
  body-of around x = tt

  mutual
    watched-of : (around : Around) (item : Item) → AllByRecursion Of (watched_in plan around item)
    watched-of around (Forall' var over shape (more_of-Item body end_of-Item) at) = watched-of (around ++ (var, over) ∷ []) body
    watched-of around (Block' shape items) = among-of around items
    watched-of around (Claim name vars body at) = body-of around body
    watched-of around (Declare role words of at) = tt
    watched-of around (Instance words name args at) = tt
    watched-of around (Layer name body at) = tt
    watched-of around (Split name vars of pairs at) = tt
    watched-of around (Using uses proves at) = tt
    watched-of around (Act act) = tt

    among-of : {m : _} (around : Around) (items : Row_of-Item m) → AllByRecursion Of (watched_among plan around items)
    among-of around end_of-Item = tt
    among-of around (more_of-Item item rest) = each_append Of (watched_in plan around item) (watched_among plan around rest) (watched-of around item) (among-of around rest)

  module _ (types : Types) (bodies : List (Name × Body)) where
    abbrev OfPlaced : Placed → Type 0
    OfPlaced p = P p.1.1

    item-of : (inside : Path → Name → List Placed) → ((q : Path) (name : Name) → AllByRecursion OfPlaced (inside q name)) → (here : Path) (item : Item) → AllByRecursion OfPlaced (placed_item plan types bodies inside here item)
    item-of inside h here (Instance words name args at) = each_flat_map (λ word. Unit {0}) OfPlaced (λ word. inside (here ++ word.name ∷ []) name.name) (λ word u. h (here ++ word.name ∷ []) name.name) words (each-unit words)
    item-of inside h here (Forall' var over shape (more_of-Item body end_of-Item) at) = tt
    item-of inside h here (Block' shape items) = tt
    item-of inside h here (Claim name vars body at) = tt
    item-of inside h here (Declare role words of at) = tt
    item-of inside h here (Layer name body at) = tt
    item-of inside h here (Split name vars of pairs at) = tt
    item-of inside h here (Using uses proves at) = tt
    item-of inside h here (Act act) = tt

    placed-of : (n : ℕ) (here : Path) (name : Name) → AllByRecursion OfPlaced (placed_in plan types bodies n here name)
    placed-of zero here name = tt
    placed-of (suc n) here name =
        let items : List Item = (body_of types bodies name).items in
        each_append OfPlaced (flat_map (placed_item plan types bodies (placed_in plan types bodies n) here) items) (map (λ w. (here, w)) (flat_map (watched_in plan []) items))
        (each_flat_map (λ item. Unit {0}) OfPlaced (placed_item plan types bodies (placed_in plan types bodies n) here) (λ item u. item-of (placed_in plan types bodies n) (λ q other. placed-of n q other) here item) items (each-unit items))
        (each-mapped OfPlaced (λ w. (here, w)) (flat_map (watched_in plan []) items) (each_flat_map (λ item. Unit {0}) Of (watched_in plan []) (λ item u. watched-of [] item) items (each-unit items)))

-- ---- the claim of a placed formula is watched

pub names-of : (around : Around) → map (λ param. param.0) (params_of around) ≡ names_around around
names-of [] = refl
names-of (binder ∷ around) = ap (λ l. binder.0.name ∷ l) (names-of around)

chosen-choices : (lists : List (List Value)) (vs : List Value) → AreChosen lists vs → Contains (choices lists) vs
chosen-choices [] [] h = (0, omega arith, refl)
chosen-choices [] (v ∷ vs) h = absurd h
chosen-choices (values ∷ more) [] h = absurd h
chosen-choices (values ∷ more) (v ∷ vs) h = contains-flat (λ w. map (λ us. w ∷ us) (choices more)) values v (v ∷ vs) h.0 (contains-map (λ us. v ∷ us) (choices more) vs (chosen-choices more vs h.1))

-- a type over which values are chosen is one of one value
some-shape : (types : Types) (sizes : Sizes) (around : Around) (vs : List Value) → AreChosen (map (λ binder. values_or_none sizes (simple types binder.1)) around) vs → (f : Family) × Contains (shape_of types (type_of around)) f
unfolding computing
some-shape types sizes [] vs h = (_, (0, omega arith, refl))
some-shape types sizes (binder ∷ around) [] h = absurd h
some-shape types sizes (binder ∷ around) (v ∷ vs) h = by_simple (simple types binder.1) h.0 (some-shape types sizes around vs h.1)
  where
    by_simple : (o : Option Simple) → Contains (values_or_none sizes o) v → (f : Family) × Contains (shape_of types (type_of around)) f → (f : Family) × Contains (array_of o (shape_of types (type_of around))) f
    by_simple None (k, l, e) r = absurd (omega (arith, l))
    by_simple (Some t) c r = (indexed t r.0, contains-map (indexed t) (shape_of types (type_of around)) r.0 r.1)

module _ (fresh : List Name) (layer : Name) (sizes : Sizes) (types : Types) (families families' : List Family) (met met' : List Met) (placed : List Placed)
    (same-families : filter (is_kept fresh) families' ≡ families)
    (same-said : filter (is_other_layer layer) (statements (record { types = types; families = families'; met = met' })) ≡ statements (record { types = types; families = families; met = met }))
    (left : AllByRecursion (λ x. AllByRecursion (λ (a : Assigned). is_fresh fresh a.path ≡ false) (assignments_in x)) (statements (record { types = types; families = families; met = met })))
    (own-said : filter (λ x. not (is_other_layer layer x)) (statements (record { types = types; families = families'; met = met' })) ≡ flat_map (stated layer) placed)
    (own-families : filter (λ f. not (is_kept fresh f)) families' ≡ flat_map (declared_at types) placed)
    (alone : AreAlone placed)
    (named-all : (p : Placed) → Contains placed p → HasNames p.1.1.formula p.1.1.monitors)
    (fresh-all : (p : Placed) → Contains placed p → AllByRecursion (λ m. list_any (bytes_eq m) fresh ≡ true) p.1.1.monitors)
    (p : Placed) (has : Contains placed p) (vs : List Value) where
  abbrev the_design : TextDesign
  the_design = record { types = types; families = families'; met = met' }

  abbrev around_p : Around
  around_p = p.1.0

  module _ (chosen : AreChosen (values_around (scene_at the_design sizes p.0) around_p) vs) (entry : Name × Expr) (c : Contains (entries_of p) entry) (m-there : Contains p.1.1.monitors entry.0) where
    abbrev path_p : Path
    path_p = p.0 ++ entry.0 ∷ []

    declared-one : (f : Family) × Contains families' f × IsMonitor types p.0 entry.0 around_p f
    declared-one =
        let s = some-shape types sizes around_p vs chosen in
        let g : Family = declared_as Abstract (p.0 ++ entry.0 ∷ []) s.0 in
        let in_map : Contains (map (declared_as Abstract (p.0 ++ entry.0 ∷ [])) (shape_of types (type_of around_p))) g = contains-map (declared_as Abstract (p.0 ++ entry.0 ∷ [])) (shape_of types (type_of around_p)) s.0 s.1 in
        let in_placed : Contains (declared_at types p) g = contains-flat (λ m. map (declared_as Abstract (p.0 ++ m ∷ [])) (shape_of types (type_of around_p))) p.1.1.monitors entry.0 g m-there in_map in
        let in_all : Contains (filter (λ f. not (is_kept fresh f)) families') g = subst (λ l. Contains l g) (sym own-families) (contains-flat (declared_at types) placed p g has in_placed) in
        (g, unfiltered (λ f. not (is_kept fresh f)) families' g in_all, each-at (IsMonitor types p.0 entry.0 around_p) (map (declared_as Abstract (p.0 ++ entry.0 ∷ [])) (shape_of types (type_of around_p))) g (declared-monitors types p.0 entry.0 around_p (shape_of types (type_of around_p)) (type-bits types around_p)) in_map)

    abbrev hit : (g : Family) × (family_at families' path_p ≡ Some g)
    hit = find-some (λ g. same_path g.path path_p) families' declared-one.0 declared-one.1 (subst (λ q. same_path q path_p ≡ true) (sym declared-one.2.path) (path-itself path_p))

    hit-there : Contains families' hit.0
    hit-there = find-among (Contains families') (λ g. same_path g.path path_p) families' hit.0 (each-member families') hit.1

    hit-path : hit.0.path ≡ path_p
    hit-path = found-path fresh families' path_p hit.0 hit.1

    hit-new : is_fresh fresh hit.0.path ≡ true
    hit-new = ap (is_fresh fresh) hit-path ∙ fresh-entry fresh layer sizes types families families' met met' placed same-families same-said left own-said own-families alone named-all fresh-all p has entry c

    abbrev hit-at : Located fresh layer sizes types families families' met met' placed same-families same-said left own-said own-families alone named-all fresh-all hit.0
    hit-at = locate fresh layer sizes types families families' met met' placed same-families same-said left own-said own-families alone named-all fresh-all hit.0 hit-there hit-new

    hit-placed : hit-at.0 ≡ p
    hit-placed =
        let second = has-definition (names_around hit-at.0.1.0) hit-at.0.1.1.formula hit-at.0.1.1.monitors outset (named-all hit-at.0 hit-at.1) hit-at.2 hit-at.3 in
        (alone.alone p has entry c hit-at.0 hit-at.1 (hit-at.2, second.0) second.1 (sym hit-at.4.path ∙ hit-path)).0

    hit-over : map (values_of sizes) hit.0.over ≡ values_around (scene_at the_design sizes p.0) around_p
    hit-over = hit-at.4.over sizes ∙ ap (λ (q : Placed). map (λ binder. values_or_none sizes (simple types binder.1)) q.1.0) hit-placed

    hit-bit : hit.0.value ≡ range 0 1
    hit-bit = bits fresh layer sizes types families families' met met' placed same-families same-said left own-said own-families alone named-all fresh-all hit.0 hit-there hit-new

    defined-there : ((now' : State) → allowed the_design sizes (Some layer) (record { path = path_p; indexes = vs }) None now' ≡ number 0 ∷ [])
        × ((before now' : State) → allowed the_design sizes (Some layer) (record { path = path_p; indexes = vs }) (Some before) now' ≡ bits_by (scene_at the_design sizes p.0) (bound (params_of around_p) vs []) before (names_around around_p) entry.1)
    defined-there = layers-define layer sizes the_design placed own-said p has entry c (alone.alone p has entry c) (alone.apart p has) hit.0 hit.1 hit-bit vs chosen

    hit-base : (before : Option State) (s : State) → allowed_by_base the_design sizes hit.0 (record { path = hit.0.path; indexes = vs }) before s ≡ allowed the_design sizes (Some layer) (record { path = path_p; indexes = vs }) before s
    hit-base before s =
        ap (by_layer_of the_design sizes (record { path = hit.0.path; indexes = vs }) before s) (base-is fresh layer sizes types families families' met met' placed same-families same-said left own-said own-families alone named-all fresh-all p has entry c hit.0 hit-path hit-at.4.is_abstract)
        ∙ ap (λ q. allowed the_design sizes (Some layer) (record { path = q; indexes = vs }) before s) hit-path

    one-defined : (name : Name) → IsDefined the_design sizes (claim_at p name) vs entry.0 entry.1
    one-defined name = record {
      family = hit.0;
      in_design = hit-there;
      path = hit-path;
      value = hit-bit;
      in_family = chosen-choices (map (values_of sizes) hit.0.over) vs (subst (λ l. AreChosen l vs) (sym hit-over) chosen);
      first = λ s. hit-base None s ∙ defined-there.0 s;
      later = λ before s. hit-base (Some before) s ∙ defined-there.1 before s;
    }

    one-read : (s : State) → list_any (bytes_eq entry.0) (names_around around_p) ≡ false → outcome (scene_at the_design sizes p.0) s (monitor (names_around around_p) entry.0) (bound (params_of around_p) vs []) ≡ Some (s path_p vs)
    one-read s other = monitor-read (scene_at the_design sizes p.0) s around_p entry.0 hit.0 vs (alone.apart p has) other hit.1 hit-over chosen ∙ ap (λ q. Some (s q vs)) hit-path

  watched-claim : AreChosen (values_around (scene_at the_design sizes p.0) around_p) vs → AllByRecursion (λ m. list_any (bytes_eq m) (names_around around_p) ≡ false) p.1.1.monitors → (name : Name) → IsWatched the_design sizes (claim_at p name) vs p.1.1.formula p.1.1.monitors
  watched-claim chosen others-bound name = record {
    named = named-all p has;
    body = ap (λ l. claim_of l p.1.1.monitors outset p.1.1.formula) (sym (names-of around_p));
    reads = λ s. subst (λ l. AllByRecursion (λ m. outcome (scene_at the_design sizes p.0) s (monitor l m) (bound (params_of around_p) vs []) ≡ Some (s (p.0 ++ m ∷ []) vs)) p.1.1.monitors) (sym (names-of around_p))
        (each-two (λ m. Contains p.1.1.monitors m) (λ m. list_any (bytes_eq m) (names_around around_p) ≡ false) (λ m. outcome (scene_at the_design sizes p.0) s (monitor (names_around around_p) m) (bound (params_of around_p) vs []) ≡ Some (s (p.0 ++ m ∷ []) vs))
        (λ m there other. let r = has-definition (names_around around_p) p.1.1.formula p.1.1.monitors outset (named-all p has) m there in one-read chosen (m, r.0) r.1 there s other) p.1.1.monitors (each-member p.1.1.monitors) others-bound);
    defined = subst (λ l. AllByRecursion (λ entry. IsDefined the_design sizes (claim_at p name) vs entry.0 entry.1) (definitions l p.1.1.monitors outset p.1.1.formula)) (sym (names-of around_p))
        (each-two (λ entry. Contains (entries_of p) entry) (λ entry. Contains p.1.1.monitors entry.0) (λ entry. IsDefined the_design sizes (claim_at p name) vs entry.0 entry.1) (λ entry c there. one-defined chosen entry c there name) (entries_of p) (each-member (entries_of p))
        (definitions-fresh (Contains p.1.1.monitors) (names_around around_p) p.1.1.formula p.1.1.monitors outset (each-member p.1.1.monitors)));
  }

module _ (fresh : List Name) (plan : List (ℕ × Watched)) (layer : Name) (text : Text) (fits : MonitorsFit fresh plan layer text) (sizes : Sizes) where
  abbrev types : Types
  types = types_from [] text.tops

  abbrev bodies : List (Name × Body)
  bodies = modules text.tops

  abbrev d : TextDesign
  d = design_of text

  abbrev new_design : TextDesign
  new_design = design_of (translation plan layer text)

  -- the translation's design with the types of the text
  abbrev typed_by : Types → TextDesign
  typed_by known = record { types = known; families = new_design.families; met = new_design.met }

  abbrev all-placed : List Placed
  all-placed = placed_in plan types bodies (length bodies) [] main

  named-all : (p : Placed) → Contains all-placed p → HasNames p.1.1.formula p.1.1.monitors
  named-all p has = each-at (λ (q : Placed). HasNames q.1.1.formula q.1.1.monitors) all-placed p (placed-of (λ w. HasNames w.formula w.monitors) plan fits.named types bodies (length bodies) [] main) has

  fresh-all : (p : Placed) → Contains all-placed p → AllByRecursion (λ m. list_any (bytes_eq m) fresh ≡ true) p.1.1.monitors
  fresh-all p has = each-at (λ (q : Placed). AllByRecursion (λ m. list_any (bytes_eq m) fresh ≡ true) q.1.1.monitors) all-placed p (placed-of (λ w. AllByRecursion (λ m. list_any (bytes_eq m) fresh ≡ true) w.monitors) plan fits.monitors types bodies (length bodies) [] main) has

  extended : Extends fresh layer sizes d (typed_by types)
  extended = record {
    types = refl;
    families = families-kept fresh plan layer text fits.monitors fits.families;
    said = statements-kept fresh plan layer text fits.monitors fits.formals fits.layers;
    own = own fresh layer sizes types d.families new_design.families d.met new_design.met all-placed (families-kept fresh plan layer text fits.monitors fits.families) (statements-kept fresh plan layer text fits.monitors fits.formals fits.layers) fits.left (layer-placed fresh plan layer text fits.monitors fits.formals fits.flat fits.layers) (monitors-placed fresh plan layer text fits.monitors fits.families) fits.alone named-all fresh-all;
    reads = fits.reads;
    bits = bits fresh layer sizes types d.families new_design.families d.met new_design.met all-placed (families-kept fresh plan layer text fits.monitors fits.families) (statements-kept fresh plan layer text fits.monitors fits.formals fits.layers) fits.left (layer-placed fresh plan layer text fits.monitors fits.formals fits.flat fits.layers) (monitors-placed fresh plan layer text fits.monitors fits.families) fits.alone named-all fresh-all;
    given = given fresh layer sizes types d.families new_design.families d.met new_design.met all-placed (families-kept fresh plan layer text fits.monitors fits.families) (statements-kept fresh plan layer text fits.monitors fits.formals fits.layers) fits.left (layer-placed fresh plan layer text fits.monitors fits.formals fits.flat fits.layers) (monitors-placed fresh plan layer text fits.monitors fits.families) fits.alone named-all fresh-all;
  }

  pub layer-is-base : (f : Family) → Contains new_design.families f → is_fresh fresh f.path ≡ true → base_of new_design f ≡ Some (Some layer)
  layer-is-base = fresh-base fresh layer sizes types d.families new_design.families d.met new_design.met all-placed (families-kept fresh plan layer text fits.monitors fits.families) (statements-kept fresh plan layer text fits.monitors fits.formals fits.layers) fits.left (layer-placed fresh plan layer text fits.monitors fits.formals fits.flat fits.layers) (monitors-placed fresh plan layer text fits.monitors fits.families) fits.alone named-all fresh-all

  placed-claim : (p : Placed) → Contains all-placed p → EachReadOver (IsOld fresh) p.1.1.formula → AllByRecursion (λ m. list_any (bytes_eq m) (names_around p.1.0) ≡ false) p.1.1.monitors → (name : Name) (vs : List Value) →
      AreChosen (values_around (scene_at (typed_by types) sizes p.0) p.1.0) vs →
      ((run : List State) → IsRun d sizes run → AlwaysHolds (scene_at d sizes p.0) (bound (params_of p.1.0) vs []) p.1.1.formula run)
      ↔ ((run : List State) → IsRun (typed_by types) sizes run → AtEachTime (Holds (typed_by types) sizes (claim_unit (claim_at p name)) vs) None run)
  placed-claim p has formula-old apart name vs chosen =
      claims-say fresh layer sizes d (typed_by types) extended (claim_at p name) vs p.1.1.formula p.1.1.monitors
      (watched-claim fresh layer sizes types d.families new_design.families d.met new_design.met all-placed (families-kept fresh plan layer text fits.monitors fits.families) (statements-kept fresh plan layer text fits.monitors fits.formals fits.layers) fits.left (layer-placed fresh plan layer text fits.monitors fits.formals fits.flat fits.layers) (monitors-placed fresh plan layer text fits.monitors fits.families) fits.alone named-all fresh-all p has vs chosen apart name)
      formula-old (each_weaker (λ m. list_any (bytes_eq m) fresh ≡ true) (λ m. is_fresh fresh (p.0 ++ m ∷ []) ≡ true) (λ m h. fresh-end fresh p.0 m h) p.1.1.monitors (fresh-all p has))

pub extends : TranslationsExtend
extends fresh plan layer text fits sizes =
    subst (λ known. Extends fresh layer sizes (design_of text) (typed_by fresh plan layer text fits sizes known)) (sym (types-kept plan layer text))
    (extended fresh plan layer text fits sizes)

pub placed-claims : PlacedFormulasAreClaims
placed-claims fresh plan layer text fits sizes p has formula-old apart name vs =
    subst (λ known. AreChosen (values_around (scene_at (typed_by fresh plan layer text fits sizes known) sizes p.0) p.1.0) vs →
    ((run : List State) → IsRun (design_of text) sizes run → AlwaysHolds (scene_at (design_of text) sizes p.0) (bound (params_of p.1.0) vs []) p.1.1.formula run)
    ↔ ((run : List State) → IsRun (typed_by fresh plan layer text fits sizes known) sizes run →
    AtEachTime (Holds (typed_by fresh plan layer text fits sizes known) sizes (claim_unit (claim_at p name)) vs) None run))
    (sym (types-kept plan layer text))
    (λ chosen. placed-claim fresh plan layer text fits sizes p has formula-old apart name vs chosen)
