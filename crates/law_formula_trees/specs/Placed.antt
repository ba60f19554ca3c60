-- The monitors of a translation in all instances of a text, and when their names are apart from those of the text.
use Rattle.std.specs.Prelude.{◌≡◌, ℕ, zero, suc, List, [], ◌∷◌, ◌++◌, map, flat_map, length, option_map, Option, Some, None, true, false, Contains}
use Rattle.std.specs.Str.{bytes_eq}
use Rattle.std.specs.List.{AllByRecursion, list_any}
use Rattle.smv_core.specs.Values.{Name, Path}
use Rattle.smv_core.specs.Types.{Types, Family, shape_of, types_from}
use Rattle.smv_core.specs.FlatOrder.{declared_as, Body, Said, body_of, main, TextDesign, design_of, modules, Met, said, claimed, Claimed}
use Rattle.smv_core.specs.Allowed.{assignments_in}
use Rattle.smv_core.specs.Assignments.{Assigned}
use Rattle.smv_core.specs.declared.tree.Text.{Text}
use Rattle.smv_core.specs.declared.tree.Word.{Word}
use Rattle.smv_core.specs.declared.tree.Expr.{Expr}
use Rattle.smv_core.specs.declared.tree.Role.TheVariants.{Abstract}
use Rattle.smv_core.specs.declared.tree.Item.{Item, Instance, Forall', Block', Row_of-Item, end_of-Item, more_of-Item}
use Rattle.law_formulas.specs.Formulas.{Formula, formula_of, of_body}
use Rattle.law_formulas.specs.Steps.{HasNames}
use Rattle.law_formulas.specs.Monitors.{Watched, Around, defined, watched_in, type_of, names_around, definitions, outset, claim_of}
use Rattle.law_watched_runs.specs.Paths.{EachReadIn}
use Rattle.law_watched_runs.specs.Extended.{statements, is_fresh, IsOld, is_other_layer, EachReadOver}
use Rattle.law_formula_trees.specs.Behind.{AreApart, params_of}

-- ---- formulas in instances

-- a formula that is watched, inside its binders, in an instance
abbrev pub Placed : Type 0
Placed = Path × (Around × Watched)

module _ (plan : List (ℕ × Watched)) (types : Types) (bodies : List (Name × Body)) where
  -- the formulas that are watched in the instances of an item
  abbrev pub placed_item : (Path → Name → List Placed) → Path → Item → List Placed
  placed_item inside here (Instance words name args at) = flat_map (λ word. inside (here ++ word.name ∷ []) name.name) words
  placed_item inside here _ = []

  -- those of an instance: of the instances in it, and then its own
  abbrev pub placed_in : ℕ → Path → Name → List Placed
  placed_in zero here name = []
  placed_in (suc n) here name = flat_map (placed_item (placed_in n) here) (body_of types bodies name).items ++ map (λ w. (here, w)) (flat_map (watched_in plan []) (body_of types bodies name).items)

-- those of a text
abbrev pub placed : List (ℕ × Watched) → Text → List Placed
placed plan text = placed_in plan (types_from [] text.tops) (modules text.tops) (length (modules text.tops)) [] main

-- the definitions of a placed formula's monitors, as statements of the layer
abbrev pub stated : Name → Placed → List Said
stated layer (here, w) = map (λ act. record { layer = Some layer; instance = here; act = act }) (defined w)

-- the families of a placed formula's monitors
abbrev pub declared_at : Types → Placed → List Family
declared_at types (here, (around, w)) = flat_map (λ m. map (declared_as Abstract (here ++ m ∷ [])) (shape_of types (type_of around))) w.monitors

-- the definitions of a placed formula's monitors, each with its name
abbrev pub entries_of : Placed → List (Name × Expr)
entries_of (here, (around, w)) = definitions (names_around around) w.monitors outset w.formula

-- the claim of a placed formula in a translation
abbrev pub claim_at : Placed → Name → Claimed
claim_at (here, (around, w)) name = record { instance = here; name = name; params = params_of around; body = claim_of (names_around around) w.monitors outset w.formula }

-- ---- claims

-- what is met, where it is a claim
abbrev pub claimed_in : Met → List Claimed
claimed_in (said x) = []
claimed_in (claimed c) = c ∷ []

-- the claims of a design in flat order
abbrev pub claims_of : TextDesign → List Claimed
claims_of d = flat_map claimed_in d.met

-- the claim of the translation in place of one of the text
abbrev pub watched_claim : Option Watched → Claimed → Claimed
watched_claim (Some w) c = record c { body = claim_of (map (λ param. param.0) c.params) w.monitors outset w.formula }
watched_claim None c = c

-- the plan has the formulas of the list, with names for their monitors
abbrev pub IsPlanOf : List (ℕ × Watched) → List (ℕ × Formula) → Type 0
IsPlanOf plan formulas = (body : Expr) → option_map (λ w. w.formula) (of_body plan body) ≡ of_body formulas body

-- ---- plain facts of trees

-- no instance stands inside a `forall` or braces, as the grammar has it
abbrev mutual
  pub HasNoInstance : Item → Type 0
  HasNoInstance (Instance words name args at) = ⊥
  HasNoInstance (Forall' var over shape (more_of-Item body end_of-Item) at) = HasNoInstance body
  HasNoInstance (Block' shape items) = HaveNoInstance items
  HasNoInstance _ = Unit {0}

  pub HaveNoInstance : {m : _} → Row_of-Item m → Type 0
  HaveNoInstance end_of-Item = Unit {0}
  HaveNoInstance (more_of-Item item rest) = HasNoInstance item × HaveNoInstance rest

-- an instance, or an item inside which none stands
abbrev pub HoldsNoInstance : Item → Type 0
HoldsNoInstance (Instance words name args at) = Unit {0}
HoldsNoInstance item = HasNoInstance item

-- each item of these modules is such
abbrev pub AreFlat : List (Name × Body) → Type 0
AreFlat bodies = AllByRecursion (λ entry. AllByRecursion HoldsNoInstance entry.1.items) bodies

-- each formula's monitors have fresh names
abbrev pub AreFreshMonitors : List Name → List (ℕ × Watched) → Type 0
AreFreshMonitors fresh plan = AllByRecursion (λ entry. AllByRecursion (λ m. list_any (bytes_eq m) fresh ≡ true) entry.1.monitors) plan

-- each formula has a name for each of its monitors
abbrev pub AreNamed : List (ℕ × Watched) → Type 0
AreNamed plan = AllByRecursion (λ entry. HasNames entry.1.formula entry.1.monitors) plan

-- no family's path ends in a fresh name
abbrev pub AreOldFamilies : List Name → List Family → Type 0
AreOldFamilies fresh families = AllByRecursion (λ f. is_fresh fresh f.path ≡ false) families

-- no formal of a module has a fresh name
abbrev pub AreOldFormals : List Name → List (Name × Body) → Type 0
AreOldFormals fresh bodies = AllByRecursion (λ entry. AllByRecursion (λ (word : Word). list_any (bytes_eq word.name) fresh ≡ false) entry.1.formals) bodies

-- no statement is one of this layer
abbrev pub AreOfOtherLayers : Name → List Said → Type 0
AreOfOtherLayers layer saids = AllByRecursion (λ x. is_other_layer layer x ≡ true) saids

-- no statement reads a fresh name
abbrev pub ReadOldPaths : List Name → List Said → Type 0
ReadOldPaths fresh saids = AllByRecursion (λ x. EachReadIn (IsOld fresh) x.act) saids

-- no statement assigns a fresh name
abbrev pub AssignOldPaths : List Name → List Said → Type 0
AssignOldPaths fresh saids = AllByRecursion (λ x. AllByRecursion (λ (a : Assigned). is_fresh fresh a.path ≡ false) (assignments_in x)) saids

-- no other placed definition is of this one's path
abbrev pub IsAlone : List Placed → Placed → Name × Expr → Type 0
IsAlone all p entry = (other : Placed) → Contains all other → (second : Name × Expr) → Contains (entries_of other) second → other.0 ++ second.0 ∷ [] ≡ p.0 ++ entry.0 ∷ [] → (other ≡ p) × (second ≡ entry)

-- no two placed definitions are of one path, and no two binders around a formula of one name
pub record AreAlone (all : List Placed) : Type 0 where
  pub alone : (p : Placed) → Contains all p → (entry : Name × Expr) → Contains (entries_of p) entry → IsAlone all p entry
  pub apart : (p : Placed) → Contains all p → AreApart (names_around p.1.0)

-- The monitors of a plan fit a text: their names and the layer's stand nowhere in it, no instance stands inside a `forall` or braces, and no two of their definitions are of one path.
pub record MonitorsFit (fresh : List Name) (plan : List (ℕ × Watched)) (layer : Name) (text : Text) : Type 0 where
  pub monitors : AreFreshMonitors fresh plan
  pub named : AreNamed plan
  pub formals : AreOldFormals fresh (modules text.tops)
  pub flat : AreFlat (modules text.tops)
  pub families : AreOldFamilies fresh (design_of text).families
  pub layers : AreOfOtherLayers layer (statements (design_of text))
  pub reads : ReadOldPaths fresh (statements (design_of text))
  pub left : AssignOldPaths fresh (statements (design_of text))
  pub alone : AreAlone (placed plan text)

-- the formula of a claim reads no fresh name, and no parameter has one
pub record IsOldClaim (fresh : List Name) (formulas : List (ℕ × Formula)) (c : Claimed) : Type 0 where
  pub reads : EachReadOver (IsOld fresh) (formula_of formulas c)
  pub params : AllByRecursion (λ param. list_any (bytes_eq param.0) fresh ≡ false) c.params
