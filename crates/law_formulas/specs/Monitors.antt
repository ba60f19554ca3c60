-- The text in which monitors stand for the formulas: for each claim over several times a claim of one time, and abstract signals, defined in a layer of their own, that say how far its formula has come (monitors of safety formulas, Havelund and Rosu, TACAS 2002; the stages, the names and the order are choices of this project).
use Rattle.std.specs.Prelude.{ℕ, ◌+◌, List, [], ◌∷◌, ◌++◌, map, flat_map, filter, take, drop, length, Option, Some, None, not, decimal}
use Rattle.std.specs.Str.{bytes_eq}
use Rattle.std.specs.List.{list_any}
use Rattle.smv_core.specs.Values.{Name, numbers_from}
use Rattle.smv_core.specs.Grammar.{chain, named}
use Rattle.smv_core.specs.declared.tree.Word.{Word}
use Rattle.smv_core.specs.declared.tree.Op.TheVariants as op
use Rattle.smv_core.specs.declared.tree.Part.{At}
use Rattle.smv_core.specs.declared.tree.Path.{Path}
use Rattle.smv_core.specs.declared.tree.Expr.{Expr, Number, Signal, Not, And, Or, Implies, Compare}
use Rattle.smv_core.specs.declared.tree.TypeExpr.{TypeExpr, Boolean, Array}
use Rattle.smv_core.specs.declared.tree.Kind.TheVariants.{Init, Next}
use Rattle.smv_core.specs.declared.tree.Stmt.{Stmt, Assign}
use Rattle.smv_core.specs.declared.tree.Stmt as stmt
use Rattle.smv_core.specs.declared.tree.Role.TheVariants.{Abstract}
use Rattle.smv_core.specs.declared.tree.Item.{Item, Declare, Layer, Forall, Forall', Block, Block', Claim, Row_of-Item, end_of-Item, more_of-Item}
use Rattle.smv_core.specs.declared.tree.Top.{Top}
use Rattle.smv_core.specs.declared.tree.Top.TheVariants.{Module}
use Rattle.smv_core.specs.declared.tree.Text.{Text}
use Rattle.law_formulas.specs.Formulas.{Formula, now, next, when, weak, FormulaText, of_body}
use Rattle.law_formulas.specs.Steps.{places_of}

-- ---- names

-- m0, m1 and so on
abbrev pub numbered : ℕ → Name
numbered n = 109 ∷ decimal n

-- the first of these names that are not used, so many
abbrev pub free_names : List Name → ℕ → List Name
free_names used count = take count (filter (λ name. not (list_any (bytes_eq name) used)) (map numbered (numbers_from 0 (count + length used))))

-- a formula with the names of its monitors: one for each X, in their order, and then one for its W
pub record Watched : Type 0 where
  pub formula : Formula
  pub monitors : List Name

-- each formula in its turn takes the next names
abbrev pub watched : List (ℕ × Formula) → List Name → List (ℕ × Watched)
watched [] names = []
watched ((place, f) ∷ more) names = (place, record { formula = f; monitors = take (places_of f) names }) ∷ watched more (drop (places_of f) names)

-- how many monitors the formulas have
abbrev pub monitors_of : List (ℕ × Formula) → ℕ
monitors_of [] = 0
monitors_of ((place, f) ∷ more) = places_of f + monitors_of more

-- a name that stands nowhere in the text
abbrev pub word_of : Name → Word
word_of name = record { name = name; at = 0 }

-- ---- the claim and the definitions of one formula

-- a place in a formula: the monitor of the X before it, or none, and the conditions since
pub record Stage : Type 0 where
  pub start : Option Name
  pub conditions : List Expr

-- the place before the whole formula
abbrev pub outset : Stage
outset = record { start = None; conditions = [] }

-- behind one more condition
abbrev pub under : Stage → Expr → Stage
under stage c = record stage { conditions = stage.conditions ++ c ∷ [] }

-- behind an X
abbrev pub behind : Name → Stage
behind m = record { start = Some m; conditions = [] }

-- expressions joined by `->`; no list of a claim is empty
abbrev pub implied : List Expr → Expr
implied [] = Number 1 0
implied (e ∷ es) = chain Implies e es

-- `~ ((c) = 0)`
abbrev pub lasting : Expr → Expr
lasting c = Not (Compare op.Equal c (Number 0 0)) 0

-- under a claim whose parameters have these names, from the outside in
module _ (vars : List Name) where
  -- a monitor at the claim's parameters
  abbrev pub path_of : Name → Path
  path_of m = named (word_of m) (map (λ var. At (Signal (named (word_of var) []))) vars)

  -- what is read of it
  abbrev pub monitor : Name → Expr
  monitor m = Signal (path_of m)

  -- 1, or the monitor of the X before the stage
  abbrev pub started : Option Name → Expr
  started None = Number 1 0
  started (Some m) = monitor m

  -- the stage was reached, and none of its conditions is out
  abbrev pub reached : Stage → Expr
  reached stage = chain And (started stage.start) (map lasting stage.conditions)

  -- the monitor before the conditions of the last stage, where there is one
  abbrev pub front_of : Option Name → List Expr
  front_of None = []
  front_of (Some m) = monitor m ∷ []

  -- what each monitor is at the next time
  abbrev pub definitions : List Name → Stage → Formula → List (Name × Expr)
  definitions names stage (now e) = []
  definitions [] stage (next at f) = []
  definitions (m ∷ names) stage (next at f) = (m, reached stage) ∷ definitions names (behind m) f
  definitions names stage (when c f) = definitions names (under stage c) f
  definitions [] stage (weak p q) = []
  definitions (w ∷ names) stage (weak p q) = (w, And (Or (reached stage ∷ monitor w ∷ []) ∷ Not q 0 ∷ [])) ∷ []

  -- what is claimed of each time
  abbrev pub claim_of : List Name → Stage → Formula → Expr
  claim_of names stage (now e) = implied (front_of stage.start ++ stage.conditions ++ e ∷ [])
  claim_of [] stage (next at f) = Number 1 0
  claim_of (m ∷ names) stage (next at f) = claim_of names (behind m) f
  claim_of names stage (when c f) = claim_of names (under stage c) f
  claim_of [] stage (weak p q) = Number 1 0
  claim_of (w ∷ names) stage (weak p q) = Implies (Or (reached stage ∷ monitor w ∷ []) ∷ Or (q ∷ p ∷ []) ∷ [])

-- ---- items

-- the binders around a claim, from the outside in
abbrev pub Around : Type 0
Around = List (Word × TypeExpr)

-- their names
abbrev pub names_around : Around → List Name
names_around around = map (λ binder. binder.0.name) around

-- `array T of .. boolean`
abbrev pub type_of : Around → TypeExpr
type_of [] = Boolean
type_of ((var, over) ∷ around) = Array over (type_of around)

-- a statement behind binders
abbrev pub within : Around → Stmt → Stmt
within [] act = act
within ((var, over) ∷ around) act = stmt.Forall var over (within around act) 0

-- `init(m) := 0; next(m) := e;`, each behind the claim's binders
abbrev pub defining : Around → Name × Expr → List Stmt
defining around (m, e) =
    within around (Assign Init (path_of (names_around around) m) (Number 0 0) 0) ∷ within around (Assign Next (path_of (names_around around) m) e 0) ∷ []

-- the declarations of a claim's monitors
abbrev pub declared : Around × Watched → List Item
declared (around, w) = map (λ m. Declare Abstract (word_of m ∷ []) (type_of around) 0) w.monitors

-- their definitions
abbrev pub defined : Around × Watched → List Stmt
defined (around, w) = flat_map (defining around) (definitions (names_around around) w.monitors outset w.formula)

-- the formula's claim, or the body itself
abbrev pub or_claim : Around → Expr → Option Watched → Expr
or_claim around body (Some w) = claim_of (names_around around) w.monitors outset w.formula
or_claim around body None = body

-- the formula with the binders around it, where there is one
abbrev pub or_none : Around → Option Watched → List (Around × Watched)
or_none around (Some w) = (around, w) ∷ []
or_none around None = []

-- the declarations, and behind them, where there are some, the layer
abbrev pub with_layer : Name → List (Around × Watched) → List Item → List Item
with_layer layer ws [] = []
with_layer layer ws (item ∷ more) = (item ∷ more) ++ Layer (word_of layer) (flat_map defined ws) 0 ∷ []

module _ (plan : List (ℕ × Watched)) where
  abbrev mutual
    -- an item with the claims of one time in place of the formulas
    pub translated_item : Around → Item → Item
    translated_item around (Forall' var over shape (more_of-Item body end_of-Item) at) = Forall var over (translated_item (around ++ (var, over) ∷ []) body) at
    translated_item around (Block' shape items) = Block (translated_items around items)
    translated_item around (Claim name vars body at) = Claim name vars (or_claim around body (of_body plan body)) at
    translated_item around item = item

    -- the same of each item
    pub translated_items : {m : _} → Around → Row_of-Item m → List Item
    translated_items around end_of-Item = []
    translated_items around (more_of-Item item rest) = translated_item around item ∷ translated_items around rest

  abbrev mutual
    -- the formulas of an item with the binders around them, in order
    pub watched_in : Around → Item → List (Around × Watched)
    watched_in around (Forall' var over shape (more_of-Item body end_of-Item) at) = watched_in (around ++ (var, over) ∷ []) body
    watched_in around (Block' shape items) = watched_among around items
    watched_in around (Claim name vars body at) = or_none around (of_body plan body)
    watched_in around _ = []

    -- those of each item
    pub watched_among : {m : _} → Around → Row_of-Item m → List (Around × Watched)
    watched_among around end_of-Item = []
    watched_among around (more_of-Item item rest) = watched_in around item ++ watched_among around rest

  -- what stands behind the items of a module that has monitors: their declarations, and then their layer
  abbrev pub behind_items : Name → List (Around × Watched) → List Item
  behind_items layer ws = with_layer layer ws (flat_map declared ws)

  -- the items of a module with the claims of one time, and behind them the monitors
  abbrev pub translated_body : Name → List Item → List Item
  translated_body layer items = map (translated_item []) items ++ behind_items layer (flat_map (watched_in []) items)

  -- a module with such items; what is no module stays
  abbrev pub translated_top : Name → Top → Top
  translated_top layer (Module name formals body at) = Module name formals (translated_body layer body) at
  translated_top layer top = top

-- the text with the monitors of this plan, in a layer of this name
abbrev pub translation : List (ℕ × Watched) → Name → Text → Text
translation plan layer text = record { tops = map (translated_top plan layer) text.tops }

-- the first of these names, if there is one
abbrev pub first_name : List Name → Name
first_name [] = []
first_name (name ∷ names) = name

-- of these names the layer has the one behind those of the monitors
abbrev pub layer_of : List Name → FormulaText → Name
layer_of names ft = first_name (drop (monitors_of ft.formulas) names)

-- the translated text, where the monitors and then the layer have these names
abbrev pub translated_by : List Name → FormulaText → Text
translated_by names ft = translation (watched ft.formulas names) (layer_of names ft) ft.text

-- the translated text, where the tokens of the text have these names
abbrev pub translated : List Name → FormulaText → Text
translated used ft = translated_by (free_names used (monitors_of ft.formulas + 1)) ft
