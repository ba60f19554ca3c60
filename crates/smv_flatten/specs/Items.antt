-- Items of the flattened text, as the program makes them.
use Rattle.std.specs.Prelude.{ℕ, ◌+◌, ◌++◌, List, [], ◌∷◌, flat_map, Option, None}
use Rattle.smv_core.specs.Values.{Name, Path}
use Rattle.smv_core.specs.Outcome.{family_at}
use Rattle.smv_core.specs.declared.tree.Text.{Text}
use Rattle.smv_core.specs.declared.tree.Stmt.{Stmt}
use Rattle.smv_core.specs.declared.flat.FlatExpr.{FlatExpr}
use Rattle.smv_core.specs.declared.flat.FlatStmt.{FlatStmt, Forall}
use Rattle.smv_core.specs.declared.flat.FlatItem.{FlatItem}
use Rattle.smv_core.specs.declared.flat.FlatItem.TheVariants.{Act}
use Rattle.law_designs.specs.Numbers.{Scope, flat_over, or_signal}
use Rattle.law_designs.specs.Entries.{Binders, Goal}
use Rattle.law_designs.specs.Flattening.{within, flat_entry, flat_goal}
use Rattle.smv_flatten_statements.specs.Flattened.{statement_of}
use Rattle.smv_flatten.specs.declared.leaves.What.{What}
use Rattle.smv_flatten_families.specs.Held.{path_of}
use Rattle.smv_flatten.specs.declared.met.Met.{Met}
use Rattle.smv_flatten.specs.Leaves.{item_of, binders_of}
use Rattle.smv_flatten.specs.Met.{said_in}

-- what an item inside binders is in a text with these layers
unfoldable pub flat_said : Text → List Name → Path → Binders → What → List FlatItem
flat_said text layers here around what = flat_map (flat_entry text layers) (said_in text 0 here (around, item_of what))

module _ (scope : Scope) where
  -- a flattened statement inside binders, the first of which has this number
  abbrev pub bound_by : ℕ → Binders → FlatStmt → FlatStmt
  bound_by k [] act = act
  bound_by k ((word, over) ∷ around) act = Forall k (flat_over scope over) (bound_by (k + 1) around act)

  -- a statement inside binders, of the layer of this number or outside layers
  unfoldable pub act_item : Option ℕ → Binders → Stmt → FlatItem
  act_item layer around act = Act layer (bound_by 0 around (statement_of scope (within [] around) act))

  -- a claim, a split or a `using` inside binders
  unfoldable pub goal_item : Binders → Goal → FlatItem
  goal_item around g = flat_goal scope around g

  -- what a formal of an instance is where it is read
  unfoldable pub formal_of : Name → Name → ℕ → FlatExpr
  formal_of n a at = or_signal scope None (family_at scope.families (scope.instance ++ n ∷ a ∷ [])) (n ∷ a ∷ []) [] at

-- what is met, as items of a text with these layers
abbrev pub flat_met : Text → List Name → Met → List FlatItem
flat_met text layers met = flat_said text layers (path_of met.instance.items) (binders_of met.around.items) met.what
