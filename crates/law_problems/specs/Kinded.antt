-- Kinds and orders of equations at the variables of their splits, and of the guards that leaves have of them.
use Rattle.std.specs.Prelude.{◌≡◌, ◌<◌, ℕ, List, [], map, length, slice_get, Some, false, IsTrue}
use Rattle.smv_core.specs.declared.flat.Design.{Design}
use Rattle.smv_core.specs.declared.flat.Param.{Param}
use Rattle.smv_core.specs.declared.flat.FlatSplit.{FlatSplit}
use Rattle.smv_core.specs.declared.flat.FlatPair.{FlatPair}
use Rattle.smv_core.specs.declared.flat.FlatExpr.{FlatExpr}
use Rattle.smv_core.specs.declared.flat.Guard.{Guard}
use Rattle.smv_core.specs.declared.flat.Leaf.{Leaf}
use Rattle.smv_core.specs.declared.flat.FlatText.{FlatText}
use Rattle.law_obligations.specs.Sets.{Has}
use Rattle.law_obligations.specs.Outlines.{names_of}
use Rattle.law_designs.specs.FlatKinds.{FlatKind, FlatVars, kind_of, kind_in}
use Rattle.law_splits.specs.SplitLaws.{IsRead}
use Rattle.law_splits.specs.Variables.{Occurrence, readings, renamed, IsNumbered}
use Rattle.law_splits.specs.Leaves.{stands_for, number_in, leaves_of}
use Rattle.law_splits.specs.SplitFaults.{is_stray, faults_of_splits}
use Rattle.smv_problem.specs.WellFormed.{as_flat_text, keeps_orders}

-- these kinds of a leaf's parameters are those that the variables bound around a split have, where its brackets name them
abbrev pub KindsStandFor : FlatSplit → FlatVars → FlatVars → Type 0
KindsStandFor split own vars = (length own ≡ length split.bound) × ((v k : ℕ) → v < length split.bound → stands_for split v ≡ Some k → slice_get vars k ≡ slice_get own v)

-- an equation that reads no other variable has in a leaf with so many parameters the kind that it has at the split's own variables
abbrev pub EquationsKeepKinds : Type 0
EquationsKeepKinds = (flat_text : FlatText) (split : FlatSplit) (e : FlatExpr) → IsNumbered (length split.bound) e → ((x : Occurrence) → Has (readings e) x → is_stray split x ≡ false) →
    (own vars : FlatVars) → KindsStandFor split own vars → kind_in flat_text vars (renamed (number_in split (length vars)) e) ≡ kind_in flat_text own e

-- and it keeps orders there exactly where it keeps them at these variables
abbrev pub EquationsKeepOrders : Type 0
EquationsKeepOrders = (flat_text : FlatText) (split : FlatSplit) (e : FlatExpr) → IsNumbered (length split.bound) e → ((x : Occurrence) → Has (readings e) x → is_stray split x ≡ false) →
    (own vars : FlatVars) → KindsStandFor split own vars → keeps_orders flat_text vars (renamed (number_in split (length vars)) e) ≡ keeps_orders flat_text own e

-- the kinds of parameters or variables
abbrev pub kinds_of : List Param → FlatVars
kinds_of params = map (λ p. kind_of p.over) params

-- an expression has a kind and keeps orders, where the variables around it are of these kinds
abbrev pub IsKinded : Design → FlatVars → FlatExpr → Type 0
IsKinded d vars e = (kind : FlatKind) × (kind_in (as_flat_text (names_of d)) vars e ≡ Some kind) × IsTrue (keeps_orders (as_flat_text (names_of d)) vars e)

-- what the rules of kinds and of set types say of the splits of a design: a variable bound around one has its place as its number, and each equation has a kind and keeps orders
pub record HasKindedSplits (d : Design) : Type 0 where
  pub in_place : (s : FlatSplit) → Has d.splits s → (v : ℕ) (p : Param) → slice_get s.bound v ≡ Some p → p.var ≡ v
  pub kinded : (s : FlatSplit) → Has d.splits s → (pair : FlatPair) → Has s.pairs pair → IsKinded d (kinds_of s.bound) pair.left

-- where a design has no fault of splits, the guards of its leaves keep these rules too
abbrev pub GuardsHaveKinds : Type 0
GuardsHaveKinds = (d : Design) → IsRead d → faults_of_splits d ≡ [] → HasKindedSplits d → (leaf : Leaf) → Has (leaves_of d) leaf → (g : Guard) → Has leaf.guards g → IsKinded d (kinds_of leaf.params) g.expr
