-- A flattened text as flattening makes it, and what the law of conflicts says of it.
use Rattle.std.specs.Prelude.{◌≡◌, ◌≤◌, ℕ, suc, List, length}
use Rattle.smv_core.specs.Values.{Value}
use Rattle.smv_core.specs.FlatMeaning.{Numbered}
use Rattle.smv_core.specs.declared.flat.FlatText.{FlatText}
use Rattle.smv_core.specs.declared.flat.Def.{Def}
use Rattle.smv_core.specs.declared.flat.FlatStmt.{FlatStmt, Assign, If', Block', Default', Forall', Row_of-FlatStmt, end_of-FlatStmt, more_of-FlatStmt}
use Rattle.law_obligations.specs.Sets.{Has}
use Rattle.law_obligations.specs.Bound.{IsSingle}
use Rattle.law_obligations.specs.FlatConflicts.{IsConflictFree}
use Rattle.law_designs.specs.Standing.{Statement, statements_of}
use Rattle.law_designs.specs.Laws.{index_count}
use Rattle.smv_core.specs.Rows.{one_flat_stmt}

module _ (counts : ℕ → ℕ) where
  abbrev mutual
    -- inside so many `forall`s: each `forall` has the number of those around it, and no left side has more indexes than its family
    pub IsPlaced : ℕ → FlatStmt → Type 0
    IsPlaced around (Assign kind family left value at) = length left ≤ counts family
    IsPlaced around (If' cond l (one_flat_stmt left) r (one_flat_stmt right)) = IsPlaced around left × IsPlaced around right
    IsPlaced around (Block' shape parts) = ArePlaced around parts
    IsPlaced around (Default' l (one_flat_stmt left) r (one_flat_stmt right)) = IsPlaced around left × IsPlaced around right
    IsPlaced around (Forall' var over shape (one_flat_stmt body)) = (var ≡ around) × IsPlaced (suc around) body

    pub ArePlaced : {m : _} → ℕ → Row_of-FlatStmt m → Type 0
    ArePlaced around end_of-FlatStmt = Unit {0}
    ArePlaced around (more_of-FlatStmt part rest) = IsPlaced around part × ArePlaced around rest

-- so it is for each statement of the text
abbrev pub FlatTextIsPlaced : FlatText → Type 0
FlatTextIsPlaced flat_text = (s : Statement) → Has (statements_of flat_text) s → IsPlaced (index_count flat_text) 0 s.act

-- no two assignments of a definition conflict
abbrev pub IsFree : FlatText → Def → Type 0
IsFree flat_text def = IsConflictFree (index_count flat_text def.family) def

-- at most one value of each `forall` variable of the definition gives an element of its family a result, in each state
abbrev pub OneValueGives : FlatText → Def → Type 0
OneValueGives flat_text def = (n : Numbered) (indexes every : List Value) → length indexes ≡ index_count flat_text def.family → IsSingle n def indexes every
