-- The items of a flattened text, taken apart.
use Rattle.std.specs.Prelude.{ℕ, ◌+◌, List, [], ◌∷◌, ◌++◌, flat_map, Option}
use Rattle.smv_core.specs.declared.flat.FlatItem.{FlatItem}
use Rattle.smv_core.specs.declared.flat.FlatItem.TheVariants as item
use Rattle.smv_core.specs.declared.flat.FlatStmt.{FlatStmt, Assign, If', Block', Default', Forall', Row_of-FlatStmt, end_of-FlatStmt, more_of-FlatStmt}
use Rattle.law_designs.specs.Standing.{Statement, statements_from}
use Rattle.law_designs.specs.Definitions.{Head}
use Rattle.smv_design.specs.Parts.{size}
use Rattle.smv_design.specs.declared.heads.Noted.{Noted}
use Rattle.smv_design.specs.declared.acts.Act.{Act}
use Rattle.smv_core.specs.Rows.{one_flat_stmt}

-- an assignment that was noted
abbrev pub head_of : Noted → Head
head_of h = record { layer = h.layer; family = h.family; place = h.place; at = h.at }

-- a statement with its place
abbrev pub statement_of : Act → Statement
statement_of a = record { layer = a.layer; place = a.place; act = a.act }

module _ (layer : Option ℕ) where
  unfoldable mutual
    -- the assignments of a statement of a layer, the first at this place
    pub heads_in : ℕ → FlatStmt → List Head
    heads_in k (Assign kind family left value at) = record { layer = layer; family = family; place = k; at = at } ∷ []
    heads_in k (If' cond l (one_flat_stmt left) r (one_flat_stmt right)) = heads_in k left ++ heads_in (k + size left) right
    heads_in k (Block' shape parts) = heads_in_row k parts
    heads_in k (Default' l (one_flat_stmt left) r (one_flat_stmt right)) = heads_in k left ++ heads_in (k + size left) right
    heads_in k (Forall' var over shape (one_flat_stmt body)) = heads_in k body

    pub heads_in_row : {m : _} → ℕ → Row_of-FlatStmt m → List Head
    heads_in_row k end_of-FlatStmt = []
    heads_in_row k (more_of-FlatStmt part rest) = heads_in k part ++ heads_in_row (k + size part) rest

  -- those of some statements
  abbrev pub heads_in_all : ℕ → List FlatStmt → List Head
  heads_in_all k [] = []
  heads_in_all k (x ∷ xs) = heads_in k x ++ heads_in_all (k + size x) xs

-- those of the statements of these items, where so many assignments, connections and claims are met before
abbrev pub heads_from : ℕ → List FlatItem → List Head
heads_from k items = flat_map (λ (s : Statement). heads_in s.layer s.place s.act) (statements_from k items)

-- the place behind an item
abbrev pub place_behind : ℕ → FlatItem → ℕ
place_behind k (item.Act layer act) = k + size act
place_behind k (item.Claim claim) = k + 1
place_behind k _ = k
