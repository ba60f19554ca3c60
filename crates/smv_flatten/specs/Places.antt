-- The places of claims, item by item.
use Rattle.std.specs.Prelude.{ℕ, length}
use Rattle.smv_core.specs.declared.flat.FlatStmt.{FlatStmt}
use Rattle.smv_core.specs.declared.flat.FlatItem.{FlatItem}
use Rattle.smv_core.specs.declared.flat.FlatItem.TheVariants.{Act, Claim}
use Rattle.law_designs.specs.Flattening.{flat_assignments}

-- how many assignments stand in a statement
unfoldable pub assignments_in : FlatStmt → ℕ
assignments_in act = length (flat_assignments act)

-- how far an item moves the place of the next
abbrev pub weight : FlatItem → ℕ
weight (Act number act) = assignments_in act
weight (Claim c) = 1
weight _ = 0

-- an item, with its place where it is a claim
abbrev pub with_place : ℕ → FlatItem → FlatItem
with_place k (Claim c) = Claim (record c { place = k })
with_place k other = other
