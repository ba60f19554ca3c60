-- What a statement says of one family, for one kind of assignment.
use Rattle.std.specs.Prelude.{ℕ, ◌+◌, List, [], ◌∷◌, if◌then◌else◌}
use Rattle.smv_core.specs.declared.tree.Kind.{Kind}
use Rattle.smv_core.specs.declared.flat.FlatStmt.{FlatStmt}
use Rattle.smv_core.specs.declared.flat.DefBody.{DefBody}
use Rattle.law_designs.specs.Standing.{count}
use Rattle.law_designs.specs.Definitions.{is_nothing, flat_of}

-- how many places a statement takes: one for each assignment
unfoldable pub size : FlatStmt → ℕ
size act = count act

-- how many some statements take
abbrev pub sizes : List FlatStmt → ℕ
sizes [] = 0
sizes (x ∷ xs) = size x + sizes xs

-- a part, where it has a result
abbrev pub kept : DefBody → List DefBody
kept part = if is_nothing part then [] else part ∷ []

-- what a statement says, whose first assignment has this place
unfoldable pub said : Kind → ℕ → ℕ → FlatStmt → DefBody
said kind family k act = flat_of kind family k act
