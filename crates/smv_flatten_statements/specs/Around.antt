-- The variables around an expression or a statement, as the program holds them.
use Rattle.std.specs.Prelude.{ℕ, List, [], ◌∷◌, map, Option, Some, None}
use Rattle.smv_core.specs.Values.{Name, Path}
use Rattle.smv_core.specs.Assignments.{Bound, loop, any, Around}
use Rattle.smv_core.specs.declared.flat.FlatExpr.{FlatExpr}
use Rattle.smv_core.specs.declared.flat.FlatExpr as flat
use Rattle.law_designs.specs.Numbers.{bound_in}
use Rattle.smv_flatten_statements.specs.declared.vars.Bound.{Bound as HeldBound}
use Rattle.smv_flatten_statements.specs.declared.vars.Bound.TheVariants.{Loop, Any}
use Rattle.smv_flatten_statements.specs.declared.vars.Var.{Var}

-- how a variable is bound
abbrev pub bound_of : HeldBound → Bound
bound_of (Loop value) = loop value
bound_of Any = any

-- the variables that are bound around, the innermost first
unfoldable pub around_of : List Var → Around
around_of vars = map (λ var. (var.name.now, bound_of var.bound)) vars

-- a variable that is bound so inside these
abbrev pub reference_of : Bound → Around → ℕ → FlatExpr
reference_of (loop n) outer at = flat.Loop n at
reference_of any outer at = flat.Var (bound_in outer) at

-- the name of a path of one name
abbrev pub only : Path → Option Name
only (name ∷ []) = Some name
only _ = None
