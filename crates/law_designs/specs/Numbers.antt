-- The numbers by which a flattened text speaks of set types, enumerations, families, constants and variables.
use Rattle.std.specs.Prelude.{ℕ, ◌+◌, List, [], ◌∷◌, ◌++◌, length, get_or, Option, Some, None, if◌then◌else◌}
use Rattle.std.specs.Str.{bytes_eq}
use Rattle.std.specs.List.{list_any, position_or_len}
use Rattle.smv_core.specs.Values.{Name, Path, Simple, range, choice, scalarset, ordset}
use Rattle.smv_core.specs.Types.{Types, Family, simple}
use Rattle.smv_core.specs.Outcome.{same_path, family_at}
use Rattle.smv_core.specs.Assignments.{Around, loop, any}
use Rattle.smv_core.specs.declared.tree.TypeExpr.{TypeExpr}
use Rattle.smv_core.specs.declared.flat.SetInfo.{SetInfo}
use Rattle.smv_core.specs.declared.flat.Simple.{Simple as FlatSimple}
use Rattle.smv_core.specs.declared.flat.Simple.TheVariants.{Range, Enum, Set}
use Rattle.smv_core.specs.declared.flat.FlatExpr.{FlatExpr, Read, Var, Loop, Constant}

-- where something stands: the types, set types, enumerations and families of its text, and its instance
pub record Scope : Type 0 where
  pub types : Types
  pub sets : List SetInfo
  pub enums : List (List Name)
  pub families : List Family
  pub instance : Path

-- ---- variables

-- how many variables are bound around: a `for` is written out, so it binds none
abbrev pub bound_in : Around → ℕ
bound_in [] = 0
bound_in ((name, loop n) ∷ vars) = bound_in vars
bound_in ((name, any) ∷ vars) = bound_in vars + 1

-- the innermost variable of a name: that of a `forall` by how many are bound around it, that of a `for` as its value
abbrev pub variable : Around → Name → ℕ → Option FlatExpr
variable [] name at = None
variable ((other, loop n) ∷ vars) name at = if bytes_eq other name then Some (Loop n at) else variable vars name at
variable ((other, any) ∷ vars) name at = if bytes_eq other name then Some (Var (bound_in vars) at) else variable vars name at

-- the variable that a path is
abbrev pub variable_at : Around → Path → ℕ → Option FlatExpr
variable_at vars (name ∷ []) at = variable vars name at
variable_at vars _ at = None

module _ (scope : Scope) where
  -- ---- types of one value

  -- a set type, by its place among the set types
  abbrev pub set_number : Name → ℕ
  set_number name = position_or_len (λ info. bytes_eq info.name name) scope.sets

  -- a type by its numbers; an enumeration is the list of its constants, in their order
  abbrev pub flat_simple : Simple → FlatSimple
  flat_simple (range low high) = Range low high
  flat_simple (choice names) = Enum (position_or_len (same_path names) scope.enums)
  flat_simple (scalarset name) = Set (set_number name)
  flat_simple (ordset name) = Set (set_number name)

  -- no text without faults has a binder over a type of more than one value; it is written as an enumeration of nothing
  abbrev pub simple_or_empty : Option Simple → FlatSimple
  simple_or_empty (Some t) = flat_simple t
  simple_or_empty None = Enum (length scope.enums)

  -- the type over which a binder runs
  abbrev pub flat_over : TypeExpr → FlatSimple
  flat_over over = simple_or_empty (simple scope.types over)

  -- ---- paths

  -- a constant, by the first list that has it and by its place there
  abbrev pub constant_in : Path → ℕ → FlatExpr
  constant_in (name ∷ []) at =
      let list = position_or_len (list_any (bytes_eq name)) scope.enums in
      Constant list (position_or_len (bytes_eq name) (get_or scope.enums list [])) at
  constant_in _ at = Constant (length scope.enums) 0 at

  -- a family, by its place among the families
  abbrev pub family_number : Path → ℕ
  family_number path = position_or_len (λ f. same_path f.path path) scope.families

  -- a variable, or else an element of a family, or else a constant
  abbrev pub or_signal : Option FlatExpr → Option Family → Path → List FlatExpr → ℕ → FlatExpr
  or_signal (Some variable) f path indexes at = variable
  or_signal None (Some f) path indexes at = Read (family_number (scope.instance ++ path)) indexes at
  or_signal None None path indexes at = constant_in path at

  -- what a path with these indexes is, inside these variables
  abbrev pub flat_path : Around → Path → List FlatExpr → ℕ → FlatExpr
  flat_path vars path indexes at = or_signal (variable_at vars path at) (family_at scope.families (scope.instance ++ path)) path indexes at
