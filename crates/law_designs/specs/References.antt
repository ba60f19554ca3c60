-- What a name in an expression leads to, in the module in which it stands.
use Rattle.std.specs.Prelude.{ℕ, List, [], ◌∷◌, ◌++◌, flat_map, zip, Option, Some, None, option_and_then}
use Rattle.smv_core.specs.Values.{Name}
use Rattle.smv_core.specs.Types.{find_name}
use Rattle.smv_core.specs.declared.tree.Word.{Word}
use Rattle.smv_core.specs.declared.tree.Top.{Top}
use Rattle.smv_core.specs.declared.tree.Top.TheVariants.{Module as ModuleOf}
use Rattle.smv_core.specs.declared.tree.Part.{Field}
use Rattle.smv_core.specs.declared.tree.Item.{Item}
use Rattle.smv_mentions.specs.Mentions.{What, signal, instance, in_item}
use Rattle.smv_mentions.specs.Scopes.{Own, Constant, own_names}
use Rattle.smv_mentions.specs.FirstFault.{faults_at}
use Rattle.law_designs.specs.Kinds.{Kind, enumeration, no_kind, Operand, takes}
use Rattle.law_designs.specs.Types.{Whole, Leads, single, Types, leads, types_after}

-- ---- modules

-- a module, by its formals, the types that it may name, and its own names
pub record Module : Type 0 where
  pub formals : List Word
  pub types : Types
  pub own : List (Name × Own)

abbrev pub module_of : Types → List Word → List Item → Module
module_of types formals body = record { formals = formals; types = types; own = own_names (flat_map (in_item []) body) }

-- the modules of a text, each with the types before it
abbrev pub modules_from : Types → List Top → List (Name × Module)
modules_from types [] = []
modules_from types (ModuleOf word formals body at ∷ tops) = (word.name, module_of types formals body) ∷ modules_from types tops
modules_from types (top ∷ tops) = modules_from (types_after types top) tops

-- where an expression stands: in a module, among all modules and constants of the text
pub record Scope : Type 0 where
  pub modules : List (Name × Module)
  pub constants : List (Name × Constant)
  pub here : Module

-- the variables that are bound around, the innermost first, each with its kind
abbrev pub Vars : Type 0
Vars = List (Name × Kind)

-- ---- what a name leads to

-- behind a signal stands what its type has, and behind an instance the names of its module; claims and splits are no references
abbrev pub behind : List (Name × Module) → Types → What → Leads
behind modules types (signal role of) parts = leads types of parts
behind modules types (instance name) (Field word ∷ parts) =
    option_and_then (λ (m : Module). option_and_then (λ (own : Own). behind modules m.types own.what parts) (find_name m.own word.name)) (find_name modules name.name)
behind modules types _ _ = None

module _ (scope : Scope) where
  -- a signal, by a path from its module on
  abbrev pub signal_at : Leads
  signal_at (Field word ∷ parts) = option_and_then (λ (own : Own). behind scope.modules scope.here.types own.what parts) (find_name scope.here.own word.name)
  signal_at _ = None

  abbrev pub constant_at : Leads
  constant_at (Field word ∷ parts) = option_and_then (λ (c : Constant). single (enumeration c.names) parts) (find_name scope.constants word.name)
  constant_at _ = None

  abbrev pub variable_at : Vars → Leads
  variable_at vars (Field word ∷ parts) = option_and_then (λ kind. single kind parts) (find_name vars word.name)
  variable_at vars _ = None

  -- a path leads to a variable, a signal or a constant; where no name has a fault it is only one of these
  abbrev pub reference_at : Vars → Leads
  reference_at vars parts = or_else (variable_at vars parts) (or_else (signal_at parts) (constant_at parts))
    where
      or_else : Option Whole → Option Whole → Option Whole
      or_else None other = other
      or_else (Some w) other = Some w

-- ---- operands

-- A reference is whole, and leads to a single value: else fault 12 stands at it. Each index fits its type.
unfoldable pub reference : ℕ → Option Whole → List Operand → Operand
reference at None indexes = record { kind = no_kind; at = at; faults = faults_at (12, at ∷ []) ++ flat_map (λ (e : Operand). e.faults) indexes }
reference at (Some w) indexes = record { kind = w.value; at = at; faults = flat_map (λ (kind, e). takes kind e) (zip w.over indexes) }
