-- What types lead to, by the tops in which they stand, and what the tables of a text keep.
use Rattle.std.specs.Prelude.{◌≡◌, ℕ, ◌+◌, List, [], ◌∷◌, take, length, slice_get, Option, Some, None, option_map, option_and_then, if◌then◌else◌, nat_lt, not, Bool}
use Rattle.smv_core.specs.Values.{Name}
use Rattle.smv_core.specs.Types.{find_name, names_of}
use Rattle.smv_core.specs.declared.tree.Text.{Text}
use Rattle.smv_core.specs.declared.tree.Top.{Top}
use Rattle.smv_core.specs.declared.tree.Top.TheVariants.{SetType as SetTypeOf, Alias, Module as ModuleOf}
use Rattle.smv_core.specs.declared.tree.Part.{Part, Field, At}
use Rattle.smv_core.specs.declared.tree.Field.{out-Field}
use Rattle.smv_core.specs.declared.fault.Fault.{Fault}
use Rattle.smv_mentions.specs.NameFaults.{place_if}
use Rattle.smv_mentions.specs.FirstFault.{faults_at}
use Rattle.smv_scope.specs.Numbered.{field_named}
use Rattle.smv_scope.specs.Held.{AreTables}
use Rattle.smv_scope.specs.Compared.{listed}
use Rattle.smv_scope.specs.declared.tables.Tables.{Tables as ScopeTables}
use Rattle.law_designs.specs.Kinds.{Kind, number, enumeration, set_type, no_kind}
use Rattle.law_designs.specs.Types.{Types, Leads, single, under, leads, types_after}
use Rattle.law_designs.specs.References.{Module, module_of}
use Rattle.law_designs.specs.Owned.{LeadsOwned}
use Rattle.smv_expression_kinds.specs.declared.kinds.ValueKind.{ValueKind}
use Rattle.smv_expression_kinds.specs.declared.kinds.ValueKind.TheVariants.{Number, Enumeration, Listed, SetType, Unknown}
use Rattle.smv_expression_kinds.specs.declared.tables.Form.{Form}
use Rattle.smv_expression_kinds.specs.declared.tables.Form.TheVariants.{Single, Array, Struct}
use Rattle.smv_expression_kinds.specs.declared.tables.Tables.{Tables}

-- a kind, where a list of constants may be held by its number in these tables
abbrev pub kind_of : ScopeTables → ValueKind → Kind
kind_of names Number = number
kind_of names (Enumeration words) = enumeration (names_of words.now)
kind_of names (Listed list) = enumeration (listed names.lists.items list)
kind_of names (SetType name) = set_type name.now
kind_of names Unknown = no_kind

-- fault 12 at what does not fit
unfoldable pub misfit : Bool → ℕ → List Fault
misfit fits at = faults_at (12, place_if (not fits) at)

-- the types that are declared by these tops
abbrev pub types_from : Types → List Top → Types
types_from types [] = types
types_from types (top ∷ tops) = types_from (types_after types top) tops

-- the types that are declared before the top of a number
abbrev pub types_before : Text → ℕ → Types
types_before text place = types_from [] (take place text.tops)

-- what a top leads to, where it is a type
abbrev pub top_leads : Types → Option Top → Leads
top_leads types None parts = None
top_leads types (Some (SetTypeOf word ordered span at)) parts = single (set_type word.name) parts
top_leads types (Some (Alias word of at)) parts = leads types of parts
top_leads types (Some (ModuleOf word formals body at)) parts = None

-- what the top of a number leads to
abbrev pub leads_at : Text → ℕ → Leads
leads_at text place parts = top_leads (types_before text place) (slice_get text.tops place) parts

-- the module that a top is, and else one without names
abbrev pub module_in : Types → Option Top → Module
module_in types (Some (ModuleOf word formals body at)) = module_of types formals body
module_in types _ = record { formals = []; types = types; own = [] }

-- what a form leads to
abbrev pub form_leads : ScopeTables → Form → Leads
form_leads names (Single kind) parts = single (kind_of names kind) parts
form_leads names (Array index of place) (At e ∷ parts) = option_map (under (kind_of names index)) (leads (types_before names.text.now place) of.now parts)
form_leads names (Struct fields place) (Field word ∷ parts) = option_and_then (λ field. leads (types_before names.text.now place) (out-Field field).of parts) (field_named fields.now word.name)
form_leads names _ _ = None

-- each top has its form
abbrev pub AreForms : ScopeTables → List Form → Type 0
AreForms names forms = (i : ℕ) (form : Form) → slice_get forms i ≡ Some form → (parts : List Part) → leads_at names.text.now i parts ≡ form_leads names form parts

-- the types among some tops, each by its number, which count from this one
abbrev pub types_in : ℕ → List Top → List (Name × ℕ)
types_in n [] = []
types_in n (SetTypeOf word ordered span at ∷ tops) = (word.name, n) ∷ types_in (n + 1) tops
types_in n (Alias word of at ∷ tops) = (word.name, n) ∷ types_in (n + 1) tops
types_in n (ModuleOf word formals body at ∷ tops) = types_in (n + 1) tops

-- the modules among them
abbrev pub modules_in : ℕ → List Top → List (Name × ℕ)
modules_in n [] = []
modules_in n (ModuleOf word formals body at ∷ tops) = (word.name, n) ∷ modules_in (n + 1) tops
modules_in n (_ ∷ tops) = modules_in (n + 1) tops

-- the number of the type of a name that is declared before the top of a number
abbrev pub type_before : List (Name × ℕ) → ℕ → Name → Option ℕ
type_before types place name = option_and_then (λ i. if nat_lt i place then Some i else None) (find_name types name)

-- each signal of a text that is of an enumeration has the list to which the first constant of the enumeration belongs
abbrev pub AreOwned : Text → Type 0
AreOwned text = (place : ℕ) → LeadsOwned text (module_in (types_before text place) (slice_get text.tops place))

-- the tables of a text
pub record AreKindTables (tables : Tables) : Type 0 where
  pub names : AreTables tables.names
  pub types : tables.types ≡ types_in 0 tables.names.text.now.tops
  pub modules : tables.modules ≡ modules_in 0 tables.names.text.now.tops
  pub forms : AreForms tables.names tables.forms.items
  pub all : length tables.forms.items ≡ length tables.names.text.now.tops
  pub owned : AreOwned tables.names.text.now
