-- What types are, as far as kinds go, and the faults in them. Each type name stands for what is declared before.
use Rattle.std.specs.Prelude.{ℕ, List, [], ◌∷◌, ◌++◌, Option, Some, None, Bool, true, false, not, ◌||◌, option_map, option_and_then, nat_lt, if◌then◌else◌}
use Rattle.smv_core.specs.Values.{Name}
use Rattle.smv_core.specs.Types.{find_name, names_of}
use Rattle.smv_core.specs.declared.fault.Fault.{Fault}
use Rattle.smv_core.specs.declared.tree.Span.{Span}
use Rattle.smv_core.specs.declared.tree.Word.{Word}
use Rattle.smv_core.specs.declared.tree.Top.{Top}
use Rattle.smv_core.specs.declared.tree.Top.TheVariants.{SetType, Alias, Module}
use Rattle.smv_core.specs.declared.tree.TypeExpr.{TypeExpr, Boolean, Range, Enum, Named, Array', Struct', Row_of-Field, end_of-Field, more_of-Field}
use Rattle.smv_core.specs.declared.tree.Part.{Part, Field, At}
use Rattle.smv_mentions.specs.Scopes.{has_name}
use Rattle.smv_mentions.specs.NameFaults.{place_if}
use Rattle.smv_mentions.specs.FirstFault.{faults_at}
use Rattle.law_designs.specs.Kinds.{Kind, number, enumeration, set_type, no_kind}
use Rattle.smv_core.specs.Rows.{one_type}

-- ---- references

-- a whole reference to a single value: the kinds of its index types, in their order, and of the value
pub record Whole : Type 0 where
  pub over : List Kind
  pub value : Kind

-- what the fields and indexes behind a name lead to; none where that is no whole reference to a single value
abbrev pub Leads : Type 0
Leads = List Part → Option Whole

-- a single value has no field and no index
abbrev pub single : Kind → Leads
single kind [] = Some (record { over = []; value = kind })
single kind _ = None

-- under one more index type
abbrev pub under : Kind → Whole → Whole
under index w = record w { over = index ∷ w.over }

-- the kind of a single value
abbrev pub value_kind : Option Whole → Kind
value_kind None = no_kind
value_kind (Some w) = w.value

-- ---- types

-- the type names that are declared so far
abbrev pub Types : Type 0
Types = List (Name × Leads)

module _ (types : Types) where
  unfoldable mutual
    -- what stands behind a signal of a type
    pub leads : TypeExpr → Leads
    leads Boolean parts = single number parts
    leads (Range span at) parts = single number parts
    leads (Enum names at) parts = single (enumeration (names_of names)) parts
    leads (Named word at) parts = option_and_then (λ named. named parts) (find_name types word.name)
    leads (Array' i (one_type index) o (one_type of)) (At e ∷ parts) =
        option_map (under (value_kind (leads index []))) (leads of parts)
    leads (Struct' shape fields) (Field word ∷ parts) = leads_field fields word parts
    leads _ _ = None

    pub leads_field : {m : _} → Row_of-Field m → Word → Leads
    leads_field end_of-Field word parts = None
    leads_field (more_of-Field names of at rest) word parts = if has_name names word.name then leads of parts else leads_field rest word parts

  -- the kind of an index of this type, or of a variable that runs over it
  abbrev pub index_kind : TypeExpr → Kind
  index_kind t = value_kind (leads t [])

  -- the type names after one more top
  abbrev pub types_after : Top → Types
  types_after (SetType word ordered span at) = types ++ (word.name, single (set_type word.name)) ∷ []
  types_after (Alias word of at) = types ++ (word.name, leads of) ∷ []
  types_after (Module word formals body at) = types

-- ---- faults

-- a range whose first number is above its last
abbrev pub is_reversed : Span → Bool
is_reversed span = nat_lt span.high span.low

-- fault 13: a range in a type that is reversed or goes past 255
abbrev pub range_faults : Span → ℕ → List Fault
range_faults span at = faults_at (13, place_if (is_reversed span || nat_lt 255 span.high) at)

-- a set type may have a declared size
abbrev pub size_faults : Option Span → ℕ → List Fault
size_faults None at = []
size_faults (Some span) at = range_faults span at

-- an index type is a range or a set type
abbrev pub is_index : Kind → Bool
is_index number = true
is_index (set_type name) = true
is_index _ = false

module _ (types : Types) where
  -- fault 12 at the name of a type that is no index type, and fault 13 in a range
  unfoldable pub index_faults : TypeExpr → List Fault
  index_faults (Range span at) = range_faults span at
  index_faults (Named word at) = faults_at (12, place_if (not (is_index (index_kind types (Named word at)))) at)
  index_faults _ = []

  unfoldable mutual
    -- the faults in a type
    pub type_faults : TypeExpr → List Fault
    type_faults (Range span at) = range_faults span at
    type_faults (Array' i (one_type index) o (one_type of)) = index_faults index ++ type_faults of
    type_faults (Struct' shape fields) = field_faults fields
    type_faults _ = []

    pub field_faults : {m : _} → Row_of-Field m → List Fault
    field_faults end_of-Field = []
    field_faults (more_of-Field names of at rest) = type_faults of ++ field_faults rest
