-- What the program finds of names and paths, as the definitions speak of it.
use Rattle.std.specs.Prelude.{ℕ, List, [], ◌∷◌, ◌++◌, map, slice_get, Option, Some, None, option_map}
use Rattle.smv_core.specs.declared.tree.Word.{Word}
use Rattle.smv_core.specs.declared.tree.Text.{Text}
use Rattle.smv_core.specs.declared.tree.Part.{Part, Field}
use Rattle.law_designs.specs.Kinds.{Kind}
use Rattle.law_designs.specs.Types.{Whole, Leads}
use Rattle.law_designs.specs.References.{modules_from, Scope, Vars, behind}
use Rattle.smv_expression_kinds.specs.Forms.{kind_of, types_before, module_in, form_leads}
use Rattle.smv_expression_kinds.specs.declared.paths.Whole.{Whole as HeldWhole}
use Rattle.smv_expression_kinds.specs.declared.paths.Reached.{Reached}
use Rattle.smv_scope.specs.declared.paths.Inner.{Inner}
use Rattle.smv_scope.specs.declared.tables.Tables.{Tables as ScopeTables}
use Rattle.smv_mentions.specs.Scopes.{pieces, constants}
use Rattle.smv_mentions.specs.Said.{said_of}
use Rattle.smv_expression_kinds.specs.declared.lookups.Var.{Var}
use Rattle.smv_expression_kinds.specs.declared.lookups.Scope.{Scope as HeldScope}

-- the variables that are bound around, the innermost first
unfoldable pub vars_of : ScopeTables → List Var → Vars
vars_of names vars = map (λ var. (var.name.now, kind_of names var.kind)) vars

-- a whole reference to a single value
abbrev pub whole_of : ScopeTables → HeldWhole → Whole
whole_of names w = record { over = map (kind_of names) w.over.items; value = kind_of names w.value }

-- ---- where something stands

-- where something stands in the top of a number
abbrev pub scope_at : Text → ℕ → Scope
scope_at text place = record { modules = modules_from [] text.tops; constants = constants (pieces text); here = module_in (types_before text place) (slice_get text.tops place) }

unfoldable pub scope_of : HeldScope → Scope
scope_of scope = scope_at scope.tables.now.names.text.now scope.place

-- the same tables, in the top of another number
abbrev pub moved : HeldScope → ℕ → HeldScope
moved scope place = record { tables = scope.tables; place = place }

-- ---- paths

-- a single value over these index kinds
abbrev pub whole_in : List Kind → Kind → Whole
whole_in over value = record { over = over; value = value }

-- the name that a path is, where it is a name alone
abbrev pub lone : List Part → Option Word
lone (Field word ∷ []) = Some word
lone _ = None

-- over these index kinds before
abbrev pub behind_over : List Kind → Whole → Whole
behind_over over w = record w { over = over ++ w.over }

-- what stands behind some parts of a path
abbrev pub reached_leads : ScopeTables → Reached → Leads
reached_leads names reached parts = option_map (behind_over (map (kind_of names) reached.over.items)) (form_leads names reached.form parts)

-- what stands behind a name of a module
abbrev pub inner_leads : Text → Inner → Leads
inner_leads text inner parts = behind (modules_from [] text.tops) (types_before text inner.place) (said_of inner.own.what) parts
