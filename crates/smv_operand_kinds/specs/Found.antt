-- What the program finds of expressions, as the definitions speak of it.
use Rattle.std.specs.Prelude.{ℕ, List, [], ◌∷◌, ◌++◌, map, Option, Some, None, option_map, unwrap_or}
use Rattle.std.proofs.Common.{Bor}
use Rattle.smv_core.specs.declared.fault.Fault.{Fault}
use Rattle.smv_core.specs.declared.tree.Op.{Op}
use Rattle.smv_core.specs.declared.tree.Op.TheVariants.{Equal, Differ}
use Rattle.smv_core.specs.declared.tree.Part.{Part, Field, At}
use Rattle.smv_core.specs.declared.tree.Signed.{Signed, out-Signed}
use Rattle.smv_core.specs.declared.tree.Member.{Member, One, Span as SpanOf}
use Rattle.smv_mentions.specs.NameFaults.{place_if}
use Rattle.smv_mentions.specs.FirstFault.{faults_at}
use Rattle.law_designs.specs.Kinds.{Kind, Operand, takes, number_at, has_order, first_at}
use Rattle.law_designs.specs.Types.{is_reversed}
use Rattle.law_designs.specs.References.{Scope, Vars}
use Rattle.law_designs.specs.Operands.{operand}
use Rattle.smv_expression_kinds.specs.declared.kinds.ValueKind.{ValueKind}
use Rattle.smv_scope.specs.declared.tables.Tables.{Tables as ScopeTables}
use Rattle.smv_expression_kinds.specs.Forms.{kind_of, misfit}

-- the faults that an order adds at its two sides, each by its kind and place
abbrev pub order_faults : Op → Kind → ℕ → Kind → ℕ → List Fault
order_faults Equal left at right other = []
order_faults Differ left at right other = []
order_faults op left at right other = misfit (has_order left) at ++ misfit (has_order right) other

-- ---- references

-- the kinds of the index types that are left
abbrev pub kinds_left : ScopeTables → Option (Bor (List ValueKind)) → Option (List Kind)
kinds_left names over = option_map (λ kinds. map (kind_of names) kinds.now) over

-- what is left behind one part of a path
abbrev pub left_behind : Option (List Kind) → Part → Option (List Kind)
left_behind (Some (kind ∷ over)) (At index) = Some over
left_behind over part = over

module _ (scope : Scope) (vars : Vars) where
  -- the faults in one part of a path
  abbrev pub part_faults : Option (List Kind) → Part → List Fault
  part_faults over (Field word) = []
  part_faults None (At index) = (operand scope vars index).faults
  part_faults (Some []) (At index) = []
  part_faults (Some (kind ∷ over)) (At index) = takes kind (operand scope vars index)

  -- the faults in the indexes of a path, behind a reference that leads nowhere or to a value over these kinds
  abbrev pub path_faults : Option (List Kind) → List Part → List Fault
  path_faults over [] = []
  path_faults over (part ∷ parts) = part_faults over part ++ path_faults (left_behind over part) parts

  -- what a sum adds
  unfoldable pub addend : Signed → Operand
  addend x = operand scope vars (out-Signed x).of

  -- a member of a listed set
  abbrev pub member : Member → Operand
  member (One e) = operand scope vars e
  member (SpanOf span at) = number_at at (faults_at (13, place_if (is_reversed span) at))

-- the faults at an index: it has no type, it is one too many, or it fits a kind
abbrev pub next_faults : ScopeTables → Option (Option ValueKind) → Operand → List Fault
next_faults names None e = e.faults
next_faults names (Some None) e = []
next_faults names (Some (Some kind)) e = takes (kind_of names kind) e

-- where some operands begin
unfoldable pub begins_at : List Operand → ℕ
begins_at es = first_at es

-- a place, or 0 where there is none
unfoldable pub or_zero : Option ℕ → ℕ
or_zero place = unwrap_or place 0

-- the same, behind others that begin there
abbrev pub begin : Option ℕ → List Operand → Option ℕ
begin first [] = first
begin first (e ∷ es) = begin (Some (unwrap_or first e.at)) es
