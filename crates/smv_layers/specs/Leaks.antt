-- The first fault of layers in each part of a design.
use Rattle.std.specs.Prelude.{ℕ, List, [], ◌∷◌, map, filter, slice_get, is_none, Option, Some, None, Bool, false, if◌then◌else◌}
use Rattle.smv_core.specs.declared.fault.Fault.{Fault}
use Rattle.smv_core.specs.declared.flat.Family.{Family}
use Rattle.smv_core.specs.declared.flat.Def.{Def}
use Rattle.smv_core.specs.declared.flat.FlatExpr.{FlatExpr}
use Rattle.smv_core.specs.declared.flat.FlatMember.{FlatMember, One, Span as SpanOf}
use Rattle.smv_core.specs.declared.flat.FlatSigned.{FlatSigned, out-FlatSigned}
use Rattle.smv_core.specs.declared.flat.DefBody.{DefBody, Nothing, Assign, If', First', Forall', Row_of-DefBody, end_of-DefBody, more_of-DefBody}
use Rattle.smv_mentions.specs.FirstFault.{first_of, faults_at}
use Rattle.smv_first_fault.specs.Firsts.{earlier_of}
use Rattle.law_designs.specs.Reading.{Reference, references}

-- the first of some faults, if there is one
abbrev pub first_among : List (Option Fault) → Option Fault
first_among [] = None
first_among (f ∷ more) = earlier_of f (first_among more)

-- the family is that of an abstract signal
abbrev pub is_abstract : Option Family → Bool
is_abstract None = false
is_abstract (Some f) = f.is_abstract

module _ (families : List Family) where
  -- the first fault 19 of some references
  abbrev pub first_read : List Reference → Option Fault
  first_read reads = first_of (faults_at (19, map (λ (r : Reference). r.at) (filter (λ (r : Reference). is_abstract (slice_get families r.family)) reads)))

  -- of the references in an expression
  unfoldable pub read_fault : FlatExpr → Option Fault
  read_fault e = first_read (references e)

  abbrev pub member_fault : FlatMember → Option Fault
  member_fault (One e) = read_fault e
  member_fault (SpanOf span at) = None

  abbrev pub signed_fault : FlatSigned → Option Fault
  signed_fault x = read_fault (out-FlatSigned x).of

  -- a fault of this number at this place, where the family is abstract
  abbrev pub fault_if_abstract : ℕ → ℕ → ℕ → Option Fault
  fault_if_abstract number family at = if is_abstract (slice_get families family) then Some (record { number = number; at = at }) else None

  module _ (family : ℕ) where
    -- what an assignment of the family does: it reads what the conditions around it read, its indexes and its value
    abbrev pub assigned_fault : Option Fault → List FlatExpr → FlatExpr → ℕ → Option Fault
    assigned_fault around left value at = earlier_of (earlier_of (earlier_of around (first_among (map read_fault left))) (read_fault value)) (fault_if_abstract 20 family at)

    unfoldable mutual
      -- the first fault in a part of the family's definition, where this is the first of the conditions around it
      pub part_fault : Option Fault → DefBody → Option Fault
      part_fault around Nothing = None
      part_fault around (Assign left value place at) = assigned_fault around left value at
      part_fault around (If' cond l (more_of-DefBody left end_of-DefBody) r (more_of-DefBody right end_of-DefBody)) =
          earlier_of (part_fault (earlier_of around (read_fault cond)) left) (part_fault (earlier_of around (read_fault cond)) right)
      part_fault around (First' shape parts) = parts_fault around parts
      part_fault around (Forall' var over shape (more_of-DefBody body end_of-DefBody)) = part_fault around body

      pub parts_fault : {m : _} → Option Fault → Row_of-DefBody m → Option Fault
      parts_fault around end_of-DefBody = None
      parts_fault around (more_of-DefBody part rest) = earlier_of (part_fault around part) (parts_fault around rest)

  -- the first fault of a definition outside layers
  abbrev pub def_fault : Def → Option Fault
  def_fault def =
      if is_none def.layer then earlier_of (part_fault def.family None def.init) (earlier_of (part_fault def.family None def.next) (part_fault def.family None def.comb)) else None
