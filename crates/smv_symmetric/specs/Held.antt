-- Kinds and operands as the code holds them.
use Rattle.std.specs.Prelude.{Some}
use Rattle.law_designs.specs.FlatKinds.{FlatKind as Sort, number, enumeration, set_type}
use Rattle.law_designs.specs.SetOperands.{SetOperand as Met}
use Rattle.smv_symmetric.specs.declared.kinds.Kind.{Kind}
use Rattle.smv_symmetric.specs.declared.kinds.Kind.TheVariants.{Number, Enumeration, SetType}
use Rattle.smv_symmetric.specs.declared.operands.Operand.{Operand}

-- the kind that is held
abbrev pub held : Kind → Sort
held Number = number
held (Enumeration list) = enumeration list
held (SetType set) = set_type set

-- the operand that is held
abbrev pub as_met : Operand → Met
as_met x = record { kind = Some (held x.kind); at = x.at; is_loop = x.is_loop }
