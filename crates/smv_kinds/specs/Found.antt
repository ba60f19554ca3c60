-- What the program finds of statements and arguments, as the definitions speak of it.
use Rattle.std.specs.Prelude.{List, [], ◌∷◌, map, Bool, true}
use Rattle.smv_core.specs.Assignments.{index_of}
use Rattle.smv_core.specs.declared.fault.Fault.{Fault}
use Rattle.smv_core.specs.declared.tree.Word.{Word}
use Rattle.smv_core.specs.declared.tree.Part.{Part, Field, At}
use Rattle.smv_core.specs.declared.tree.Expr.{Expr}
use Rattle.smv_core.specs.declared.tree.Arm.{Arm, out-Arm}
use Rattle.law_designs.specs.Kinds.{Operand, takes}
use Rattle.law_designs.specs.References.{Scope, Vars}
use Rattle.law_designs.specs.Operands.{operand, value}
use Rattle.law_designs.specs.KindFaults.{gives, is_fixed, in_stmt}
use Rattle.smv_scope.specs.declared.tables.Tables.{Tables as ScopeTables}
use Rattle.smv_expression_kinds.specs.Forms.{kind_of}
use Rattle.smv_kinds.specs.declared.formals.Formal.{Formal}
use Rattle.smv_kinds.specs.declared.formals.Formal.TheVariants.{Input, Output, Other}

module _ (scope : Scope) (vars : Vars) where
  -- the labels of an arm
  unfoldable pub labels_of : Arm → List Operand
  labels_of arm = map (operand scope vars) (out-Arm arm).labels

  -- the faults in the body of an arm
  unfoldable pub arm_faults : Arm → List Fault
  arm_faults arm = in_stmt scope vars (out-Arm arm).body

-- ---- arguments

-- an index that can be worked out from the text alone
unfoldable pub is_constant : Expr → Bool
is_constant e = is_fixed (index_of [] e)

-- a part of a path, where it is an index
abbrev pub part_constant : Part → Bool
part_constant (Field word) = true
part_constant (At index) = is_constant index

-- all but the first
abbrev pub words_left : List Word → List Word
words_left [] = []
words_left (word ∷ words) = words

-- the faults in an argument of a formal
abbrev pub argument_faults : ScopeTables → Scope → Formal → Expr → List Fault
argument_faults names scope (Input kind) e = takes (kind_of names kind) (value scope [] e)
argument_faults names scope (Output kind) e = gives scope (kind_of names kind) e
argument_faults names scope Other e = []
