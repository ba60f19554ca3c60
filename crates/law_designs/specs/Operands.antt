-- The kind of each expression, and the faults in it.
use Rattle.std.specs.Prelude.{ℕ, List, [], ◌∷◌, ◌++◌, map, nat_eq}
use Rattle.smv_core.specs.declared.fault.Fault.{Fault}
use Rattle.smv_core.specs.declared.tree.Word.{Word}
use Rattle.smv_core.specs.declared.tree.Op.{Op}
use Rattle.smv_core.specs.declared.tree.Op.TheVariants.{Equal, Differ}
use Rattle.smv_core.specs.declared.tree.TypeExpr.{TypeExpr}
use Rattle.smv_core.specs.declared.tree.Path.{Path, out-Path}
use Rattle.smv_core.specs.declared.tree.Part.{Field, At}
use Rattle.smv_core.specs.declared.tree.Member.{One, Span as SpanOf}
use Rattle.smv_core.specs.declared.tree.Expr.{Expr, Number, Signal', Not', And', Or', Implies', Iff', Compare', Within', Sum', Modulo', Choose', All', Any', List', Each', None', Some', Row_of-Expr, end_of-Expr, more_of-Expr, Row_of-Part, end_of-Part, more_of-Part, Row_of-Member, end_of-Member, more_of-Member, Row_of-Signed, end_of-Signed, more_of-Signed, items-the_row-Part}
use Rattle.smv_core.specs.Walk.{indexes_of}
use Rattle.smv_mentions.specs.NameFaults.{place_if}
use Rattle.smv_mentions.specs.FirstFault.{faults_at}
use Rattle.law_designs.specs.Kinds.{Operand, number_at, of_numbers, of_alike, takes_number, ordered, chosen, listed, stray_set}
use Rattle.law_designs.specs.Types.{index_kind, index_faults, is_reversed}
use Rattle.law_designs.specs.References.{Scope, Vars, reference_at, signal_at, reference}
use Rattle.smv_core.specs.Rows.{one_expr, Condition}

-- the sides of `=` and `~=` have one kind, and an order has its own rule
abbrev pub compared : Op → Operand → Operand → Operand
compared Equal left right = of_alike (left ∷ right ∷ [])
compared Differ left right = of_alike (left ∷ right ∷ [])
compared op left right = number_at left.at (ordered left right)

-- `mod 0` does not fit
abbrev pub remainder : Operand → ℕ → ℕ → Operand
remainder e by at = number_at e.at (takes_number e ++ faults_at (12, place_if (nat_eq by 0) at))

module _ (scope : Scope) where
  -- one more variable is bound, over an index type
  abbrev pub bind : Vars → Word → TypeExpr → Vars
  bind vars var over = (var.name, index_kind scope.here.types over) ∷ vars

  -- `&[ body : var in over ]` or `|[ body : var in over ]`: the body is a number
  abbrev pub reduced : ℕ → Operand → TypeExpr → Operand
  reduced at body over = number_at at (takes_number body ++ index_faults scope.here.types over)

  unfoldable mutual
    -- an expression where no set may stand
    pub operand : Vars → Expr → Operand
    operand vars (Number value at) = number_at at []
    operand vars (Signal' shape parts at) = reference at (reference_at scope vars (items-the_row-Part _ parts)) (indexes vars parts)
    operand vars (Not' shape (one_expr e) at) = number_at at (takes_number (operand vars e))
    operand vars (And' shape parts) = of_numbers (operands vars parts)
    operand vars (Or' shape parts) = of_numbers (operands vars parts)
    operand vars (Implies' shape parts) = of_numbers (operands vars parts)
    operand vars (Iff' l (one_expr left) r (one_expr right)) = of_numbers (operand vars left ∷ operand vars right ∷ [])
    operand vars (Compare' op l (one_expr left) r (one_expr right)) = compared op (operand vars left) (operand vars right)
    operand vars (Within' l (one_expr left) r (one_expr set)) = of_alike (operand vars left ∷ looked_through vars set)
    operand vars (Sum' f (one_expr first) shape more) = of_numbers (operand vars first ∷ summands vars more)
    operand vars (Modulo' shape (one_expr e) by at) = remainder (operand vars e) by at
    operand vars (Choose' c (one_expr cond) l (one_expr left) r (one_expr right)) = chosen (operand vars cond) (operand vars left) (operand vars right)
    operand vars (All' shape (one_expr body) var over at) = reduced at (operand (bind vars var over) body) over
    operand vars (Any' shape (one_expr body) var over at) = reduced at (operand (bind vars var over) body) over
    operand vars (List' shape parts at) = stray_set at
    operand vars (Each' var over cond at) = stray_set at

    pub operands : {m : _} → Vars → Row_of-Expr m → List Operand
    operands vars end_of-Expr = []
    operands vars (more_of-Expr e rest) = operand vars e ∷ operands vars rest

    -- the indexes of a path
    pub indexes : {m : _} → Vars → Row_of-Part m → List Operand
    indexes vars end_of-Part = []
    indexes vars (more_of-Part (Field word) rest) = indexes vars rest
    indexes vars (more_of-Part (At index) rest) = operand vars index ∷ indexes vars rest

    pub summands : {m : _} → Vars → Row_of-Signed m → List Operand
    summands vars end_of-Signed = []
    summands vars (more_of-Signed minus e rest) = operand vars e ∷ summands vars rest

    -- the members of a listed set; fault 13 where a span is reversed
    pub members : {m : _} → Vars → Row_of-Member m → List Operand
    members vars end_of-Member = []
    members vars (more_of-Member (One e) rest) = operand vars e ∷ members vars rest
    members vars (more_of-Member (SpanOf span at) rest) = number_at at (faults_at (13, place_if (is_reversed span) at)) ∷ members vars rest

    -- what stands right of `in`: the members of a listed set, and no comprehension
    pub looked_through : Vars → Expr → List Operand
    looked_through vars (List' shape parts at) = members vars parts
    looked_through vars (Each' var over cond at) = stray_set at ∷ []
    looked_through vars _ = []

  -- the condition of a comprehension, or none
  abbrev pub condition_faults : Vars → Condition → List Fault
  condition_faults vars None' = []
  condition_faults vars (Some' shape (one_expr cond)) = takes_number (operand vars cond)

  -- the value of an assignment: a set may stand there, also as a branch of `?:`
  unfoldable pub value : Vars → Expr → Operand
  value vars (List' shape parts at) = listed at (members vars parts)
  value vars (Each' var over cond at) =
      record { kind = index_kind scope.here.types over; at = at; faults = index_faults scope.here.types over ++ condition_faults (bind vars var over) cond }
  value vars (Choose' c (one_expr cond) l (one_expr left) r (one_expr right)) = chosen (operand vars cond) (value vars left) (value vars right)
  value vars e = operand vars e

  -- what an assignment sets: a signal
  abbrev pub target : Vars → Path → Operand
  target vars path = reference (out-Path path).at (signal_at scope (out-Path path).parts) (map (operand vars) (indexes_of (out-Path path).parts))
