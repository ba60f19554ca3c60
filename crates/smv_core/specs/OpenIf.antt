-- Which statements end in an `if` without `else`, to which an `else` that follows would belong.
use Rattle.std.specs.Prelude.{Bool, true, false, Some, None}
use Rattle.smv_core.specs.declared.tree.Stmt.{Stmt, fold-Stmt}
use Rattle.smv_core.specs.declared.tree.Stmt.TheOpen.{Stmt-F}

-- whether it does, where the same is known of the statements in it
abbrev pub open_at : Stmt-F Bool Bool → Bool
open_at (Stmt-F.If cond first None at) = true
open_at (Stmt-F.If cond first (Some second) at) = second
open_at (Stmt-F.Default first second at) = second
open_at (Stmt-F.For var from to closed step body at) = body
open_at (Stmt-F.Forall var over body at) = body
open_at _ = false

abbrev pub ends_in_open_if : Stmt → Bool
ends_in_open_if = fold-Stmt Bool Bool open_at (λ arm. false)
