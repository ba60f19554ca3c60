-- The connections of an instance, as the program makes them.
use Rattle.std.specs.Prelude.{List}
use Rattle.smv_core.specs.Values.{Name}
use Rattle.smv_core.specs.declared.tree.Word.{Word}
use Rattle.smv_core.specs.declared.tree.Role.{Role}
use Rattle.smv_core.specs.declared.tree.Kind.TheVariants.{Comb}
use Rattle.smv_core.specs.declared.tree.Path.{Path, roll-Path, out-Path}
use Rattle.smv_core.specs.declared.tree.Expr.{Expr, Signal}
use Rattle.smv_core.specs.declared.tree.Stmt.{Stmt, Assign}
use Rattle.law_designs.specs.Statements.{first_token}
use Rattle.law_designs.specs.Entries.{formal, connection}

-- the connection of a formal of this role
abbrev pub connected : Name → (Word × Role) × Expr → List Stmt
connected n ((word, role), e) = connection role n word.name e

-- the definition of an input
abbrev pub input_act : Name → Name → Expr → Stmt
input_act n a e = Assign Comb (formal n a (first_token e)) e (first_token e)

-- the definition of what an output gives
abbrev pub output_act : Name → Name → Path → Stmt
output_act n a path = Assign Comb (roll-Path (record { parts = (out-Path path).parts; at = (out-Path path).at })) (Signal (formal n a (out-Path path).at)) (out-Path path).at
