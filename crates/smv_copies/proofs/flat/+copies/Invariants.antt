use Rattle.std.proofs.Common.{◌≡◌, ◌++◌, drop}
use Rattle.smv_copies.proofs.flat.+copies.Given as goal

abbrev pub invariant-copy_all_signed-loop-signed : goal.invariant-copy_all_signed-loop-signed
invariant-copy_all_signed-loop-signed l = l.copies ++ drop l.signed-index l.all ≡ l.all

abbrev pub invariant-copy_expressions-loop-expr : goal.invariant-copy_expressions-loop-expr
invariant-copy_expressions-loop-expr l = l.copies ++ drop l.expr-index l.exprs ≡ l.exprs

abbrev pub invariant-copy_members-loop-member : goal.invariant-copy_members-loop-member
invariant-copy_members-loop-member l = l.copies ++ drop l.member-index l.members ≡ l.members
