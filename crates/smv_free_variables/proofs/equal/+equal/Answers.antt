use Rattle.std.proofs.Common.{arith}
use Rattle.smv_free_variables.proofs.PlacelessLaws.{equations}
use Rattle.smv_free_variables.proofs.equal.+equal.Goals as goal

pub is_equal-returns-in-Number-Number : goal.is_equal-returns-in-Number-Number
is_equal-returns-in-Number-Number t c = grind (arith, equations)

pub is_equal-returns-in-Var-Var : goal.is_equal-returns-in-Var-Var
is_equal-returns-in-Var-Var t c = grind (arith, equations)

pub is_equal-returns-in-Loop-Loop : goal.is_equal-returns-in-Loop-Loop
is_equal-returns-in-Loop-Loop t c = grind (arith, equations)

pub is_equal-returns-then-s-t : goal.is_equal-returns-then-s-t
is_equal-returns-then-s-t t c = grind (arith, equations)

pub is_equal-returns-in-Not-Not : goal.is_equal-returns-in-Not-Not
is_equal-returns-in-Not-Not t c = grind (arith, equations)

pub is_equal-returns-in-And-And : goal.is_equal-returns-in-And-And
is_equal-returns-in-And-And t c = grind (arith, equations)

pub is_equal-returns-in-Or-Or : goal.is_equal-returns-in-Or-Or
is_equal-returns-in-Or-Or t c = grind (arith, equations)

pub is_equal-returns-in-Implies-Implies : goal.is_equal-returns-in-Implies-Implies
is_equal-returns-in-Implies-Implies t c = grind (arith, equations)

pub is_equal-returns-then-is_equal : goal.is_equal-returns-then-is_equal
is_equal-returns-then-is_equal t c = grind (arith, equations)

pub is_equal-returns-then-is_equal-2 : goal.is_equal-returns-then-is_equal-2
is_equal-returns-then-is_equal-2 t c = grind (arith, equations)

pub is_equal-returns-then-is_equal-3 : goal.is_equal-returns-then-is_equal-3
is_equal-returns-then-is_equal-3 t c = grind (arith, equations)

pub is_equal-returns-then-is_equal-4 : goal.is_equal-returns-then-is_equal-4
is_equal-returns-then-is_equal-4 t c = grind (arith, equations)

pub is_equal-returns-then-m-n : goal.is_equal-returns-then-m-n
is_equal-returns-then-m-n t c = grind (arith, equations)

pub is_equal-returns-then-is_equal-6 : goal.is_equal-returns-then-is_equal-6
is_equal-returns-then-is_equal-6 t c = grind (arith, equations)

pub is_equal-returns-then-eq-2 : goal.is_equal-returns-then-eq-2
is_equal-returns-then-eq-2 t c = grind (arith, equations)

pub is_equal-returns-then-eq-3 : goal.is_equal-returns-then-eq-3
is_equal-returns-then-eq-3 t c = grind (arith, equations)

pub is_equal-returns-in-List-List : goal.is_equal-returns-in-List-List
is_equal-returns-in-List-List t c = grind (arith, equations)

pub is_equal-returns-in-None-None : goal.is_equal-returns-in-None-None
is_equal-returns-in-None-None t c = grind (arith, equations)

pub is_equal-returns-in-Some-Some : goal.is_equal-returns-in-Some-Some
is_equal-returns-in-Some-Some t c = grind (arith, equations)
