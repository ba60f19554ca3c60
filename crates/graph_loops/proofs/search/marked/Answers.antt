use Rattle.std.proofs.Common.{inl, inr, refl, arith}
use Rattle.graph_loops.proofs.search.marked.Goals as goal

pub returns-then-old-gt0 : goal.returns-then-old-gt0
returns-then-old-gt0 c = inl (c.if-old-gt0.true, refl)

pub returns-in-None : goal.returns-in-None
returns-in-None c = let l = c.if-old-gt0.false in inr (inr (omega (arith, l), refl, c.in-None.ensures))

pub returns-in-Some : goal.returns-in-Some
returns-in-Some c = let l = c.if-old-gt0.false in inr (inl (omega (arith, l), refl, c.in-Some.ensures.0, c.in-Some.ensures.1))
