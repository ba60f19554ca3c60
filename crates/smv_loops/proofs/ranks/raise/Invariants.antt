use Rattle.smv_loops.proofs.RankLaws.{SoFar}
use Rattle.smv_loops.proofs.ranks.raise.Given as goal

abbrev pub invariant-loop-cell : goal.invariant-loop-cell
invariant-loop-cell l = SoFar l.flags l.next l.initial.ranks l.cell l.ranks l.moved
