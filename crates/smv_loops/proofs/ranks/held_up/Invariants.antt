use Rattle.smv_loops.proofs.RankLaws.{FlagsSoFar}
use Rattle.smv_loops.proofs.ranks.held_up.Given as goal

abbrev pub invariant-loop-link : goal.invariant-loop-link
invariant-loop-link l = FlagsSoFar l.ranks l.links l.link-index l.flags.items
