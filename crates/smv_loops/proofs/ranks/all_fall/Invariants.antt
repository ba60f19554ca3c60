use Rattle.std.proofs.Common.{ℕ, ◌<◌, get_or}
use Rattle.smv_loops.specs.declared.ranks.Links.{Links}
use Rattle.smv_loops.specs.Ranks.{Falls}
use Rattle.smv_loops.proofs.ranks.all_fall.Given as goal

abbrev pub invariant-loop-link : goal.invariant-loop-link
invariant-loop-link l = (j : ℕ) (d : Links) → j < l.link-index → Falls l.ranks (get_or l.links j d)
