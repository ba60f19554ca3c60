use Rattle.std.proofs.Common.{length}
use Rattle.law_obligations.specs.Uses.{rank_of}
use Rattle.law_obligations.specs.Times.{graph, has_edge}
use Rattle.law_obligations.proofs.UsesFall.{uses_fall}
use Rattle.law_obligations.proofs.obligations.now_uses_fall.Goals as goal

pub returns : goal.returns
returns c s = (rank_of (has_edge (graph s)) (length (graph s)), uses_fall s)
