use Rattle.std.proofs.Common.{length, sym, arith, ◌<◌}
use Rattle.graphs.specs.Graph.{lists}
use Rattle.graphs.specs.Ranks.{rank}
use Rattle.graphs.proofs.RankLaws.{none_higher}
use Rattle.graphs.proofs.ranks.leads_back.Goals as goal

pub returns-then-rank : goal.returns-then-rank
returns-then-rank c =
    let below : rank c.args.ranks.now c.args.start < rank c.args.ranks.now c.args.target = omega (arith, c.if-rank.true, c.rank.ensures, c.rank-2.ensures) in
    sym (none_higher (lists c.args.graph.now) c.args.ranks.now (length c.args.graph.now) c.args.target c.args.start c.requires.ranks below)
