use Rattle.std.proofs.Common.{arith}
use Rattle.graph_search.proofs.ReverseLaws.{pushed}
use Rattle.smv_splits.proofs.groups.add.Goals as goal

pub returns : goal.returns
returns c = pushed c.args.groups.now.items c.args.place c.args.number c.index_mut.result.now c.push.new.self (omega (arith, c.requires, c.args.groups.now.ok.0)) c.index_mut.ensures.value c.in_ok-push.ensures.items
