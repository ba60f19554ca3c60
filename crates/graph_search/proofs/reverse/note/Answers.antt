use Rattle.std.proofs.Common.{arith}
use Rattle.graph_search.proofs.ReverseLaws.{pushed}
use Rattle.graph_search.proofs.reverse.note.Goals as goal

pub returns : goal.returns
returns c = pushed c.args.back.now.items c.args.place c.args.node c.index_mut.result.now c.push.new.self (omega (arith, c.requires, c.args.back.now.ok.0)) c.index_mut.ensures.value c.in_ok-push.ensures.items
