use Rattle.std.proofs.Common.{◌+◌, ◌≤◌}
use Rattle.bdd_store.specs.Diagram.{IsLive, held, beads}
use Rattle.bdd_store.proofs.Few.{beads_kept}
use Rattle.bdd_ops.specs.Functions.{IsFreshBelow}
use Rattle.bdd_ops.proofs.Tables.{if_ok_both}
use Rattle.bdd_ops.specs.News.{change_of}
use Rattle.bdd_ops.proofs.NewsLaws.{few_same}
use Rattle.bdd_ops.proofs.MemoLaws.{one_bound}
use Rattle.bdd_ops.proofs.Held.{held_bound}
use denote.Param.{number}
use Rattle.bdd_ops.specs.contracts.change.{FLIP-type}
use Rattle.bdd_ops.proofs.change.Goals as goal

pub returns-clause-calls : goal.returns-clause-calls
returns-clause-calls g c =
    let d = c.args.store.now in
    let e = c.change_from.new.store in
    let f = c.args.f in
    let keeps = c.change_from.ensures.keeps in
    let news = c.change_from.ensures.news in
    let few = few_same (change_of (FLIP-type (number g.row.BACK) (number g.row.FLIP))) _ _ _ f _ _ c.change_from.ensures.sound keeps c.requires.live news in
    one_bound _ _ _ _ _ _ news.calls few (beads_kept d e keeps f c.requires.live)

pub returns-clause-held : goal.returns-clause-held
returns-clause-held g c =
    if_ok_both c.change_from.result (IsLive c.change_from.new.store) (IsFreshBelow c.args.store.now c.change_from.new.store) (λ r. held c.change_from.new.store ≤ held c.args.store.now + beads c.change_from.new.store r)
    (held_bound c.args.store.now c.change_from.new.store c.change_from.ensures.sound c.change_from.ensures.keeps) c.change_from.ensures.live c.change_from.ensures.fresh
