use Rattle.std.proofs.Common.{◌+◌, ◌≤◌, [], ◌∷◌}
use Rattle.bdd_store.specs.Diagram.{IsLive, table, held, beads}
use Rattle.bdd_store.proofs.Few.{beads_kept}
use Rattle.bdd_ops.specs.Functions.{Function, IsFreshBelow}
use Rattle.bdd_store.specs.Beads.{truth_table, bead_count}
use Rattle.bdd_ops.specs.Memo.{joined}
use Rattle.bdd_ops.specs.Grown.{Adds}
use Rattle.bdd_ops.proofs.Grown.{held_grown, err_then}
use Rattle.bdd_ops.proofs.Tables.{if_ok_both}
use Rattle.bdd_ops.specs.News.{join_of, AnyPair}
use Rattle.bdd_ops.proofs.NewsLaws.{few_news}
use Rattle.bdd_ops.proofs.MemoLaws.{pair_bound}
use Rattle.bdd_ops.proofs.Held.{held_bound}
use denote.Param.{number}
use Rattle.bdd_ops.specs.contracts.join_within.{UNIT-type}
use Rattle.bdd_ops.proofs.join_within.Goals as goal

pub returns-clause-calls : goal.returns-clause-calls
returns-clause-calls g c =
    let d = c.args.store.now in
    let e = c.join_from.new.store in
    let f = c.args.f in
    let h = c.args.g in
    let keeps = c.join_from.ensures.keeps in
    let news = c.join_from.ensures.news in
    let few = few_news (join_of (UNIT-type (number g.row.UNIT))) AnyPair _ _ _ f h _ _ c.join_from.ensures.sound keeps c.requires.f_live c.requires.g_live news in
    pair_bound _ _ _ _ _ _ _ _ news.calls few (beads_kept d e keeps f c.requires.f_live) (beads_kept d e keeps h c.requires.g_live)

pub returns-clause-held : goal.returns-clause-held
returns-clause-held g c =
    if_ok_both c.join_from.result (IsLive c.join_from.new.store) (IsFreshBelow c.args.store.now c.join_from.new.store) (λ r. held c.join_from.new.store ≤ held c.args.store.now + beads c.join_from.new.store r)
    (held_bound c.args.store.now c.join_from.new.store c.join_from.ensures.sound c.join_from.ensures.keeps) c.join_from.ensures.live c.join_from.ensures.fresh

pub returns-clause-grown : goal.returns-clause-grown
returns-clause-grown g c =
    let d = c.args.store.now in
    let e = c.join_from.new.store in
    let F : Function = λ a. joined (UNIT-type (number g.row.UNIT)) (table d c.args.f a) (table d c.args.g a) in
    err_then c.join_from.result (Adds d e F) (held e ≤ held d + bead_count d.vars (truth_table d.vars 0 F ∷ [])) (held_grown d e c.join_from.ensures.sound c.join_from.ensures.keeps F) c.join_from.ensures.adds
