use Rattle.std.proofs.Common.{length, false, ap, subst, arith}
use Rattle.bdd_store.specs.Diagram.{Diagram, IsReduced, IsLive}
use Rattle.bdd_store.proofs.Laws.{proper_iff, branch, read_node}
use Rattle.bdd_store.proofs.Store.low.Goals as goal

pub index-requires : goal.index-requires
unfolding IsLive
index-requires c =
    let same = ap (λ (d : Diagram). length d.nodes) c.self.view_is in
    omega (arith, c.self.inside.nodes.ok.0, c.requires.live.0)

pub returns-clause-live : goal.returns-clause-live
unfolding IsReduced IsLive
returns-clause-live c =
    let ok : IsReduced c.args.self.now = subst IsReduced c.self.view_is c.self.invariant.reduced in
    let same = ap (λ (d : Diagram). d.nodes) c.self.view_is in
    let read = read_node c.self.inside.nodes.items c.args.self.now.nodes c.args.r.place c.index.result.now (omega (arith, ap length same, c.requires.live.0)) c.index.ensures same in
    (branch c.args.self.now ok c.args.r _ false c.requires.live ((proper_iff c.args.self.now ok c.args.r c.requires.live).to c.requires.proper) (ap (λ n. n.low) read)).live

pub returns-clause-table : goal.returns-clause-table
unfolding IsReduced IsLive
returns-clause-table c =
    let ok : IsReduced c.args.self.now = subst IsReduced c.self.view_is c.self.invariant.reduced in
    let same = ap (λ (d : Diagram). d.nodes) c.self.view_is in
    let read = read_node c.self.inside.nodes.items c.args.self.now.nodes c.args.r.place c.index.result.now (omega (arith, ap length same, c.requires.live.0)) c.index.ensures same in
    (branch c.args.self.now ok c.args.r _ false c.requires.live ((proper_iff c.args.self.now ok c.args.r c.requires.live).to c.requires.proper) (ap (λ n. n.low) read)).tables

pub returns-clause-first : goal.returns-clause-first
unfolding IsReduced IsLive
returns-clause-first c =
    let ok : IsReduced c.args.self.now = subst IsReduced c.self.view_is c.self.invariant.reduced in
    let same = ap (λ (d : Diagram). d.nodes) c.self.view_is in
    let read = read_node c.self.inside.nodes.items c.args.self.now.nodes c.args.r.place c.index.result.now (omega (arith, ap length same, c.requires.live.0)) c.index.ensures same in
    (branch c.args.self.now ok c.args.r _ false c.requires.live ((proper_iff c.args.self.now ok c.args.r c.requires.live).to c.requires.proper) (ap (λ n. n.low) read)).first

pub returns-clause-reached : goal.returns-clause-reached
unfolding IsReduced IsLive
returns-clause-reached c =
    let ok : IsReduced c.args.self.now = subst IsReduced c.self.view_is c.self.invariant.reduced in
    let same = ap (λ (d : Diagram). d.nodes) c.self.view_is in
    let read = read_node c.self.inside.nodes.items c.args.self.now.nodes c.args.r.place c.index.result.now (omega (arith, ap length same, c.requires.live.0)) c.index.ensures same in
    (branch c.args.self.now ok c.args.r _ false c.requires.live ((proper_iff c.args.self.now ok c.args.r c.requires.live).to c.requires.proper) (ap (λ n. n.low) read)).reached
