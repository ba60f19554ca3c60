use Rattle.std.proofs.Common.{length, ap, subst, arith}
use Rattle.bdd_store.specs.Diagram.{Diagram, IsReduced, IsLive, first_var}
use Rattle.bdd_store.proofs.Laws.{read_node, depends_first, first_least}
use Rattle.bdd_store.proofs.Store.var.Goals as goal

pub index-requires : goal.index-requires
unfolding IsLive
index-requires c =
    let same = ap (λ (d : Diagram). length d.nodes) c.self.view_is in
    omega (arith, c.self.inside.nodes.ok.0, c.requires.live.0)

pub returns-clause-var : goal.returns-clause-var
unfolding IsLive first_var
returns-clause-var c =
    let same = ap (λ (d : Diagram). d.nodes) c.self.view_is in
    ap (λ n. n.var) (read_node c.self.inside.nodes.items c.args.self.now.nodes c.args.r.place c.index.result.now (omega (arith, ap length same, c.requires.live.0)) c.index.ensures same)

pub returns-clause-within : goal.returns-clause-within
returns-clause-within c = omega (arith, returns-clause-var c, c.requires.proper)

pub returns-clause-from : goal.returns-clause-from
unfolding IsReduced
returns-clause-from c =
    let ok : IsReduced c.args.self.now = subst IsReduced c.self.view_is c.self.invariant.reduced in
    let is = returns-clause-var c in
    rw is (depends_first c.args.self.now ok c.args.r)

pub returns-clause-first : goal.returns-clause-first
unfolding IsReduced
returns-clause-first c free =
    let ok : IsReduced c.args.self.now = subst IsReduced c.self.view_is c.self.invariant.reduced in
    let is = returns-clause-var c in
    let within = returns-clause-within c in
    let least = first_least c.args.self.now ok c.args.r _ c.requires.live (omega arith) free in
    omega arith
