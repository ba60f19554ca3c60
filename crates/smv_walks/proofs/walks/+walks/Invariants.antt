use Rattle.std.proofs.Common.{drop}
use Rattle.smv_walks.specs.Walks.{AreGistsOf, AreGistsAlong}
use Rattle.smv_walks.proofs.GatherLaws.{Gathering}
use Rattle.smv_walks.proofs.walks.+walks.Given as goal

abbrev pub invariant-gists_each-loop-part : goal.invariant-gists_each-loop-part
invariant-gists_each-loop-part g l =
    Gathering g.S.Conditions.IsMade g.S.Conditions.holds g.S.Conditions.room l.fn.s l.s l.problem l.cells l.known.entries.items l.target l.each.items (AreGistsOf g.S.Conditions.holds l.fn.s l.s l.problem l.cells l.target l.way l.b l.parts (drop l.part-index l.parts) l.each.items)

abbrev pub invariant-gists_along-loop-inner : goal.invariant-gists_along-loop-inner
invariant-gists_along-loop-inner g l =
    Gathering g.S.Conditions.IsMade g.S.Conditions.holds g.S.Conditions.room l.fn.s l.s l.problem l.cells l.known.entries.items l.target l.each.items (AreGistsAlong g.S.Conditions.holds l.fn.s l.s l.problem l.cells l.target l.way l.body l.bindings (drop l.inner-index l.bindings) l.each.items)
