use Rattle.std.proofs.Common.{◌<◌, length, sym, subst, arith}
use Rattle.std.proofs.lemmas.Bool.Decides.{nat_tests}
use Rattle.bdd_store.specs.Diagram.{IsLive}
use Rattle.smv_search.proofs.Opening.{first_live}
use Rattle.smv_search.proofs.runs.first.Goals as goal

pub returns-clause-live : goal.returns-clause-live
returns-clause-live c =
    let some : 0 < length c.args.rel.now.now_first.items = grind (arith, nat_tests) in
    subst (IsLive c.args.store.now) (sym c.index.ensures) (first_live c.args.store.now c.args.rel.now c.index.result.now c.requires.rel.live some)
