use Rattle.std.proofs.Common.{refl}
use Rattle.bdd_store.specs.Diagram.{IsLive, table}
use Rattle.smv_encode.proofs.Calls.{store_keeps}
use Rattle.smv_outcomes.proofs.KnownLaws.{none_known}
use Rattle.smv_wires.proofs.Mets.{one_means}
use Rattle.smv_wires.proofs.met.one_met.Goals as goal

pub met-r-requires-clause-known : goal.met-r-requires-clause-known
met-r-requires-clause-known c = none_known IsLive table c.args.store.now c.args.problem.now c.args.cells.now _ c.nothing_known-known.ensures

pub returns-clause-keeps : goal.returns-clause-keeps
returns-clause-keeps c = store_keeps c.args.store.now c.met-r.new.s c.vars.ensures.sound c.vars-2.ensures.sound c.met-r.ensures.keeps

pub returns-clause-means : goal.returns-clause-means
returns-clause-means c = one_means c.args.store.now c.met-r.new.s c.args.problem.now c.args.demand.now c.args.cells.now c.args.cells.now _ refl refl c.met-r.result c.met-r.ensures.is
