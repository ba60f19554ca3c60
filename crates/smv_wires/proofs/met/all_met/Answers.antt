use Rattle.std.proofs.Common.{None, arith}
use Rattle.law_obligations.specs.Obligations.{is_met}
use Rattle.bdd_store.specs.Diagram.{table}
use Rattle.bdd_store.proofs.Keeping.{keeps_then}
use Rattle.law_wires.specs.Tries.{keeping}
use Rattle.smv_encode.proofs.Adds.{own_next, own_end, own_tells}
use Rattle.smv_encode.proofs.Calls.{list_kept}
use Rattle.smv_wires.proofs.Mets.{read_on}
use Rattle.smv_wires.proofs.met.all_met.Goals as goal

pub met_too-requires-clause-live : goal.met_too-requires-clause-live
met_too-requires-clause-live c = list_kept c.args.store.now c.loop-demand.store c.args.cells.now c.loop-demand.invariant.keeps c.requires.live

pub loop-demand-preserved : goal.loop-demand-preserved
loop-demand-preserved c = record {
  keeps = keeps_then c.args.store.now c.loop-demand.store c.met_too.new.store c.loop-demand.invariant.keeps c.in_ok-r.ensures.keeps;
  live = c.in_ok-r.ensures.live;
  means = λ d is well x hx ds h kept state has read a.
      own_next d ds c.args.demands.now c.loop-demand.demand-index x (is_met (keeping d kept) None (state a)) c.demand-item.result c.defines-taken.result (table c.loop-demand.store c.loop-demand.r a) (table c.met_too.new.store c.in_ok-r.r a) c.loop-demand-test.true c.demand-item.is h
      (own_tells d well x c.args.element.now hx c.demand-item.result c.defines-taken.result c.defines-taken.ensures) (c.loop-demand.invariant.means d is well x hx ds h kept state has read a)
      (λ y hy. c.in_ok-r.ensures.means d is well x kept state has (read_on c.args.store.now c.loop-demand.store c.args.problem.now c.args.cells.now (keeping d kept) state c.loop-demand.invariant.keeps c.requires.live read) y hy
      (own_tells d well x c.args.element.now hx c.demand-item.result c.defines-taken.result c.defines-taken.ensures y hy) a);
}

pub returns-clause-means : goal.returns-clause-means
returns-clause-means c = λ d is well x hx ds h kept state has read a.
    own_end d ds c.args.demands.now c.loop-demand.demand-index x (is_met (keeping d kept) None (state a)) (table c.loop-demand.store c.loop-demand.r a) (omega arith) h (c.loop-demand.invariant.means d is well x hx ds h kept state has read a)
