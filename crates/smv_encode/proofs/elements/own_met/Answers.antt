use Rattle.std.proofs.Common.{arith}
use Rattle.law_obligations.specs.Obligations.{Demanded}
use Rattle.bdd_store.specs.Diagram.{table}
use Rattle.bdd_store.proofs.Keeping.{keeps_then}
use Rattle.smv_encode.specs.Encoded.{met_at}
use Rattle.smv_encode.proofs.Calls.{live_on, cells_on}
use Rattle.smv_encode.proofs.Adds.{own_next, own_end, own_tells}
use Rattle.smv_encode.proofs.elements.own_met.Goals as goal

pub met_too-requires-clause-cells : goal.met_too-requires-clause-cells
met_too-requires-clause-cells c = live_on c.args.store.now c.loop-demand.store c.args.cells.now c.loop-demand.invariant.keeps c.requires.cells

pub loop-demand-preserved : goal.loop-demand-preserved
loop-demand-preserved c = record {
  keeps = keeps_then c.args.store.now c.loop-demand.store c.met_too.new.store c.loop-demand.invariant.keeps c.in_ok-r.ensures.keeps;
  live = c.in_ok-r.ensures.live;
  known = c.in_ok-r.ensures.known;
  means = λ d is well o are x hx ds h a.
      own_next d ds c.args.demands.now c.loop-demand.demand-index x (λ (y : Demanded). met_at d o c.args.step y a) c.demand-item.result c.defines-taken.result (table c.loop-demand.store c.loop-demand.r a) (table c.met_too.new.store c.in_ok-r.r a)
      c.loop-demand-test.true c.demand-item.is h (own_tells d well x c.args.element.now hx c.demand-item.result c.defines-taken.result c.defines-taken.ensures) (c.loop-demand.invariant.means d is well o are x hx ds h a)
      (λ y hy. c.in_ok-r.ensures.means d is well o (cells_on d o c.args.store.now c.loop-demand.store c.args.problem.now c.args.cells.now c.loop-demand.invariant.keeps c.requires.cells are) y hy a);
}

pub returns-clause-means : goal.returns-clause-means
returns-clause-means c = λ d is well o are x hx ds h a.
    own_end d ds c.args.demands.now c.loop-demand.demand-index x (λ (y : Demanded). met_at d o c.args.step y a) (table c.loop-demand.store c.loop-demand.r a) (omega arith) h (c.loop-demand.invariant.means d is well o are x hx ds h a)
