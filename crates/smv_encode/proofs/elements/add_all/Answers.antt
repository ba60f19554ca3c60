use Rattle.std.proofs.Common.{[], ◌∷◌, map, arith}
use Rattle.bdd_store.proofs.Keeping.{keeps_then}
use Rattle.law_obligations.specs.Obligations.{Demanded}
use Rattle.smv_encode.specs.Encoded.{met_at}
use Rattle.smv_encode.proofs.Calls.{live_on, cells_on}
use Rattle.smv_encode.proofs.Adds.{demand_adds, all_added, map_snoc}
use Rattle.smv_encode.proofs.elements.add_all.Goals as goal

pub add_met-requires-clause-cells : goal.add_met-requires-clause-cells
add_met-requires-clause-cells c = live_on c.args.store.now c.loop-demand.store c.args.cells.now c.loop-demand.invariant.keeps c.requires.cells

pub loop-demand-preserved : goal.loop-demand-preserved
loop-demand-preserved c = record {
  keeps = keeps_then c.args.store.now c.loop-demand.store c.add_met.new.store c.loop-demand.invariant.keeps c.in_ok-add_met.ensures.keeps;
  out = c.in_ok-add_met.ensures.out;
  known = c.in_ok-add_met.ensures.known;
  adds = λ d is well o are ds h.
      demand_adds d c.args.store.now c.loop-demand.store c.add_met.new.store ds c.args.demands.now c.loop-demand.demand-index c.args.out.now.items c.loop-demand.out.items c.add_met.new.out.items (map (met_at d o c.args.step)) (λ (x : Demanded). met_at d o c.args.step x ∷ []) (map_snoc (met_at d o c.args.step))
      c.demand-item.result c.loop-demand-test.true c.demand-item.is h (c.loop-demand.invariant.adds d is well o are ds h)
      (c.in_ok-add_met.ensures.adds d is well o (cells_on d o c.args.store.now c.loop-demand.store c.args.problem.now c.args.cells.now c.loop-demand.invariant.keeps c.requires.cells are));
}

pub returns-clause-adds : goal.returns-clause-adds
returns-clause-adds c = λ d is well o are ds h.
    all_added d c.args.store.now c.loop-demand.store c.loop-demand.store ds c.args.demands.now c.loop-demand.demand-index c.args.out.now.items c.loop-demand.out.items c.loop-demand.out.items (map (met_at d o c.args.step)) (omega arith) h (c.loop-demand.invariant.adds d is well o are ds h)
