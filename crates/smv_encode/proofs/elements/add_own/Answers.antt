use Rattle.std.proofs.Common.{[], ◌∷◌, map, List, if◌then◌else◌, arith}
use Rattle.bdd_store.proofs.Keeping.{keeps_then}
use Rattle.law_obligations.specs.Obligations.{Demanded}
use Rattle.law_reports.specs.CaseLists.{defines, those_of}
use Rattle.smv_encode.specs.Encoded.{met_at}
use Rattle.smv_encode.proofs.Calls.{live_on, cells_on}
use Rattle.smv_encode.proofs.Adds.{demand_adds, all_added, filter_snoc, told_adds, own_tells}
use Rattle.smv_encode.proofs.elements.add_own.Goals as goal

pub add_met_if-requires-clause-cells : goal.add_met_if-requires-clause-cells
add_met_if-requires-clause-cells c = live_on c.args.store.now c.loop-demand.store c.args.cells.now c.loop-demand.invariant.keeps c.requires.cells

pub loop-demand-preserved : goal.loop-demand-preserved
loop-demand-preserved c = record {
  keeps = keeps_then c.args.store.now c.loop-demand.store c.add_met_if.new.store c.loop-demand.invariant.keeps c.in_ok-add_met_if.ensures.keeps;
  out = c.in_ok-add_met_if.ensures.out;
  known = c.in_ok-add_met_if.ensures.known;
  adds = λ d is well o are x hx ds h.
      demand_adds d c.args.store.now c.loop-demand.store c.add_met_if.new.store ds c.args.demands.now c.loop-demand.demand-index c.args.out.now.items c.loop-demand.out.items c.add_met_if.new.out.items (λ (xs : List Demanded). map (met_at d o c.args.step) (those_of xs x))
      (λ (y : Demanded). if (defines x) y then met_at d o c.args.step y ∷ [] else []) (filter_snoc (met_at d o c.args.step) (defines x))
      c.demand-item.result c.loop-demand-test.true c.demand-item.is h (c.loop-demand.invariant.adds d is well o are x hx ds h)
      (told_adds d c.loop-demand.store c.add_met_if.new.store c.loop-demand.out.items c.add_met_if.new.out.items c.demand-item.result (met_at d o c.args.step) (defines x) c.defines-taken.result (own_tells d well x c.args.element.now hx c.demand-item.result c.defines-taken.result c.defines-taken.ensures)
      (c.in_ok-add_met_if.ensures.adds d is well o (cells_on d o c.args.store.now c.loop-demand.store c.args.problem.now c.args.cells.now c.loop-demand.invariant.keeps c.requires.cells are)));
}

pub returns-clause-adds : goal.returns-clause-adds
returns-clause-adds c = λ d is well o are x hx ds h.
    all_added d c.args.store.now c.loop-demand.store c.loop-demand.store ds c.args.demands.now c.loop-demand.demand-index c.args.out.now.items c.loop-demand.out.items c.loop-demand.out.items (λ (xs : List Demanded). map (met_at d o c.args.step) (those_of xs x)) (omega arith) h (c.loop-demand.invariant.adds d is well o are x hx ds h)
