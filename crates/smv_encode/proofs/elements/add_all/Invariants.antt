use Rattle.std.proofs.Common.{List, map, take}
use Rattle.law_obligations.specs.Obligations.{Demanded}
use Rattle.bdd_store.specs.Diagram.{AreLive, Keeps}
use Rattle.smv_problem.specs.WellFormed.{OfCases}
use Rattle.law_arrangements.specs.Arrangements.{Arrangement}
use Rattle.smv_encode.specs.Encoded.{met_at, AreCellsOf, AreKnownOfCase}
use Rattle.smv_encode.specs.Parts.{AreDemands, AddsFunctions}
use Rattle.smv_encode.proofs.elements.add_all.Given as goal

abbrev pub invariant-loop-demand : goal.invariant-loop-demand
invariant-loop-demand l = record {
  keeps : Keeps l.initial.store l.store;
  out : AreLive l.store l.out.items;
  known : AreKnownOfCase l.store l.problem l.cells l.known;
  adds : OfCases l.problem (λ c. (o : Arrangement) → AreCellsOf c o l.initial.store l.problem l.cells → (ds : List Demanded) → AreDemands c ds l.demands → AddsFunctions l.initial.store l.store l.initial.out.items l.out.items (map (met_at c o l.step) (take l.demand-index ds)));
}
