use Rattle.std.proofs.Common.{◌≡◌, ℕ, Bool, List, [], ◌∷◌, take}
use Rattle.std.specs.List.{list_all}
use Rattle.law_obligations.specs.Obligations.{Demanded}
use Rattle.law_obligations.specs.Cones.{AbsElement}
use Rattle.law_reports.specs.CaseLists.{those_of}
use Rattle.bdd_store.specs.Diagram.{IsLive, Keeps, table}
use Rattle.smv_problem.specs.WellFormed.{OfCases}
use Rattle.law_arrangements.specs.Arrangements.{Arrangement}
use Rattle.smv_encode.specs.Encoded.{met_at, AreCellsOf, AreKnownOfCase}
use Rattle.smv_encode.specs.Parts.{AreDemands, AreElements}
use Rattle.smv_encode.proofs.elements.own_met.Given as goal

abbrev pub invariant-loop-demand : goal.invariant-loop-demand
invariant-loop-demand l = record {
  keeps : Keeps l.initial.store l.store;
  live : IsLive l.store l.r;
  known : AreKnownOfCase l.store l.problem l.cells l.known;
  means : OfCases l.problem (λ c. (o : Arrangement) → AreCellsOf c o l.initial.store l.problem l.cells → (x : AbsElement) → AreElements c (x ∷ []) (l.element ∷ []) → (ds : List Demanded) → AreDemands c ds l.demands → (a : ℕ → Bool) → table l.store l.r a ≡ list_all (λ d. met_at c o l.step d a) (those_of (take l.demand-index ds) x));
}
