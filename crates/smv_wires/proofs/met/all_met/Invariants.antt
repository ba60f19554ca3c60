use Rattle.std.proofs.Common.{◌≡◌, ℕ, Bool, true, List, [], ◌∷◌, None, take}
use Rattle.std.specs.List.{list_all}
use Rattle.law_obligations.specs.May.{AbsState, Kept}
use Rattle.law_obligations.specs.Obligations.{Demanded, is_met}
use Rattle.law_obligations.specs.Cones.{AbsElement}
use Rattle.law_reports.specs.CaseLists.{those_of}
use Rattle.law_wires.specs.Tries.{keeping}
use Rattle.bdd_store.specs.Diagram.{IsLive, Keeps, table}
use Rattle.smv_problem.specs.WellFormed.{OfCases}
use Rattle.smv_walks.specs.Demands.{AreRead}
use Rattle.smv_encode.specs.Parts.{AreDemands, AreElements}
use Rattle.smv_wires.proofs.met.all_met.Given as goal

abbrev pub invariant-loop-demand : goal.invariant-loop-demand
invariant-loop-demand l = record {
  keeps : Keeps l.initial.store l.store;
  live : IsLive l.store l.r;
  means : OfCases l.problem (λ c. (x : AbsElement) → AreElements c (x ∷ []) (l.element ∷ []) → (ds : List Demanded) → AreDemands c ds l.demands → (kept : Kept) (state : (ℕ → Bool) → AbsState) → kept x.family x.indexes ≡ true → AreRead table l.initial.store l.problem None l.cells (keeping c kept) None state → (a : ℕ → Bool) → table l.store l.r a ≡ list_all (is_met (keeping c kept) None (state a)) (those_of (take l.demand-index ds) x));
}
