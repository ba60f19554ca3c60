-- What the answer of a search says of the problem of its case.
use Rattle.std.specs.Prelude.{ℕ, List}
use Rattle.bdd_store.specs.Diagram.{Diagram}
use Rattle.law_obligations.specs.May.{AbsState}
use Rattle.law_obligations.specs.Readings.{PosedCase, IsCase}
use Rattle.law_obligations.specs.CasePaths.{HasNone, IsShortest}
use Rattle.law_reports.specs.CaseLists.{case_lists}
use Rattle.smv_search.specs.declared.Outcome.{Outcome}
use Rattle.smv_search.specs.declared.Outcome.TheVariants.{Closed, Reaches, OutOfNodes, OutOfSteps}
use Rattle.smv_search.specs.Answers.{Answers}

-- what a search over the lists of a case answers says so of its problem
abbrev pub Says : PosedCase → Outcome → Type 0
Says c (Closed set) = HasNone c.problem
Says c (Reaches depth rings) = (path : List AbsState) × IsShortest c.problem depth path
Says c (OutOfNodes count) = Unit {0}
Says c OutOfSteps = Unit {0}

abbrev pub SearchesDecide : Type 0
SearchesDecide = (c : PosedCase) → IsCase c → (d : Diagram) (nodes steps : ℕ) (o : Outcome) → Answers d (case_lists c) nodes steps o → Says c o
