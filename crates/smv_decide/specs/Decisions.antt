-- What is decided of a case.
use Rattle.std.specs.Prelude.{ℕ}
use Rattle.smv_bits.specs.declared.Bits.{Bits}
use Rattle.bdd_store.specs.Diagram.{Diagram, IsLive}
use Rattle.bdd_store.specs.declared.Ref.{Ref}
use Rattle.smv_rings.specs.Ops.{IsOneOf}
use Rattle.smv_rings.specs.Lists.{Lists}
use Rattle.smv_search.specs.declared.Outcome.{Outcome}
use Rattle.smv_search.specs.Answers.{found, Answers, IsLeast}
use Rattle.law_events.specs.Events.Event.{Counted, Reached, Shut, Images}
use Rattle.law_obligations.specs.Readings.{PosedCase}
use Rattle.law_reports.specs.Verdicts.{IsCaseVerdict}
use Rattle.law_reports.specs.Reports.{IsShown}
use Rattle.smv_decide.specs.declared.Decision.{Decision}
use Rattle.smv_decide.specs.declared.Decision.TheVariants.{True, False, UnknownNodes, UnknownSteps}

-- its verdict; a false one is shown by a shortest violating path
abbrev pub IsDecided : Bits → ℕ → ℕ → PosedCase → Decision → Type 0
IsDecided bits nodes steps c True = (k : ℕ) × IsCaseVerdict bits nodes steps c (Shut k)
IsDecided bits nodes steps c (False elements path) = (k : ℕ) × IsCaseVerdict bits nodes steps c (Reached k) × IsShown c k elements path
IsDecided bits nodes steps c (UnknownNodes count) = IsCaseVerdict bits nodes steps c (Counted count)
IsDecided bits nodes steps c UnknownSteps = IsCaseVerdict bits nodes steps c Images

-- what a search found, in the store in which it ended
pub record IsFound (d : Diagram) (l : Lists) (nodes steps : ℕ) (o : Outcome) : Type 0 where
  pub answers : Answers d l nodes steps o
  pub least : IsLeast l o
  pub live : (r : Ref) → IsOneOf r (found o) → IsLive d r
