-- The laws: what the crate's public functions say.
use Rattle.std.specs.Prelude.{◌≡◌, ℕ, List}
use Rattle.smv_bits.specs.declared.Bits.{Bits}
use Rattle.law_obligations.specs.May.{AbsState}
use Rattle.law_obligations.specs.Outlines.{Entry, Script}
use Rattle.law_obligations.specs.Checked.{IsChecked, IsProved, IsSoundScript}
use Rattle.law_events.specs.Events.Event.{Reached, Shut}
use Rattle.law_obligations.specs.Readings.{PosedCase, IsCase}
use Rattle.law_obligations.specs.CasePaths.{HasNone, IsShortest}
use Rattle.law_obligations.specs.Scripts.{HaveValues}
use Rattle.law_reports.specs.Verdicts.{LeafVerdict, IsCaseVerdict, IsUnitVerdict, AreVerdicts, AllTrue, AreOne, AreOneEach}

-- a unit has at most one verdict for its budgets; over near bits, beside unknown ones
abbrev pub OneUnitVerdict : Type 0
OneUnitVerdict = (s : Script) (bits : Bits) (nodes steps u : ℕ) (entry : Entry) (v w : LeafVerdict) → IsUnitVerdict s bits nodes steps u entry v → IsUnitVerdict s bits nodes steps u entry w → AreOne bits v w

-- and a script one list of verdicts
abbrev pub OneVerdictEach : Type 0
OneVerdictEach = (s : Script) (bits : Bits) (nodes steps : ℕ) (vs ws : List LeafVerdict) → AreVerdicts s bits nodes steps vs → AreVerdicts s bits nodes steps ws → AreOneEach bits vs ws

-- where a case is true, its problem has no violating path
abbrev pub ShutCasesHaveNone : Type 0
ShutCasesHaveNone = (c : PosedCase) → IsCase c → (bits : Bits) (nodes steps k : ℕ) → IsCaseVerdict bits nodes steps c (Shut k) → HasNone c.problem

-- where a violating path of k steps is found, its problem has one, and none of fewer steps
abbrev pub ReachedCasesHaveShortest : Type 0
ReachedCasesHaveShortest = (c : PosedCase) → IsCase c → (bits : Bits) (nodes steps k : ℕ) → IsCaseVerdict bits nodes steps c (Reached k) → (path : List AbsState) × IsShortest c.problem k path

-- a checked script whose units are all true is proved
abbrev pub TrueScriptsAreProved : Type 0
TrueScriptsAreProved = (s : Script) → IsChecked s → HaveValues s.design → (bits : Bits) (nodes steps : ℕ) (verdicts : List LeafVerdict) → AreVerdicts s bits nodes steps verdicts → AllTrue verdicts → IsProved s

-- and sound
abbrev pub TrueScriptsAreSound : Type 0
TrueScriptsAreSound = (s : Script) → IsChecked s → HaveValues s.design → (bits : Bits) (nodes steps : ℕ) (verdicts : List LeafVerdict) → AreVerdicts s bits nodes steps verdicts → AllTrue verdicts → IsSoundScript s
