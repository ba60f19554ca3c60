-- The verdict of a case, of a leaf by those of its cases in order, and of a script.
use Rattle.std.specs.Prelude.{◌≡◌, ℕ, suc, ◌-◌, ◌<◌, List, [], ◌∷◌, ◌++◌, length, Bool, true, false}
use Rattle.std.specs.List.{AllZip}
use Rattle.smv_core.specs.declared.flat.Class.{Class}
use Rattle.smv_bits.specs.declared.Bits.{Bits}
use Rattle.smv_bits.specs.declared.Bits.TheVariants.{Near, Declared}
use Rattle.law_obligations.specs.Sets.{Has}
use Rattle.law_obligations.specs.May.{AbsState}
use Rattle.law_obligations.specs.Outlines.{Entry, Script}
use Rattle.law_obligations.specs.Readings.{PosedCase}
use Rattle.law_obligations.specs.CasePaths.{IsViolatingPath, HasNone, IsShortest, IsInRing}
use Rattle.law_events.specs.Events.{Event, IsFirstEvent}
use Rattle.law_events.specs.Events.Event.{Counted, Reached, Shut, Images}
use Rattle.law_reports.specs.CaseLists.{case_lists}
use Rattle.law_obligations.specs.Scripts.{case_at, classes_of}

-- ---- of a case

-- the steps of a case are spent: each violating path has more, and at the last one some state is reached for the first time
pub record IsSpent (c : PosedCase) (steps : ℕ) : Type 0 where
  pub longer : (path : List AbsState) → IsViolatingPath c.problem path → suc steps < length path
  pub state : AbsState
  pub is_reached : IsInRing c.problem steps state
  pub is_new : IsInRing c.problem (steps - 1) state → ⊥

-- May be told of a case under these budgets, over whichever arrangement of its bits: that it has no violating path, and of how many steps the shortest ones are, is so of the problem itself; a count is
-- that of the declared lists alone.
abbrev pub MayBeTold : ℕ → ℕ → PosedCase → Event → Type 0
MayBeTold nodes steps c (Shut k) = HasNone c.problem
MayBeTold nodes steps c (Reached k) = (path : List AbsState) × IsShortest c.problem k path
MayBeTold nodes steps c (Counted n) = IsFirstEvent (case_lists c) nodes steps (Counted n)
MayBeTold nodes steps c Images = IsSpent c steps

-- the verdict of a case for budgets of nodes and of steps, which are images that a search makes: over the declared bits what a search over its lists finds first, over near bits what may be told
abbrev pub IsCaseVerdict : Bits → ℕ → ℕ → PosedCase → Event → Type 0
IsCaseVerdict Declared nodes steps c v = IsFirstEvent (case_lists c) nodes steps v
IsCaseVerdict Near nodes steps c v = MayBeTold nodes steps c v

-- the same for cases that are known by their classes
abbrev pub IsVerdictFor : (List Class → PosedCase) → Bits → ℕ → ℕ → List Class → Event → Type 0
IsVerdictFor case_for bits nodes steps classes v = IsCaseVerdict bits nodes steps (case_for classes) v

-- ---- of a leaf

-- true, or the first case that is not and what is decided of it
pub data LeafVerdict : Type 0 where
  all_true : LeafVerdict
  fails : List Class → Event → LeafVerdict

-- no violating path exists
abbrev pub is_shut : Event → Bool
is_shut (Shut k) = true
is_shut (Counted n) = false
is_shut (Reached k) = false
is_shut Images = false

-- for cases, by what is a verdict of each
module _ (verdict : List Class → Event → Type 0) where
  -- a case is true
  abbrev pub IsTrueCase : List Class → Type 0
  IsTrueCase classes = (k : ℕ) × verdict classes (Shut k)

  -- all of these cases are true
  abbrev pub AreTrueCases : List (List Class) → Type 0
  AreTrueCases cases = (classes : List Class) → Has cases classes → IsTrueCase classes

  -- the first case that is not true
  pub record FailsFirst (cases : List (List Class)) (classes : List Class) (v : Event) : Type 0 where
    pub before : List (List Class)
    pub behind : List (List Class)
    pub stands : cases ≡ before ++ (classes ∷ behind)
    pub are_true : AreTrueCases before
    pub is_verdict : verdict classes v
    pub is_not : is_shut v ≡ false

  -- the verdict of a leaf with these cases
  abbrev pub IsLeafVerdict : List (List Class) → LeafVerdict → Type 0
  IsLeafVerdict cases all_true = AreTrueCases cases
  IsLeafVerdict cases (fails classes v) = FailsFirst cases classes v

-- ---- of a script

module _ (s : Script) (bits : Bits) (nodes steps : ℕ) where
  -- the verdict of the unit at this place: that of its leaf
  abbrev pub IsUnitVerdict : ℕ → Entry → LeafVerdict → Type 0
  IsUnitVerdict u entry v = IsLeafVerdict (IsVerdictFor (case_at s u entry) bits nodes steps) (classes_of s entry) v

  -- the verdicts of the units from a place on
  abbrev pub AreVerdictsFrom : ℕ → List Entry → List LeafVerdict → Type 0
  AreVerdictsFrom u [] [] = Unit {0}
  AreVerdictsFrom u (entry ∷ entries) (v ∷ verdicts) = IsUnitVerdict u entry v × AreVerdictsFrom (suc u) entries verdicts
  AreVerdictsFrom u _ _ = ⊥

  abbrev pub AreVerdicts : List LeafVerdict → Type 0
  AreVerdicts verdicts = AreVerdictsFrom 0 s.entries verdicts

-- every unit is true
abbrev pub AllTrue : List LeafVerdict → Type 0
AllTrue verdicts = (v : LeafVerdict) → Has verdicts v → v ≡ all_true

-- ---- two of a unit

-- budgets are passed or used up before the case is decided
abbrev pub is_undecided : Event → Bool
is_undecided (Counted n) = true
is_undecided (Reached k) = false
is_undecided (Shut k) = false
is_undecided Images = true

abbrev pub is_unknown : LeafVerdict → Bool
is_unknown all_true = false
is_unknown (fails classes v) = is_undecided v

-- two verdicts are one; over near bits they may also be two of which one is unknown
abbrev pub AreOne : Bits → LeafVerdict → LeafVerdict → Type 0
AreOne Declared v w = v ≡ w
AreOne Near v w = is_unknown v ≡ false → is_unknown w ≡ false → v ≡ w

-- so it is place by place
abbrev pub AreOneEach : Bits → List LeafVerdict → List LeafVerdict → Type 0
AreOneEach Declared vs ws = vs ≡ ws
AreOneEach Near vs ws = AllZip (AreOne Near) vs ws
