-- The laws: what the crate's public functions say.
use Rattle.std.specs.Prelude.{◌≡◌, ℕ, List}
use Rattle.smv_core.specs.declared.tree.Text.{Text}
use Rattle.smv_bits.specs.declared.Bits.{Bits}
use Rattle.smv_problem.specs.declared.report.Report.{Report}
use Rattle.law_reports.specs.Reports.{told_of, AllTrueUnits}
use Rattle.law_reports.specs.Verdicts.{AreOneEach}
use Rattle.law_valid_texts.specs.Joined.{IsFitForProof}
use Rattle.law_valid_texts.specs.Plans.{IsTree}
use Rattle.law_valid_texts.specs.Reports.{IsValid, IsSoundDesign, IsRightReport, IsUnitReport, HasNoUnit}

-- a text spells at most one tree
abbrev pub OneTree : Type 0
OneTree = (text : List ℕ) (tree other : Text) → IsTree text tree → IsTree text other → tree ≡ other

-- a valid text is fit for proof
abbrev pub ValidTextsPass : Type 0
ValidTextsPass = (text : List ℕ) (tree : Text) → IsValid text tree → IsFitForProof tree

-- where a right report tells that every unit is true, the text is sound
abbrev pub RightReportsAreSound : Type 0
RightReportsAreSound = (text : List ℕ) (bits : Bits) (nodes steps : ℕ) (report : Report) → IsRightReport text bits nodes steps report → AllTrueUnits report.units → IsSoundDesign text

-- two right reports of a text under the same budgets differ at most in the paths that they show; over near bits, also in what one of them leaves unknown
abbrev pub OneReport : Type 0
OneReport = (text : List ℕ) (bits : Bits) (nodes steps : ℕ) (report other : Report) → IsRightReport text bits nodes steps report → IsRightReport text bits nodes steps other → AreOneEach bits (told_of report.units) (told_of other.units)

-- so do two of the unit of a name
abbrev pub OneUnitReport : Type 0
OneUnitReport = (text name : List ℕ) (bits : Bits) (nodes steps : ℕ) (report other : Report) → IsUnitReport text name bits nodes steps report → IsUnitReport text name bits nodes steps other →
    AreOneEach bits (told_of report.units) (told_of other.units)

-- a text has not both a unit of a name and none
abbrev pub UnitsAreOrAreNot : Type 0
UnitsAreOrAreNot = (text name : List ℕ) (bits : Bits) (nodes steps : ℕ) (report : Report) → IsUnitReport text name bits nodes steps report → ¬ HasNoUnit text name
