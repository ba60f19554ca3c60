-- Valid texts, and what is reported of them.
use Rattle.std.specs.Prelude.{◌≡◌, ℕ, suc, List, [], ◌∷◌, Option, Some, None, if◌then◌else◌}
use Rattle.std.specs.Str.{bytes_eq}
use Rattle.smv_core.specs.Sound.{IsSound}
use Rattle.smv_core.specs.declared.tree.Text.{Text}
use Rattle.smv_bits.specs.declared.Bits.{Bits}
use Rattle.law_obligations.specs.Outlines.{Entry, Script, unit_in}
use Rattle.law_splits.specs.Leaves.{name_of}
use Rattle.law_uses.specs.Choices.{choices_of}
use Rattle.smv_problem.specs.declared.report.UnitResult.{UnitResult}
use Rattle.smv_problem.specs.declared.report.Report.{Report}
use Rattle.law_reports.specs.Reports.{IsReportOf, IsResultOf}
use Rattle.law_valid_texts.specs.Joined.{flat_design, script_with}
use Rattle.law_valid_texts.specs.Plans.{IsTree}
use Rattle.law_valid_texts.specs.Faults.{pass_fault}

-- the text is within the limit, its tokens spell the tree, and no pass finds a fault
pub record IsValid (text : List ℕ) (tree : Text) : Type 0 where
  pub is_tree : IsTree text tree
  pub is_faultless : pass_fault tree ≡ None

-- the headline: every unit of the design that the text spells holds at every time of every run, for all sizes
abbrev pub IsSoundDesign : List ℕ → Type 0
IsSoundDesign text = (tree : Text) × IsValid text tree × IsSound tree

-- the design of a tree with each unit, its leaf and what `using` states for it
abbrev pub script_of_tree : Text → Script
script_of_tree tree = script_with tree (choices_of (flat_design tree))

-- a right report of all units of a valid text, over bits that stand so, under a budget of nodes and one of steps
abbrev pub IsRightReport : List ℕ → Bits → ℕ → ℕ → Report → Type 0
IsRightReport text bits nodes steps report = (tree : Text) × IsValid text tree × IsReportOf (script_of_tree tree) bits nodes steps report

-- the place of the first unit of this name, from a place on, with the unit's entry
abbrev pub named_from : Script → List ℕ → ℕ → List Entry → Option (ℕ × Entry)
named_from s name u [] = None
named_from s name u (entry ∷ entries) = if bytes_eq (name_of s.design (unit_in s.design entry.unit)) name then Some (u, entry) else named_from s name (suc u) entries

-- the same among all units
abbrev pub unit_named : Script → List ℕ → Option (ℕ × Entry)
unit_named s name = named_from s name 0 s.entries

-- a right report of this unit alone
pub record IsReportOfUnit (s : Script) (bits : Bits) (nodes steps u : ℕ) (entry : Entry) (report : Report) : Type 0 where
  pub result : UnitResult
  pub is_result : IsResultOf s bits nodes steps u entry result
  pub design : report.design ≡ s.design
  pub units : report.units ≡ result ∷ []

-- a right report of the unit of this name alone, of a valid text
abbrev pub IsUnitReport : List ℕ → List ℕ → Bits → ℕ → ℕ → Report → Type 0
IsUnitReport text name bits nodes steps report =
    (tree : Text) × IsValid text tree × ((u : ℕ) × (entry : Entry) × (unit_named (script_of_tree tree) name ≡ Some (u, entry)) × IsReportOfUnit (script_of_tree tree) bits nodes steps u entry report)

-- a valid text has no unit of this name
abbrev pub HasNoUnit : List ℕ → List ℕ → Type 0
HasNoUnit text name = (tree : Text) × IsValid text tree × (unit_named (script_of_tree tree) name ≡ None)
