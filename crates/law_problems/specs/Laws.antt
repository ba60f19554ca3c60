-- The laws: what the crate's public functions say.
use Rattle.std.specs.Prelude.{◌≤◌, List}
use Rattle.smv_core.specs.declared.flat.Design.{Design}
use Rattle.smv_core.specs.declared.flat.Leaf.{Leaf}
use Rattle.smv_core.specs.declared.flat.Choice.{Choice}
use Rattle.smv_core.specs.declared.flat.Timed.{Timed}
use Rattle.smv_core.specs.declared.flat.Class.{Class}
use Rattle.law_obligations.specs.Readings.{state_bits}
use Rattle.smv_problem.specs.WellFormed.{IsWellFormed}
use Rattle.law_problems.specs.Parts.{IsPart, IsCaseOf, case_with}

-- the problem of a case of a part of a checked script is well formed, where it has few bits
abbrev pub ProblemsAreWellFormed : Type 0
ProblemsAreWellFormed = (d : Design) (leaf : Leaf) (choice : Choice) → IsPart d leaf choice → (times : Timed) (classes : List Class) → IsCaseOf d leaf choice classes →
    state_bits (case_with d leaf choice times classes) ≤ 1024 → IsWellFormed (case_with d leaf choice times classes)
