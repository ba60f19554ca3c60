-- Worked scripts that are proved, for all sizes and paths of every length.
use Rattle.std.specs.Prelude.{[], ◌∷◌}
use Rattle.law_obligations.specs.Outlines.{Script}
use Rattle.law_obligations.specs.Checked.{IsChecked, IsProved, IsSoundScript}
use Rattle.worked_obligations.specs.WorkedTomasulo.{one, machine_script}
use Rattle.worked_obligations.specs.WorkedProblems.{split_by, a_is_i, one_steps}

-- a script passes every premise, its cases have no violating path, and so its units hold in all runs
abbrev pub AllIsWell : Script → Type 0
AllIsWell o = IsChecked o × IsProved o × IsSoundScript o

-- a, b : P; claim a = b -> a = b, split by a = i
abbrev pub SplitIsSound : Type 0
SplitIsSound = AllIsWell (split_by (a_is_i ∷ []))

-- a steps b, and `b := a`; the maps `a := 0` and `b := 0` are proved by each other, one before and one now
abbrev pub MapsAreSound : Type 0
MapsAreSound = AllIsWell (one_steps (one 0))

-- the Tomasulo machine passes every premise; so where the search finds no violating path, its four units hold for all numbers of words, registers and stations
abbrev pub MachineIsChecked : Type 0
MachineIsChecked = IsChecked machine_script × (IsProved machine_script → IsSoundScript machine_script)
