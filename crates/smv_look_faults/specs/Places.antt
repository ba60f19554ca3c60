-- The other place of a fault, where it has one.
use Rattle.std.specs.Prelude.{ℕ, Option, None, Bool, ◌||◌, if◌then◌else◌, nat_eq}
use Rattle.smv_core.specs.declared.tree.Text.{Text}
use Rattle.smv_look_names.specs.Names.{declared_first}
use Rattle.smv_look_modules.specs.Modules.{holding_first, unused_first}
use Rattle.smv_look_assignments.specs.Assignments.{conflicts_first, mixed_first}
use Rattle.smv_look_uses.specs.Chosen.{chosen_first}

-- a fault of this number may have another place: a name that is declared twice, a text without `main`, a module that contains itself, assignments that conflict or are mixed, what is chosen twice
abbrev pub has_other : ℕ → Bool
has_other number = nat_eq number 8 || nat_eq number 9 || nat_eq number 10 || nat_eq number 15 || nat_eq number 16 || nat_eq number 27

-- the other place of a fault of this number that stands here
abbrev pub other_place : Text → ℕ → ℕ → Option ℕ
other_place text number at =
    if nat_eq number 8 then declared_first text at
    else if nat_eq number 9 then unused_first text
    else if nat_eq number 10 then holding_first text at
    else if nat_eq number 15 then conflicts_first text at
    else if nat_eq number 16 then mixed_first text at
    else if nat_eq number 27 then chosen_first text at
    else None
