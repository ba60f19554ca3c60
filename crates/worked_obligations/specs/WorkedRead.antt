-- The worked machine meets what the laws ask of a design.
use Rattle.std.specs.Prelude.{List}
use Rattle.smv_core.specs.declared.flat.Choice.{Choice}
use Rattle.law_obligations.specs.Sets.{Has}
use Rattle.law_obligations.specs.Outlines.{Entry}
use Rattle.law_obligations.specs.Units.{script_of}
use Rattle.law_obligations.specs.Checked.{IsSplit}
use Rattle.law_splits.specs.Leaves.{leaves_of}
use Rattle.law_splits.specs.SplitLaws.{IsRead, HasNamesApart}
use Rattle.worked_obligations.specs.WorkedLeaves.{split_machine}

-- the Tomasulo machine is as earlier passes give it, with names apart, and so its leaves have the parameters and guards that its splits give
abbrev pub MachineIsRead : Type 0
MachineIsRead = IsRead split_machine × HasNamesApart split_machine
    × ((choices : List Choice) (entry : Entry) → Has (script_of split_machine (leaves_of split_machine) choices).entries entry → IsSplit (script_of split_machine (leaves_of split_machine) choices) entry)
