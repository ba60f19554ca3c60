-- The exit status of the program: 0 where all that was asked for is proved or written, and otherwise a number for each cause.
use Rattle.std.specs.Prelude.{ℕ}
use Rattle.smv_command.specs.declared.exit.Status.{Status}
use Rattle.smv_command.specs.declared.exit.Status.TheVariants.{AllProved, SomeFalse, SomeUnknown, Refused, Usage, ReadFault, WriteFault, OutOfMemory, PartProved, Printed, Generated, Documented, Checked, Rejected, Resumed, HoldsHere, Real, Inducted, AllFormulas}

abbrev pub number_of : Status → ℕ
number_of AllProved = 0
number_of SomeFalse = 1
number_of SomeUnknown = 2
number_of Refused = 3
number_of Usage = 4
number_of ReadFault = 5
number_of WriteFault = 6
number_of OutOfMemory = 7
number_of PartProved = 8
number_of Printed = 0
number_of Generated = 0
number_of Documented = 0
number_of Checked = 0
number_of Rejected = 9
number_of Resumed = 0
number_of HoldsHere = 10
number_of Real = 11
number_of Inducted = 0
number_of AllFormulas = 0
