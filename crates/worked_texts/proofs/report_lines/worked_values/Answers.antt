-- By computing.
use Rattle.std.proofs.Common.{refl}
use Rattle.std.specs.Fmt.{digits}
use Rattle.worked_texts.proofs.report_lines.worked_values.Goals as goal

pub returns : goal.returns
unfolding digits
returns c = record { numbers = refl; constants = refl; scalarsets = refl; ordsets = refl; nothing = refl }
