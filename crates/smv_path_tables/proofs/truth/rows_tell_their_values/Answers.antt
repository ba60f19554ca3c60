use Rattle.smv_path_tables.proofs.Told.{told_again}
use Rattle.smv_path_tables.proofs.truth.rows_tell_their_values.Goals as goal

pub returns : goal.returns
returns c = told_again
