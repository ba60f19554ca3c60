use Rattle.smv_encode.proofs.Kept.{kept_tables}
use Rattle.smv_encode.proofs.kept_stores.kept_tables_keep.Goals as goal

pub returns : goal.returns
returns c = kept_tables
