use Rattle.smv_unit_tables.proofs.BaseLaws.{none_yet}
use Rattle.smv_unit_tables.proofs.bases.bases.Goals as goal

pub loop-place-init : goal.loop-place-init
loop-place-init c = none_yet c.args.design.now c.in_ok-bases.bases.items c.len-count.result c.len-count.ensures c.in_ok-bases.ensures
