use Rattle.std.proofs.Common.{◌++◌, arith, rules}
use Rattle.smv_path_tables.specs.Tables.{blanks}
use Rattle.smv_path_tables.proofs.Blanks.{one_more}
use Rattle.smv_path_tables.proofs.tables.push_blanks.Goals as goal

pub loop-index-preserved : goal.loop-index-preserved
loop-index-preserved c =
    one_more c.loop-index.out.items c.push.new.self.items (c.args.out.now.items ++ blanks c.args.count) c.args.count c.loop-index._index (omega arith) (search rules) c.loop-index.invariant
