use Rattle.std.proofs.Common.{[]}
use Rattle.smv_design.proofs.FirstLaws.{none-gathered}
use Rattle.smv_design.proofs.firsts.first_heads.Goals as goal

pub returns : goal.returns
returns c = (c.in_ok-note_all.ensures [] (none-gathered (record { heads = c.new.result; owners = c.new-2.result }) c.new.ensures.items c.new-2.ensures.empty)).0
