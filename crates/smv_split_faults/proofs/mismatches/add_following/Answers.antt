use Rattle.std.proofs.Common.{map, arith}
use Rattle.smv_split_faults.specs.Waiting.{held}
use Rattle.smv_split_faults.proofs.WaitingLaws.{follows}
use Rattle.smv_split_faults.proofs.mismatches.add_following.Goals as goal

pub returns-in_ok-add_all-in-Some : goal.returns-in_ok-add_all-in-Some
returns-in_ok-add_all-in-Some c =
    follows c.args.tables.now.design.now c.as_slice-splits.result.now c.args.tables.now.named c.group.result.now c.args.name.now c.args.known c.args.left c.in-Some.left (map held c.args.out.now.items) (map held c.add_all.new.out.items)
    c.as_slice-splits.ensures c.requires.named c.group.ensures (omega (arith, c.in-Some.ensures)) c.in_ok-add_all-in-Some.ensures
