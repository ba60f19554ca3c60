use Rattle.smv_cells.proofs.SeenLaws.{keeps_same, keeps_trans, cells_kept}
use Rattle.smv_targets.proofs.GivenLaws.{target_kept}
use Rattle.smv_outcomes.proofs.KnownLaws.{known_kept}
use Rattle.smv_sides.proofs.MemberLaws.{members_go, gathered_none, gathered_all, longer}
use Rattle.smv_sides.proofs.members.some_of_members.Goals as goal

pub loop-place-init : goal.loop-place-init
loop-place-init g c = record {
  keeps = keeps_same _ _ _ _;
  made = c.constant-some.ensures.made;
  cells_made = c.requires.cells_made;
  known = c.requires.known;
  target_made = c.requires.target_made;
  is = gathered_none _ _ _ _ _ _ _ c.args.members.now _ c.constant-some.ensures.holds;
}

pub loop-place-preserved : goal.loop-place-preserved
loop-place-preserved g c =
    let step = longer c.args.members.now c.loop-place.place c.index-members-place.result c.loop-place-test.true c.loop-place.auto.place c.index-members-place.is in
    record {
      keeps = keeps_trans _ _ _ _ _ _ c.loop-place.invariant.keeps (keeps_trans _ _ _ _ _ _ c.in_ok-here.ensures.keeps c.in_ok-some.ensures.keeps);
      made = c.in_ok-some.ensures.made;
      cells_made = cells_kept _ _ _ _ _ _ c.in_ok-some.ensures.keeps c.in_ok-here.ensures.cells;
      known = known_kept _ _ _ _ _ _ _ _ c.in_ok-some.ensures.keeps c.in_ok-here.ensures.cells c.in_ok-here.ensures.known;
      target_made = target_kept _ _ _ _ _ _ c.in_ok-some.ensures.keeps c.in_ok-here.ensures.target;
      is = members_go _ _ _ _ _ _ _ _ _ _ _ _ _ _ _ _ _ _ step c.loop-place.invariant.keeps c.in_ok-here.ensures.keeps c.loop-place.invariant.made c.requires.cells_made c.requires.target_made c.loop-place.invariant.is c.in_ok-here.ensures.is c.in_ok-some.ensures.holds;
    }

pub returns-clause-keeps : goal.returns-clause-keeps
returns-clause-keeps g c = c.loop-place.invariant.keeps

pub returns-clause-made : goal.returns-clause-made
returns-clause-made g c = c.loop-place.invariant.made

pub returns-clause-cells : goal.returns-clause-cells
returns-clause-cells g c = c.loop-place.invariant.cells_made

pub returns-clause-known : goal.returns-clause-known
returns-clause-known g c = c.loop-place.invariant.known

pub returns-clause-target : goal.returns-clause-target
returns-clause-target g c = c.loop-place.invariant.target_made

pub returns-clause-is : goal.returns-clause-is
returns-clause-is g c = gathered_all _ _ _ _ _ _ _ _ c.args.members.now _ _ c.loop-place-test.false c.loop-place.invariant.is
