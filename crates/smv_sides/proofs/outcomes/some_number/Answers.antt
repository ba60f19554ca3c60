use Rattle.std.proofs.Common.{arith, refl}
use Rattle.smv_cells.proofs.SeenLaws.{keeps_same, keeps_trans}
use Rattle.smv_targets.proofs.GivenLaws.{condition_made, target_kept}
use Rattle.smv_sides.proofs.NumberLaws.{numbers_begin, numbers_go, numbers_done}
use Rattle.smv_sides.proofs.outcomes.some_number.Goals as goal

pub loop-value-init : goal.loop-value-init
loop-value-init g c = record { keeps = keeps_same _ _ _ _; made = c.constant-some.ensures.made; is = λ z world target a. numbers_begin g.S.Conditions.IsMade g.S.Conditions.holds g.S.Conditions.room _ c.args.target.now _ _ _ c.constant-some.ensures.holds z a }

pub either-requires-clause-d_made : goal.either-requires-clause-d_made
either-requires-clause-d_made g c = condition_made _ _ _ c.given-gives.ensures.among (target_kept _ _ _ _ _ _ c.loop-value.invariant.keeps c.requires.target_made)

pub loop-value-preserved : goal.loop-value-preserved
loop-value-preserved g c = record {
  keeps = keeps_trans _ _ _ _ _ _ c.loop-value.invariant.keeps c.in_ok-some.ensures.keeps;
  made = c.in_ok-some.ensures.made;
  is = numbers_go _ _ _ _ _ _ _ _ _ _ _ _ _ _ _ _ c.loop-value-test.true refl c.loop-value.invariant.keeps c.requires.target_made c.loop-value.invariant.is c.given-gives.ensures.is c.in_ok-some.ensures.holds;
}

pub returns-clause-keeps : goal.returns-clause-keeps
returns-clause-keeps g c = c.loop-value.invariant.keeps

pub returns-clause-target : goal.returns-clause-target
returns-clause-target g c = target_kept _ _ _ _ _ _ c.loop-value.invariant.keeps c.requires.target_made

pub returns-clause-is : goal.returns-clause-is
returns-clause-is g c = numbers_done g.S.Conditions.IsMade _ g.S.Conditions.room _ _ _ _ _ _ _ _ _ (omega (arith, c.loop-value-test.false)) c.loop-value.invariant.is
