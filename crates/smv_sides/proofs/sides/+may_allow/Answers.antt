use Rattle.smv_cells.proofs.SeenLaws.{cells_kept}
use Rattle.smv_targets.proofs.GivenLaws.{target_kept}
use Rattle.smv_outcomes.proofs.KnownLaws.{known_kept}
use Rattle.smv_sides.proofs.MemberLaws.{listed_none, listed_some}
use Rattle.smv_sides.proofs.SideLaws.{chosen_may, plain_may, plain_one}
use Rattle.smv_sides.proofs.sides.+may_allow.Goals as goal

pub returns-in_ok-r-in-Choose-clause-cells : goal.returns-in_ok-r-in-Choose-clause-cells
returns-in_ok-r-in-Choose-clause-cells g t c = cells_kept _ _ _ _ _ _ c.in_ok-r-in-Choose.ensures.keeps c.in_ok-x-in-Choose.ensures.cells

pub returns-in_ok-r-in-Choose-clause-is : goal.returns-in_ok-r-in-Choose-clause-is
returns-in_ok-r-in-Choose-clause-is g t c = chosen_may _ _ _ _ _ _ _ _ _ _ _ _ _ _ _ _ _ _ _ _ _ _ _ c.in-Choose.is c.get-in-Choose-2.ensures c.get.ensures c.get-in-Choose.ensures c.in_ok-left-in-Choose.ensures.keeps c.in_ok-right-in-Choose.ensures.keeps c.in_ok-x-in-Choose.ensures.keeps
    c.requires.cells_made c.requires.target_made c.in_ok-left-in-Choose.ensures.made c.in_ok-right-in-Choose.ensures.made c.in_ok-x-in-Choose.ensures.is c.in_ok-left-in-Choose.ensures.is c.in_ok-right-in-Choose.ensures.is c.in_ok-r-in-Choose.ensures.holds

pub returns-then-not-has_some-clause-is : goal.returns-then-not-has_some-clause-is
returns-then-not-has_some-clause-is g t c = listed_none _ _ _ _ _ _ _ _ _ _ _ c.in-List.is c.as_slice-all.ensures c.has_some.ensures c.if-not-has_some.true

pub returns-in_ok-r-in-List-clause-is : goal.returns-in_ok-r-in-List-clause-is
returns-in_ok-r-in-List-clause-is g t c = listed_some _ _ _ _ _ _ _ _ _ _ _ _ _ c.in-List.is c.as_slice-all.ensures c.has_some.ensures c.if-not-has_some.false c.in_ok-r-in-List.ensures.is

pub returns-in_ok-r-in-Choose-clause-target : goal.returns-in_ok-r-in-Choose-clause-target
returns-in_ok-r-in-Choose-clause-target g t c = target_kept _ _ _ _ _ _ c.in_ok-r-in-Choose.ensures.keeps (target_kept _ _ _ _ _ _ c.in_ok-x-in-Choose.ensures.keeps c.in_ok-right-in-Choose.ensures.target)

pub returns-in_ok-r-in_default : goal.returns-in_ok-r-in_default
returns-in_ok-r-in_default g t c = record {
  keeps = c.in_ok-r-in_default.ensures.keeps;
  made = c.in_ok-r-in_default.ensures.made;
  cells = c.in_ok-r-in_default.ensures.cells;
  known = c.in_ok-r-in_default.ensures.known;
  target = c.in_ok-r-in_default.ensures.target;
  is = plain_may _ _ _ _ _ _ _ _ _ (plain_one _ c.in_default.not-Choose c.in_default.not-List c.in_default.not-Each) c.in_ok-r-in_default.ensures.is;
}

pub returns-in_ok-r-in-Choose-clause-known : goal.returns-in_ok-r-in-Choose-clause-known
returns-in_ok-r-in-Choose-clause-known g t c = known_kept _ _ _ _ _ _ _ _ c.in_ok-r-in-Choose.ensures.keeps c.in_ok-x-in-Choose.ensures.cells c.in_ok-x-in-Choose.ensures.known
