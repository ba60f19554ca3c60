use Rattle.std.proofs.Common.{◌≡◌, ◌∷◌, [], ◌+◌, drop, arith, rules, refl}
use Rattle.std.proofs.lemmas.Grind.{common_steps}
use Rattle.smv_cells.proofs.SeenLaws.{keeps_same, keeps_trans, cells_kept}
use Rattle.smv_targets.proofs.GivenLaws.{target_kept}
use Rattle.smv_outcomes.proofs.KnownLaws.{known_kept}
use Rattle.smv_sides.proofs.MemberLaws.{listed_must, sure_one, sure_span, listing_begins, listing_goes, listing_done}
use Rattle.smv_sides.proofs.SideLaws.{chosen_must, plain_must, plain_one}
use Rattle.smv_sides.proofs.sides.+sides.Goals as goal

pub must_allow-returns-in_ok-r-in-Choose-clause-is : goal.must_allow-returns-in_ok-r-in-Choose-clause-is
must_allow-returns-in_ok-r-in-Choose-clause-is g t c = chosen_must _ _ _ _ _ _ _ _ _ _ _ _ _ _ _ _ _ _ _ _ _ _ _ c.in-Choose.is c.get-in-Choose-2.ensures c.get.ensures c.get-in-Choose.ensures c.in_ok-left-in-Choose.ensures.keeps c.in_ok-right-in-Choose.ensures.keeps c.in_ok-x-in-Choose.ensures.keeps
    c.requires.cells_made c.requires.target_made c.in_ok-left-in-Choose.ensures.made c.in_ok-right-in-Choose.ensures.made c.in_ok-x-in-Choose.ensures.is c.in_ok-left-in-Choose.ensures.is c.in_ok-right-in-Choose.ensures.is c.in_ok-r-in-Choose.ensures.holds

pub must_allow-returns-in_ok-r-in-Choose-clause-cells : goal.must_allow-returns-in_ok-r-in-Choose-clause-cells
must_allow-returns-in_ok-r-in-Choose-clause-cells g t c = cells_kept _ _ _ _ _ _ c.in_ok-r-in-Choose.ensures.keeps c.in_ok-x-in-Choose.ensures.cells

pub must_allow-returns-in_ok-r-in-List-clause-is : goal.must_allow-returns-in_ok-r-in-List-clause-is
must_allow-returns-in_ok-r-in-List-clause-is g t c = listed_must _ _ _ _ _ _ _ _ _ _ _ _ c.in-List.is c.as_slice-all.ensures c.in_ok-r-in-List.ensures.is

pub sure_of_members-loop-member-init : goal.sure_of_members-loop-member-init
sure_of_members-loop-member-init g t c = record { keeps = keeps_same _ _ _ _; made = c.constant-some.ensures.made; cells_made = c.requires.cells_made; known = c.requires.known; target_made = c.requires.target_made; is = λ z aim a. listing_begins g.S.Conditions.IsMade g.S.Conditions.holds g.S.Conditions.room _ _ _ _ c.constant-some.ensures.holds z a }

pub sure_of_members-loop-member-preserved : goal.sure_of_members-loop-member-preserved
sure_of_members-loop-member-preserved g t c =
    let step : drop c.loop-member.member-index c.args.members.now ≡ c.member-item.result ∷ drop (c.loop-member.member-index + 1) c.args.members.now = grind (arith, common_steps) in
    record {
      keeps = keeps_trans _ _ _ _ _ _ c.loop-member.invariant.keeps (keeps_trans _ _ _ _ _ _ c.in_ok-here.ensures.keeps c.in_ok-some.ensures.keeps);
      made = c.in_ok-some.ensures.made;
      cells_made = cells_kept _ _ _ _ _ _ c.in_ok-some.ensures.keeps c.in_ok-here.ensures.cells;
      known = known_kept _ _ _ _ _ _ _ _ c.in_ok-some.ensures.keeps c.in_ok-here.ensures.cells c.in_ok-here.ensures.known;
      target_made = target_kept _ _ _ _ _ _ c.in_ok-some.ensures.keeps c.in_ok-here.ensures.target;
      is = listing_goes _ _ _ _ _ _ _ _ _ _ _ _ _ _ _ _ _ _ step c.loop-member.invariant.keeps c.in_ok-here.ensures.keeps c.loop-member.invariant.made c.requires.cells_made c.requires.target_made c.loop-member.invariant.is c.in_ok-here.ensures.is c.in_ok-some.ensures.holds;
    }

pub sure_of_members-returns-clause-keeps : goal.sure_of_members-returns-clause-keeps
sure_of_members-returns-clause-keeps g t c = c.loop-member.invariant.keeps

pub sure_of_members-returns-clause-made : goal.sure_of_members-returns-clause-made
sure_of_members-returns-clause-made g t c = c.loop-member.invariant.made

pub sure_of_members-returns-clause-cells : goal.sure_of_members-returns-clause-cells
sure_of_members-returns-clause-cells g t c = c.loop-member.invariant.cells_made

pub sure_of_members-returns-clause-known : goal.sure_of_members-returns-clause-known
sure_of_members-returns-clause-known g t c = c.loop-member.invariant.known

pub sure_of_members-returns-clause-target : goal.sure_of_members-returns-clause-target
sure_of_members-returns-clause-target g t c = c.loop-member.invariant.target_made

pub sure_of_members-returns-clause-is : goal.sure_of_members-returns-clause-is
sure_of_members-returns-clause-is g t c =
    let end : drop c.loop-member.member-index c.args.members.now ≡ [] = grind (arith, common_steps) in
    listing_done g.S.Conditions.IsMade _ g.S.Conditions.room _ _ _ _ _ _ _ _ _ end c.loop-member.invariant.is

pub sure_of_member-returns-in_ok-r-in-Span-clause-cells : goal.sure_of_member-returns-in_ok-r-in-Span-clause-cells
sure_of_member-returns-in_ok-r-in-Span-clause-cells g t c = cells_kept _ _ _ _ _ _ c.in_ok-r-in-Span.ensures.keeps c.requires.cells_made

pub sure_of_member-returns-in_ok-r-in-Span-clause-is : goal.sure_of_member-returns-in_ok-r-in-Span-clause-is
sure_of_member-returns-in_ok-r-in-Span-clause-is g t c = sure_span g.S.Conditions.IsMade _ g.S.Conditions.room _ _ _ _ _ _ _ _ _ _ _ _ _ c.in-Span.is (search rules) (search rules) c.in_ok-r-in-Span.ensures.is

pub sure_of_member-returns-in_ok-r-in-One-clause-is : goal.sure_of_member-returns-in_ok-r-in-One-clause-is
sure_of_member-returns-in_ok-r-in-One-clause-is g t c = sure_one _ _ _ _ _ _ _ _ _ _ _ _ _ _ _ _ _ _ _ _ c.in-One.is refl refl c.in_ok-here-in-One.ensures.keeps c.in_ok-some-in-One.ensures.keeps c.in_ok-none-in-One.ensures.keeps c.in_ok-here-in-One.ensures.made
    c.requires.cells_made c.requires.target_made c.in_ok-here-in-One.ensures.is c.in_ok-some-in-One.ensures.is c.in_ok-none-in-One.ensures.holds c.in_ok-r-in-One.ensures.holds

pub must_allow-returns-in_ok-r-in-Choose-clause-target : goal.must_allow-returns-in_ok-r-in-Choose-clause-target
must_allow-returns-in_ok-r-in-Choose-clause-target g t c = target_kept _ _ _ _ _ _ c.in_ok-r-in-Choose.ensures.keeps (target_kept _ _ _ _ _ _ c.in_ok-x-in-Choose.ensures.keeps c.in_ok-right-in-Choose.ensures.target)

pub must_allow-returns-in_ok-r-in_default : goal.must_allow-returns-in_ok-r-in_default
must_allow-returns-in_ok-r-in_default g t c = record {
  keeps = c.in_ok-r-in_default.ensures.keeps;
  made = c.in_ok-r-in_default.ensures.made;
  cells = c.in_ok-r-in_default.ensures.cells;
  known = c.in_ok-r-in_default.ensures.known;
  target = c.in_ok-r-in_default.ensures.target;
  is = plain_must _ _ _ _ _ _ _ _ _ (plain_one _ c.in_default.not-Choose c.in_default.not-List c.in_default.not-Each) c.in_ok-r-in_default.ensures.is;
}

pub sure_of_member-returns-in_ok-r-in-One-clause-cells : goal.sure_of_member-returns-in_ok-r-in-One-clause-cells
sure_of_member-returns-in_ok-r-in-One-clause-cells g t c = cells_kept _ _ _ _ _ _ c.in_ok-r-in-One.ensures.keeps (cells_kept _ _ _ _ _ _ c.in_ok-none-in-One.ensures.keeps c.in_ok-some-in-One.ensures.cells)

pub sure_of_member-returns-in_ok-r-in-One-clause-target : goal.sure_of_member-returns-in_ok-r-in-One-clause-target
sure_of_member-returns-in_ok-r-in-One-clause-target g t c = target_kept _ _ _ _ _ _ c.in_ok-r-in-One.ensures.keeps (target_kept _ _ _ _ _ _ c.in_ok-none-in-One.ensures.keeps c.in_ok-some-in-One.ensures.target)

pub must_allow-returns-in_ok-r-in-Choose-clause-known : goal.must_allow-returns-in_ok-r-in-Choose-clause-known
must_allow-returns-in_ok-r-in-Choose-clause-known g t c = known_kept _ _ _ _ _ _ _ _ c.in_ok-r-in-Choose.ensures.keeps c.in_ok-x-in-Choose.ensures.cells c.in_ok-x-in-Choose.ensures.known

pub sure_of_member-returns-in_ok-r-in-Span-clause-known : goal.sure_of_member-returns-in_ok-r-in-Span-clause-known
sure_of_member-returns-in_ok-r-in-Span-clause-known g t c = known_kept _ _ _ _ _ _ _ _ c.in_ok-r-in-Span.ensures.keeps c.requires.cells_made c.requires.known

pub sure_of_member-returns-in_ok-r-in-One-clause-known : goal.sure_of_member-returns-in_ok-r-in-One-clause-known
sure_of_member-returns-in_ok-r-in-One-clause-known g t c = known_kept _ _ _ _ _ _ _ _ c.in_ok-r-in-One.ensures.keeps (cells_kept _ _ _ _ _ _ c.in_ok-none-in-One.ensures.keeps c.in_ok-some-in-One.ensures.cells) (known_kept _ _ _ _ _ _ _ _ c.in_ok-none-in-One.ensures.keeps c.in_ok-some-in-One.ensures.cells c.in_ok-some-in-One.ensures.known)
