use Rattle.std.proofs.Common.{◌∙◌}
use Rattle.smv_cells.proofs.SeenLaws.{keeps_trans, cells_kept, seen_on}
use Rattle.smv_outcomes.proofs.KnownLaws.{known_kept}
use Rattle.smv_walk_parts.proofs.MatchLaws.{no_index, one_match}
use Rattle.smv_walk_parts.proofs.matches.+matched.Goals as goal

pub returns-in_default-clause-is : goal.returns-in_default-clause-is
returns-in_default-clause-is g t c v h = no_index _ _ v _ _ _ _ c.in_default.ensures.cases c.sure.ensures.mix

pub returns-clause-keeps : goal.returns-clause-keeps
returns-clause-keeps g t c = keeps_trans _ _ _ _ _ _ c.in_ok-x.ensures.keeps (keeps_trans _ _ _ _ _ _ c.in_ok-offers.ensures.keeps (keeps_trans _ _ _ _ _ _ c.in_ok-y.ensures.keeps c.in_ok-z.ensures.keeps))

pub returns-clause-cells : goal.returns-clause-cells
returns-clause-cells g t c = cells_kept _ _ _ _ _ _ (keeps_trans _ _ _ _ _ _ c.in_ok-y.ensures.keeps c.in_ok-z.ensures.keeps) c.in_ok-offers.ensures.cells

pub returns-clause-known : goal.returns-clause-known
returns-clause-known g t c = known_kept _ _ _ _ _ _ _ _ (keeps_trans _ _ _ _ _ _ c.in_ok-y.ensures.keeps c.in_ok-z.ensures.keeps) c.in_ok-offers.ensures.cells c.in_ok-offers.ensures.known

pub returns-clause-is : goal.returns-clause-is
returns-clause-is g t c v h =
    let k = c.in-Some.ensures.cases in
    one_match _ _ _ _ _ _ _ v c.in_ok-offers.ensures.keeps c.in_ok-y.ensures.keeps _ _ _ _ _ _ _ _ _ _ _ _ k.0 c.others_of.ensures (c.copied.ensures ∙ c.first.ensures.value) c.as_slice.ensures.value c.in_ok-x.ensures.made
    (c.in_ok-x.ensures.is v h) (c.in_ok-offers.ensures.are v (seen_on _ _ _ _ _ _ _ v c.in_ok-x.ensures.keeps c.requires.cells_made h)) (c.in_ok-y.ensures.mix v.world h.world) c.in_ok-z.ensures.mix
