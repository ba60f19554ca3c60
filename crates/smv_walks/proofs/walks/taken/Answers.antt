use Rattle.smv_cells.proofs.SeenLaws.{keeps_trans, cells_kept}
use Rattle.smv_outcomes.proofs.KnownLaws.{known_kept}
use Rattle.smv_targets.proofs.GivenLaws.{target_kept}
use Rattle.smv_walk_parts.proofs.FirstLaws.{gists_kept}
use Rattle.smv_walks.proofs.PartLaws.{taken_none, taken_of_it}
use Rattle.smv_walks.proofs.walks.taken.Goals as goal

pub returns-then-are_passed-clause-is : goal.returns-then-are_passed-clause-is
returns-then-are_passed-clause-is g c = taken_none _ _ _ _ _ _ _ _ _ _ _ _ c.are_passed.ensures c.if-are_passed.true

pub returns-clause-is : goal.returns-clause-is
returns-clause-is g c = taken_of_it _ _ _ _ _ _ _ _ _ _ _ c.in_ok-x.ensures.keeps c.requires.target_made _ _ _ _ _ _ _ _ c.everything-open.ensures.is c.or_nothing-above.ensures.made c.or_nothing-below.ensures.made c.or_nothing-above.ensures.gist c.or_nothing-below.ensures.gist
    c.in_ok-x.ensures.is c.in_ok-k.ensures.gist

pub returns-clause-cells : goal.returns-clause-cells
returns-clause-cells g c = cells_kept _ _ _ _ _ _ c.in_ok-k.ensures.keeps c.in_ok-x.ensures.cells

pub returns-clause-target : goal.returns-clause-target
returns-clause-target g c = target_kept _ _ _ _ _ _ (keeps_trans _ _ _ _ _ _ c.in_ok-x.ensures.keeps c.in_ok-k.ensures.keeps) c.requires.target_made

pub everything-open-requires : goal.everything-open-requires
everything-open-requires g c = record { target_made = target_kept _ _ _ _ _ _ c.in_ok-x.ensures.keeps c.requires.target_made }

pub if_of-requires-clause-g_made : goal.if_of-requires-clause-g_made
if_of-requires-clause-g_made g c = gists_kept _ _ _ _ _ _ c.in_ok-x.ensures.keeps c.or_nothing-above.ensures.made

pub if_of-requires-clause-h_made : goal.if_of-requires-clause-h_made
if_of-requires-clause-h_made g c = gists_kept _ _ _ _ _ _ c.in_ok-x.ensures.keeps c.or_nothing-below.ensures.made

pub returns-clause-known : goal.returns-clause-known
returns-clause-known g c = known_kept _ _ _ _ _ _ _ _ c.in_ok-k.ensures.keeps c.in_ok-x.ensures.cells c.in_ok-x.ensures.known
