use Rattle.std.proofs.Common.{refl}
use Rattle.smv_cells.proofs.SeenLaws.{keeps_trans, cells_kept}
use Rattle.smv_outcomes.proofs.KnownLaws.{known_kept}
use Rattle.smv_walks.proofs.StepLaws.{part_gives_it}
use Rattle.smv_walks.proofs.given.part_gives.Goals as goal

pub returns-clause-is : goal.returns-clause-is
returns-clause-is g c = part_gives_it _ _ _ _ _ _ _ c.in_ok-g.ensures.keeps c.in_ok-kept.ensures.keeps _ _ _ _ _ _ _ _ _ _ refl c.requires.nothing_made c.in_ok-g.ensures.made c.in_ok-g.ensures.is c.in_ok-kept.ensures.holds c.in_ok-r.ensures.holds

pub returns-clause-cells : goal.returns-clause-cells
returns-clause-cells g c = cells_kept _ _ _ _ _ _ (keeps_trans _ _ _ _ _ _ c.in_ok-kept.ensures.keeps c.in_ok-r.ensures.keeps) c.in_ok-g.ensures.cells

pub both-requires-clause-d_made : goal.both-requires-clause-d_made
both-requires-clause-d_made g c = c.in_ok-g.ensures.keeps.made _ c.requires.nothing_made

pub returns-clause-known : goal.returns-clause-known
returns-clause-known g c = known_kept _ _ _ _ _ _ _ _ (keeps_trans _ _ _ _ _ _ c.in_ok-kept.ensures.keeps c.in_ok-r.ensures.keeps) c.in_ok-g.ensures.cells c.in_ok-g.ensures.known
