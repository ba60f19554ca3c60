use Rattle.smv_outcomes.proofs.KnownLaws.{known_kept}
use Rattle.smv_walks.proofs.DemandLaws.{element_given, old_kept, old_known_kept}
use Rattle.smv_walks.proofs.given.element_gives.Goals as goal

pub returns-clause-is : goal.returns-clause-is
returns-clause-is g c = element_given _ _ _ _ _ _ c.in_ok-target.ensures.keeps _ _ _ c.requires.old_made c.requires.cells_made _ _ _ _ _ _ _ _ c.in_ok-indexes.ensures c.in_ok-target.ensures.is c.in_ok-r.ensures.is

pub target_gives-requires-clause-old_made : goal.target_gives-requires-clause-old_made
target_gives-requires-clause-old_made g c = old_kept _ _ _ _ _ _ c.in_ok-target.ensures.keeps c.requires.old_made

pub target_gives-requires-clause-known : goal.target_gives-requires-clause-known
target_gives-requires-clause-known g c = known_kept _ _ _ _ _ _ _ _ c.in_ok-target.ensures.keeps c.requires.cells_made c.requires.known

pub target_gives-requires-clause-past : goal.target_gives-requires-clause-past
target_gives-requires-clause-past g c = old_known_kept _ _ _ _ _ _ _ _ c.in_ok-target.ensures.keeps c.requires.old_made c.requires.past
