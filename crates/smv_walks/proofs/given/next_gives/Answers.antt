use Rattle.smv_outcomes.proofs.KnownLaws.{known_kept}
use Rattle.smv_walks.proofs.StepLaws.{next_gives_it}
use Rattle.smv_walks.proofs.given.next_gives.Goals as goal

pub returns-clause-is : goal.returns-clause-is
returns-clause-is g c = next_gives_it _ _ _ _ _ _ c.in_ok-nothing.ensures.keeps _ _ c.requires.old_made _ c.requires.target_made _ _ _ _ _ c.in_ok-nothing.ensures.is c.in_ok-r.ensures.is

pub part_gives-requires-clause-known : goal.part_gives-requires-clause-known
part_gives-requires-clause-known g c = known_kept _ _ _ _ _ _ _ _ c.in_ok-nothing.ensures.keeps c.requires.old_made c.requires.known
