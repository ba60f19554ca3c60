use Rattle.law_worlds.proofs.Worlds.{world_of_case}
use Rattle.law_worlds.proofs.laws.worlds_are_of_cases.Goals as goal

pub returns : goal.returns
returns c case well = world_of_case case well
