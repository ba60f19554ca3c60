use Rattle.std.proofs.Common.{map, ap, ◌∙◌}
use Rattle.smv_references.specs.Again.{placed}
use Rattle.smv_splits.proofs.LostLaws.{again-is}
use Rattle.smv_splits.proofs.lost.first_split_again.Goals as goal

pub returns : goal.returns
returns c = again-is c.args.splits.now (map placed c.deref.result.now) c.in_ok-place.place (ap (map placed) c.deref.ensures.value ∙ c.in_ok-placed.ensures) c.in_ok-place.ensures
