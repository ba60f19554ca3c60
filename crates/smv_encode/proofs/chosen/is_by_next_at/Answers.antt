use Rattle.std.proofs.Common.{map, ap, sym, ◌∙◌}
use Rattle.smv_spots.specs.Spots.{place_in}
use Rattle.smv_encode.specs.ChosenDemands.{is_moving}
use Rattle.smv_encode.proofs.chosen.is_by_next_at.Goals as goal

pub returns-in-Defined : goal.returns-in-Defined
returns-in-Defined c n = c.concerns.ensures n ∙ sym (ap (is_moving (map (place_in n) c.args.indexes.now)) c.in-Defined.is)
