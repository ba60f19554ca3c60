use Rattle.std.proofs.Common.{map, ◌∙◌}
use Rattle.smv_mentions.specs.Said.{told}
use Rattle.smv_size.proofs.PlaceLaws.{main_is}
use Rattle.smv_size.proofs.place.fault_at_main.Goals as goal

pub returns : goal.returns
returns c = c.first_main.ensures ∙ main_is (map told c.args.pieces.now) c.args.text.now c.requires
