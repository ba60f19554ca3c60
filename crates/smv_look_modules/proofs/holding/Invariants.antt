use Rattle.std.proofs.Common.{◌≡◌, map, drop}
use Rattle.std.specs.List.{flat_map}
use Rattle.smv_mentions.specs.Scopes.{first_of_places}
use Rattle.smv_mentions.specs.Said.{said}
use Rattle.smv_first_fault.specs.Firsts.{least}
use Rattle.smv_look_modules.specs.Modules as spec
use Rattle.smv_look_modules.proofs.holding.Given as goal

abbrev pub invariant-loop-mention : goal.invariant-loop-mention
invariant-loop-mention l =
    first_of_places l.first (least (flat_map (spec.if_instance l.at l.piece.word.now.at) (map said (drop l.mention-index l.piece.mentions.items))))
    ≡ least (flat_map (spec.if_instance l.at l.piece.word.now.at) (map said l.piece.mentions.items))
