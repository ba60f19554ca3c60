use Rattle.std.proofs.Common.{◌≡◌, drop}
use Rattle.std.specs.List.{flat_map}
use Rattle.smv_core.specs.Types.{find_name}
use Rattle.smv_mentions.specs.Scopes.{pieces, constants, first_of_places}
use Rattle.smv_mentions.specs.NameFaults.{place_if, is_of_other_list}
use Rattle.smv_scope.specs.Compared.{IsCompared}
use Rattle.smv_first_fault.specs.Firsts.{least}
use Rattle.smv_scope.proofs.constants.other_constant.Given as goal

abbrev pub invariant-loop-word : goal.invariant-loop-word
invariant-loop-word l =
    (first_of_places l.first (least (flat_map (λ word. place_if (is_of_other_list l.names (find_name (constants (pieces l.tables.text.now)) word.name)) word.at) (drop l.word-index l.names)))
    ≡ least (flat_map (λ word. place_if (is_of_other_list l.names (find_name (constants (pieces l.tables.text.now)) word.name)) word.at) l.names))
    × IsCompared l.tables.lists.items l.names l.last
