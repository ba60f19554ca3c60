use Rattle.std.proofs.Common.{◌≡◌, map, drop, not}
use Rattle.std.specs.List.{flat_map}
use Rattle.smv_mentions.specs.NameFaults.{place_if}
use Rattle.smv_mentions.specs.Scopes.{first_of_places}
use Rattle.smv_first_fault.specs.Firsts.{least}
use Rattle.smv_choices.specs.Parts as parts
use Rattle.smv_choices.specs.Readings.{pair_of}
use Rattle.smv_choices.proofs.misfits.first_unfit.Given as goal

abbrev pub invariant-loop-word : goal.invariant-loop-word
invariant-loop-word l = record {
  known : l.fit.items ≡ map (parts.fits_name l.set (map pair_of l.proved)) l.known;
  found :
      first_of_places l.found (least (flat_map (λ word. place_if (not (parts.fits l.set (map pair_of l.proved) word)) word.at) (drop l.word-index l.names)))
      ≡ least (flat_map (λ word. place_if (not (parts.fits l.set (map pair_of l.proved) word)) word.at) l.names);
}
