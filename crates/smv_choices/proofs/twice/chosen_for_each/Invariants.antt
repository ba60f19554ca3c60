use Rattle.std.proofs.Common.{◌≡◌, ℕ, map, drop, true}
use Rattle.std.specs.Prelude.{option_and_then}
use Rattle.std.specs.List.{slice_get}
use Rattle.smv_mentions.specs.Scopes.{first_of_places}
use Rattle.law_obligations.specs.Outlines.{unit_in, map_in}
use Rattle.smv_choices.specs.Held.{is_seen}
use Rattle.smv_choices.specs.Parts as parts
use Rattle.smv_choices.specs.Readings.{pair_of}
use Rattle.smv_choices.proofs.twice.chosen_for_each.Given as goal

abbrev pub invariant-loop-x : goal.invariant-loop-x
invariant-loop-x l = record {
  known : (u : ℕ) → is_seen l.seen u ≡ true → first_of_places l.found (parts.chosen_again (option_and_then (λ unit. map_in (unit_in l.tables.design.now unit)) (slice_get l.units u)) l.picks) ≡ l.found;
  found : first_of_places l.found (parts.chosen_for_each l.tables.design.now l.units l.picks (map pair_of (drop l.x-index l.proved))) ≡ parts.chosen_for_each l.tables.design.now l.units l.picks (map pair_of l.proved);
}
