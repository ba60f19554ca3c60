-- A list of names that has a place keeps it, and another one gets it.
use Rattle.std.proofs.Common.{refl, sym, ◌∙◌}
use Rattle.std.specs.HashMap.{get}
use Rattle.smv_core.specs.Outcome.{same_path}
use Rattle.smv_flatten_families.proofs.PathLaws.{known-stays, new-noted}
use Rattle.smv_flatten_families.proofs.places.note_place.Goals as goal

pub returns-in_ok-insert : goal.returns-in_ok-insert
returns-in_ok-insert c = new-noted c.args.places.now c.insert.new.self c.args.names c.args.place (get same_path c.args.places.now c.args.names) refl (sym c.contains_key.ensures ∙ c.if-not-contains_key.true) c.in_ok-insert.ensures.updates

pub returns-else-not-contains_key : goal.returns-else-not-contains_key
returns-else-not-contains_key c = known-stays c.args.places.now c.args.names c.args.place (get same_path c.args.places.now c.args.names) refl (sym c.contains_key.ensures ∙ c.if-not-contains_key.false)
