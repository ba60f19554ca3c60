use Rattle.law_lists.proofs.Options.{none_from_test}
use Rattle.smv_unit_tables.proofs.UnitLaws.{map_new}
use Rattle.smv_unit_tables.proofs.units.note_map.Goals as goal

pub returns-in_ok-insert : goal.returns-in_ok-insert
returns-in_ok-insert c = map_new c.args.maps.now c.insert.new.self c.args.key.0 c.args.key.1 c.args.place (none_from_test _ _ c.contains_key.ensures c.if-not-contains_key.true) (λ family layer. c.in_ok-insert.ensures.updates.0 (family, layer))
