use Rattle.std.proofs.Common.{rules}
use Rattle.indexmap.specs.Entry.{map_with_value}
use Rattle.name_index.proofs.Places.{found_or-entered}
use Rattle.name_index.proofs.note_place.Goals as goal

pub returns-clause-ok : goal.returns-clause-ok
returns-clause-ok c = λ other.
    let entered = found_or-entered c.args.first_places.now (map_with_value c.in_ok-first_places.field-0 c.or_insert.result.now) c.args.name.now c.args.place c.or_insert.result.now _ c.in_ok-first_places.ensures.value c.or_insert.ensures.value (c.in_ok-first_places.ensures.update.0 c.or_insert.result.now) other in
    search (rules, entered)
