use Rattle.std.proofs.Common.{◌∙◌}
use Rattle.smv_name_numbers.proofs.NumberLaws.{set-numbers-made}
use Rattle.smv_name_numbers.proofs.set_numbers.Goals as goal

pub returns : goal.returns
returns c =
    set-numbers-made c.set_places.result c.args.sets.now c.new-index.result c.push.new.self c.push_set_names.new.index c.from_vec-empty.result c.new-index.ensures (c.from_vec-empty.ensures ∙ c.new.ensures.items) c.in_ok-push.ensures.ok
    c.in_ok-push_set_names.ensures c.set_places.ensures
