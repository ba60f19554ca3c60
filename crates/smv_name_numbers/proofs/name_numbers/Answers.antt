use Rattle.std.proofs.Common.{◌∙◌}
use Rattle.smv_name_numbers.proofs.NumberLaws.{numbers-made}
use Rattle.smv_name_numbers.proofs.name_numbers.Goals as goal

pub returns : goal.returns
returns c =
    numbers-made c.all_places.result c.args.enums.now c.new-index.result c.push.new.self c.push_all.new.index c.from_vec-empty.result c.new-index.ensures (c.from_vec-empty.ensures ∙ c.new.ensures.items) c.in_ok-push.ensures.ok c.in_ok-push_all.ensures
    c.all_places.ensures
