use Rattle.std.proofs.Common.{map, ◌∙◌}
use Rattle.smv_use_times.specs.Uses.{held}
use Rattle.smv_use_times.proofs.OrderLaws.{is_uses_graph, times_all_timed, uses_same}
use Rattle.smv_use_times.proofs.order.Goals as goal

pub all_times-requires : goal.all_times-requires
all_times-requires c =
    is_uses_graph c.args.design.now c.args.units.now c.args.leaves.now c.args.choices.now c.requires.units c.requires.leaves c.requires.choices (map held c.as_slice.result.now)
    (uses_same c.args.design.now c.in_ok-tables.tables.design.now c.args.units.now c.in_ok-tables.tables.units.now c.args.leaves.now c.args.choices.now c.in_ok-all.all.items c.as_slice.result.now
    c.in_ok-tables.ensures.design c.in_ok-tables.ensures.units c.as_slice.ensures.value c.in_ok-all.ensures)

pub returns : goal.returns
returns c =
    times_all_timed c.args.design.now c.args.units.now c.args.leaves.now c.args.choices.now c.requires.units c.requires.leaves c.requires.choices (map held c.as_slice.result.now)
    (uses_same c.args.design.now c.in_ok-tables.tables.design.now c.args.units.now c.in_ok-tables.tables.units.now c.args.leaves.now c.args.choices.now c.in_ok-all.all.items c.as_slice.result.now
    c.in_ok-tables.ensures.design c.in_ok-tables.ensures.units c.as_slice.ensures.value c.in_ok-all.ensures)
    c.from_vec.result (c.from_vec.ensures ∙ c.in_ok-times.ensures)
