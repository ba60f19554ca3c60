use Rattle.std.proofs.Common.{ap, map}
use Rattle.std.proofs.lemmas.Result.{on_ok_weaker}
use Rattle.smv_choices.specs.Readings.{pair_of, reading}
use Rattle.smv_look_uses.proofs.SaidLaws.{all_said}
use Rattle.smv_look_uses.proofs.chosen.push_said.Goals as goal

pub returns : goal.returns
returns c =
    on_ok_weaker c.push_sets.result
    (all_said c.args.at c.args.tables.now.design.now c.args.units.now (reading c.args.x.now) c.as_slice-picks.result.now (map pair_of c.deref.result.now) c.as_slice.result.now c.as_slice-2.result.now
    c.args.out.now.items c.push_maps.new.out.items c.push_all_families.new.out.items c.push_claims.new.out.items c.push_sets.new.out.items
    c.as_slice-picks.ensures (ap (map pair_of) c.deref.ensures.value) c.as_slice.ensures c.as_slice-2.ensures c.in_ok-push_maps.ensures c.in_ok-push_all_families.ensures c.in_ok-push_claims.ensures)
    c.push_sets.ensures
