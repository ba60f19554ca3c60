use Rattle.std.proofs.Common.{get_or, arith}
use Rattle.std.proofs.lemmas.List.{get_or_default}
use Rattle.smv_core.specs.declared.flat.Unit.TheVariants.{Map}
use Rattle.smv_use_times.specs.Tables.{outline}
use Rattle.smv_use_times.proofs.UseLaws.{one_leaf}
use Rattle.smv_use_times.proofs.uses.all_uses.Goals as goal

pub loop-place-preserved : goal.loop-place-preserved
loop-place-preserved c =
    let units = c.args.tables.now.units.now in
    let place = c.loop-place.place in
    let below = c.loop-place-test.true in
    let l = c.requires.leaves in
    let m = c.requires.choices in
    one_leaf (outline c.args.tables.now) units c.args.leaves.now c.args.choices.now place (get_or units place (Map 0)) c.index-leaves-place.result c.index-choices-place.result
    c.in_ok-leaf_uses.field-0 c.loop-place.all.items c.push.new.self.items _ below (omega (arith, below, l)) (omega (arith, below, m))
    (get_or_default units place (Map 0) (get_or units place (Map 0)) below) c.index-leaves-place.is c.index-choices-place.is c.in_ok-leaf_uses.ensures c.in_ok-push.ensures.items c.loop-place.invariant
