use Rattle.std.proofs.Common.{◌<◌, ◌≤◌, length, arith}
use Rattle.smv_chosen_table.proofs.TableLaws.{back-first, back-turn, back-last}
use Rattle.smv_chosen_table.proofs.put_back.Goals as goal

pub loop-place-init : goal.loop-place-init
loop-place-init c = back-first (record { design = c.args.design.now; units = c.args.units.now }) c.args.picks.now c.args.table.now.items c.requires.table

pub loop-place-preserved : goal.loop-place-preserved
loop-place-preserved c =
    let within : c.loop-place.place < length c.args.picks.now = grind (arith, c.loop-place-test.true, c.loop-place.auto.place-end) in
    back-turn c.args.design.now c.args.picks.now c.loop-place.place _ c.loop-place.table.items c.put.new.table.items c.base_at-def.result within c.loop-place.invariant c.base_at-def.ensures c.put.ensures

pub returns : goal.returns
returns c =
    let past : length c.args.picks.now ≤ c.loop-place.place = grind (arith, c.loop-place-test.false, c.loop-place.auto.place-end) in
    back-last c.args.design.now c.args.picks.now c.loop-place.place c.loop-place.table.items past c.loop-place.invariant
