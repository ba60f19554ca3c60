use Rattle.std.proofs.Common.{◌-◌, length, refl, arith}
use Rattle.smv_chosen_table.proofs.TableLaws.{before-last, picked-back, at-first}
use Rattle.smv_chosen_table.proofs.choose.Goals as goal

pub loop-place-init : goal.loop-place-init
loop-place-init c = before-last (record { design = c.args.design.now; units = c.args.units.now }) c.args.picks.now (length c.args.picks.now) c.args.table.now.items refl c.requires.table

pub loop-place-preserved : goal.loop-place-preserved
loop-place-preserved c =
    picked-back (record { design = c.args.design.now; units = c.args.units.now }) c.args.picks.now c.loop-place.place (c.loop-place.place - 1) _ c.loop-place.table.items c.put.new.table.items c.picked-def.result (omega arith) (omega arith)
    c.loop-place.invariant c.picked-def.ensures c.put.ensures

pub returns : goal.returns
returns c = at-first (record { design = c.args.design.now; units = c.args.units.now }) c.args.picks.now c.loop-place.place c.loop-place.table.items c.loop-place-test.false c.loop-place.invariant
