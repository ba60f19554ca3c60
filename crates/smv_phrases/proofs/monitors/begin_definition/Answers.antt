use Rattle.std.proofs.lemmas.Result.{IfOk-equal}
use Rattle.smv_phrases.proofs.DefinedLaws.{front-written}
use Rattle.smv_phrases.proofs.monitors.begin_definition.Goals as goal

pub returns : goal.returns
returns c =
    IfOk-equal c.known-4.result _ _ _ c.known-4.ensures
    (front-written c.args.text.now c.args.binders.now c.args.name.now c.args.out.now.items c.foralls.new.out.items c.known.new.out.items c.monitor.new.out.items c.known-2.new.out.items c.foralls-2.new.out.items c.known-3.new.out.items c.monitor-2.new.out.items
    c.in_ok-foralls.ensures c.in_ok-known.ensures c.in_ok-monitor.ensures c.in_ok-known-2.ensures c.in_ok-foralls-2.ensures c.in_ok-known-3.ensures c.in_ok-monitor-2.ensures)
