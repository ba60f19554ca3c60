use Rattle.std.specs.Str.{bytes_eq}
use Rattle.smv_references.specs.Again.{placed}
use Rattle.smv_look_uses.proofs.SaidLaws.{mapped_step}
use Rattle.smv_look_uses.proofs.firsts.push_names_before.Goals as goal

pub loop-name-preserved : goal.loop-name-preserved
loop-name-preserved c =
    mapped_step c.args.at bytes_eq placed c.args.names.now c.loop-name.name-index c.name-item.result c.loop-name.before.items c.push.new.self.items c.as_slice.result.now c.loop-name.out.items c.push_named_at.new.out.items _
    c.loop-name-test.true c.name-item.is c.as_slice.ensures.value c.in_ok-push.ensures.items c.in_ok-push_named_at.ensures c.loop-name.invariant
