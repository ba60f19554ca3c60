use Rattle.std.proofs.Common.{refl}
use Rattle.smv_references.specs.Again.{same_key}
use Rattle.smv_look_uses.proofs.SaidLaws.{key_step}
use Rattle.smv_look_uses.proofs.firsts.push_before.Goals as goal

pub loop-key-preserved : goal.loop-key-preserved
loop-key-preserved c =
    key_step c.args.at same_key c.args.keys.now c.loop-key.key-index _ _ c.loop-key.before.items c.push.new.self.items c.as_slice.result.now c.loop-key.out.items c.push_at.new.out.items _
    c.loop-key-test.true refl c.as_slice.ensures.value c.in_ok-push.ensures.items c.in_ok-push_at.ensures c.loop-key.invariant
