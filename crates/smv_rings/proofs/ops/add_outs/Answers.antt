use Rattle.smv_rings.proofs.Plans.{outs_given}
use Rattle.smv_rings.proofs.ops.add_outs.Goals as goal

pub returns-clause-acts : goal.returns-clause-acts
returns-clause-acts c later marked k =
    outs_given c.args.store.now k c.args.bits c.args.f later c.in_ok-reads.reads.items c.args.read.now.items c.deref.result.now c.deref-2.result.now c.push_outs.new.ops.items c.args.ops.now.items c.deref.ensures.value c.deref-2.ensures.value c.requires.vars
    c.in_ok-reads.ensures.depends marked (c.in_ok-push_outs.ensures.acts c.args.store.now k)
