use Rattle.std.proofs.Common.{arith}
use Rattle.bdd_store.proofs.Keeping.{keeps_then}
use Rattle.bdd_codes.proofs.CodeLaws.{longer, live_pushed, low_pushed}
use Rattle.bdd_codes.proofs.low_half.Goals as goal

pub loop-i-preserved : goal.loop-i-preserved
loop-i-preserved c =
    let long = longer c.loop-i.codes.items c.push.new.self.items c.in_ok-code.code c.in_ok-push.ensures.items in
    record {
      keeps = keeps_then c.args.store.now c.loop-i.store c.choose.new.store c.loop-i.invariant.keeps c.in_ok-code.ensures.keeps;
      count = omega (arith, long);
      live = live_pushed c.loop-i.store c.choose.new.store c.loop-i.codes.items c.push.new.self.items c.in_ok-code.code c.in_ok-code.ensures.keeps c.loop-i.invariant.live c.in_ok-code.ensures.live c.in_ok-push.ensures.items;
      codes = λ lower all few. low_pushed c.args.store.now c.loop-i.store c.choose.new.store c.args.next c.args.place c.variable-var.result c.args.later.now c.loop-i.codes.items c.push.new.self.items c.loop-i.i c.constant-never.result c.in_ok-code.code
          c.loop-i.invariant.keeps c.in_ok-code.ensures.keeps c.variable-var.ensures.is c.constant-never.ensures.live c.constant-never.ensures.constant
          c.requires.later (omega arith) c.loop-i.invariant.live c.in_ok-push.ensures.items
          c.in_ok-code.ensures.table c.loop-i.invariant.count lower all few (c.loop-i.invariant.codes lower all few);
    }
