use Rattle.std.proofs.Common.{◌<◌, ◌≤◌, length, arith}
use Rattle.bdd_store.specs.Diagram.{IsLive, first_var}
use Rattle.bdd_tests.proofs.Pushed.{one_pushed, each_pushed}
use Rattle.bdd_tests.proofs.store.add_node.Goals as goal

pub returns-clause-live : goal.returns-clause-live
returns-clause-live c = each_pushed (λ q. IsLive c.node.new.self q) c.args.all.now.items c.push.new.self.items c.in_ok-function.function c.in_ok-push.ensures.items (λ i lt. c.node.ensures.keeps.live _ (c.requires.live i lt)) c.in_ok-function.ensures.live

pub returns-clause-later : goal.returns-clause-later
returns-clause-later c i lt =
    each_pushed (λ q. c.args.var ≤ first_var c.node.new.self q) c.args.all.now.items c.push.new.self.items c.in_ok-function.function c.in_ok-push.ensures.items
    (λ j early. omega (arith, c.node.ensures.keeps.firsts _ (c.requires.live j early), c.requires.later j (omega (arith, c.args.all.now.ok.0, early)))) c.in_ok-function.ensures.first
    i (omega (arith, c.push.new.self.ok.0, lt))

pub returns-clause-earlier : goal.returns-clause-earlier
returns-clause-earlier c i lt early =
    let within : i < length c.args.all.now.items = omega (arith, c.args.all.now.ok.0, lt) in
    one_pushed (λ q. c.args.var < first_var c.node.new.self q) c.args.all.now.items c.push.new.self.items c.in_ok-function.function c.in_ok-push.ensures.items i within (omega (arith, c.node.ensures.keeps.firsts _ (c.requires.live i within), early))
