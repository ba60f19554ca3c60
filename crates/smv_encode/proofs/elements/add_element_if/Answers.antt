use Rattle.std.proofs.Common.{[], ◌∷◌}
use Rattle.smv_encode.specs.Parts.{element_at}
use Rattle.smv_encode.proofs.Adds.{live_pushed, adds_one, adds_taken, adds_skipped}
use Rattle.smv_encode.proofs.elements.add_element_if.Goals as goal

pub returns-then-taken-clause-out : goal.returns-then-taken-clause-out
returns-then-taken-clause-out c = live_pushed c.args.store.now c.element_at.new.store c.args.out.now.items c.push.new.self.items c.in_ok-r.r c.in_ok-r.ensures.keeps c.requires.out c.in_ok-push.ensures.items c.in_ok-r.ensures.live

pub returns-then-taken-clause-adds : goal.returns-then-taken-clause-adds
returns-then-taken-clause-adds c = λ d is well o are x hx bit placed.
    adds_taken c.args.store.now c.element_at.new.store c.args.out.now.items c.push.new.self.items (element_at d o c.args.step (record { element = x; bit = bit }) ∷ []) c.args.taken c.if-taken.true
    (adds_one c.args.store.now c.element_at.new.store c.args.out.now.items c.push.new.self.items c.in_ok-r.r (element_at d o c.args.step (record { element = x; bit = bit })) c.in_ok-r.ensures.keeps c.requires.out c.in_ok-push.ensures.items (c.in_ok-r.ensures.means d is well o are x hx bit placed))

pub returns-clause-adds : goal.returns-clause-adds
returns-clause-adds c = λ d is well o are x hx bit placed. adds_skipped c.args.store.now c.args.out.now.items (element_at d o c.args.step (record { element = x; bit = bit }) ∷ []) c.args.taken c.if-taken.false
