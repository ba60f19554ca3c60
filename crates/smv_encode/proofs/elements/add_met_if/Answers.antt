use Rattle.std.proofs.Common.{[], ◌∷◌}
use Rattle.smv_encode.specs.Encoded.{met_at}
use Rattle.smv_encode.proofs.Adds.{adds_taken, adds_skipped}
use Rattle.smv_encode.proofs.elements.add_met_if.Goals as goal

pub returns-then-taken-clause-adds : goal.returns-then-taken-clause-adds
returns-then-taken-clause-adds c = λ d is well o are x h.
    adds_taken c.args.store.now c.add_met.new.store c.args.out.now.items c.add_met.new.out.items (met_at d o c.args.step x ∷ []) c.args.taken c.if-taken.true (c.in_ok-add_met.ensures.adds d is well o are x h)

pub returns-clause-adds : goal.returns-clause-adds
returns-clause-adds c = λ d is well o are x h. adds_skipped c.args.store.now c.args.out.now.items (met_at d o c.args.step x ∷ []) c.args.taken c.if-taken.false
