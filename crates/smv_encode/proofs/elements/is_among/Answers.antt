use Rattle.std.proofs.Common.{sym, ◌∙◌, arith}
use Rattle.smv_elements.specs.Elements.{same_element}
use Rattle.smv_encode.proofs.Choices.{none_moves, none_moves_all}
use Rattle.smv_encode.proofs.elements.is_among.Goals as goal

pub loop-wire-preserved : goal.loop-wire-preserved
loop-wire-preserved c =
    none_moves (same_element c.args.element.now) c.args.wires.now c.loop-wire.wire-index c.wire-item.result _ c.loop-wire-test.true c.wire-item.is (sym c.is_same.ensures ∙ c.if-is_same.false) c.loop-wire.invariant

pub returns : goal.returns
returns c = none_moves_all (same_element c.args.element.now) c.args.wires.now c.loop-wire.wire-index _ (omega arith) c.loop-wire.invariant
