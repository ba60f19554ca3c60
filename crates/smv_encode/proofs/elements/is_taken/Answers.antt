use Rattle.law_obligations.specs.Sets.{first}
use Rattle.smv_encode.proofs.Adds.{one_element, demands_shown}
use Rattle.smv_encode.proofs.Whole.{now_are}
use Rattle.smv_encode.proofs.Wires.{wire_has_none, other_has_turn}
use Rattle.smv_encode.proofs.elements.is_taken.Goals as goal

pub returns-then-is_among : goal.returns-then-is_among
returns-then-is_among c = λ d is well o wires x hx bit.
    wire_has_none d well o c.args.wires.now wires (record { element = x; bit = bit }) c.args.element.now (hx.among x first) (one_element d x c.args.element.now hx) d.problem.now c.args.turn c.is_among.result c.is_among.ensures c.if-is_among.true

pub returns : goal.returns
returns c = λ d is well o wires x hx bit.
    other_has_turn d well o c.args.wires.now wires (record { element = x; bit = bit }) c.args.element.now (hx.among x first) (one_element d x c.args.element.now hx) d.problem.now c.args.turn c.is_among.result c.is_among.ensures c.if-is_among.false c.in_ok-taken.taken
    (c.in_ok-taken.ensures d is well x hx d.problem.now (demands_shown d d.problem.now c.args.problem.now.now c.as_slice.result.now c.as_slice.ensures (now_are c.args.problem.now d is well)) bit)
