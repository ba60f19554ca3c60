use Rattle.law_obligations.specs.Sets.{first}
use Rattle.smv_encode.proofs.Adds.{turn_all, turn_moving, turn_others, one_element}
use Rattle.smv_encode.proofs.elements.is_its_turn.Goals as goal

pub returns-in-All : goal.returns-in-All
returns-in-All c = λ d is well x hx ds h bit. turn_all ds c.args.turn (record { element = x; bit = bit }) c.in-All.is

pub returns-in_ok-moves-in-Moving : goal.returns-in_ok-moves-in-Moving
returns-in_ok-moves-in-Moving c = λ d is well x hx ds h bit.
    turn_moving ds c.args.turn (record { element = x; bit = bit }) c.in_ok-moves-in-Moving.moves c.in-Moving.is (c.in_ok-moves-in-Moving.ensures d is well x (hx.among x first) (one_element d x c.args.element.now hx) ds h)

pub returns-in_ok-moves-in-Others : goal.returns-in_ok-moves-in-Others
returns-in_ok-moves-in-Others c = λ d is well x hx ds h bit.
    turn_others ds c.args.turn (record { element = x; bit = bit }) c.in_ok-moves-in-Others.moves c.in-Others.is (c.in_ok-moves-in-Others.ensures d is well x (hx.among x first) (one_element d x c.args.element.now hx) ds h)
