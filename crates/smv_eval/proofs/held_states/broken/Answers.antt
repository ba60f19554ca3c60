use Rattle.std.proofs.Common.{ap}
use Rattle.std.specs.Option.{option_copied}
use Rattle.smv_eval.proofs.StateHeld.{none_of, broken_first, broken_later}
use Rattle.smv_eval.proofs.held_states.broken.Goals as goal

pub returns-in_default : goal.returns-in_default
returns-in_default c case is well a abs same before abs_before e =
    broken_first c.args.problem.now (option_copied c.args.old) c.args.new.now _ _ c.in_ok-broken.broken (ap option_copied (none_of c.args.old c.in_default.not-Some)) c.in_ok-cells.ensures c.as_slice.ensures.value c.in_ok-broken.ensures case is well a abs same before abs_before e

pub returns : goal.returns
returns c case is well a abs same before abs_before e =
    broken_later c.args.problem.now (option_copied c.args.old) c.in-Some.old.now c.args.new.now _ _ _ _ c.in_ok-broken-2.broken (ap option_copied c.in-Some.is) c.in_ok-before.ensures c.as_slice-2.ensures.value c.in_ok-cells.ensures c.as_slice-3.ensures.value c.in_ok-broken-2.ensures case is well a abs same before abs_before e
