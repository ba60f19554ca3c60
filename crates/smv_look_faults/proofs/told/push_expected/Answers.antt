use Rattle.std.proofs.Common.{◌∙◌, ◌++◌, ap}
use Rattle.smv_look_faults.proofs.told.push_expected.Goals as goal

pub returns : goal.returns
returns c =
    (c.in_ok-expected.expected.items, c.in_ok-expected.ensures, c.in_ok-extend_from_slice.ensures.items ∙ ap (λ l. c.args.out.now.items ++ l) c.as_slice.ensures.value)
