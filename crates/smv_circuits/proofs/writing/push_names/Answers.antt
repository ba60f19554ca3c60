use Rattle.std.proofs.Common.{append_assoc}
use Rattle.smv_circuits.proofs.writing.push_names.Goals as goal

pub returns : goal.returns
returns c =
    rw (c.in_ok-extend_from_slice.ensures.items, c.in_ok-push_number.ensures, c.in_ok-push.ensures.items, c.in_ok-push_latch_names.ensures, c.in_ok-push_input_names.ensures)
    (simp append_assoc)
