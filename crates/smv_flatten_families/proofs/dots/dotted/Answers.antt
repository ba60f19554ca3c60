use Rattle.std.proofs.Common.{◌∙◌, arith}
use Rattle.law_lists.proofs.Places.{take_rest}
use Rattle.smv_flatten_families.proofs.BuildLaws.{dotted-done}
use Rattle.smv_flatten_families.proofs.dots.dotted.Goals as goal

pub returns-after-loop-name : goal.returns-after-loop-name
returns-after-loop-name c =
    c.from_vec-in-len1-up.ensures
    ∙ dotted-done c.args.names.now c.first-item.result _ c.loop-name.name-index c.loop-name.bytes.items c.in_ok-bytes-in-len1-up.bytes.items (omega (arith, c.in-len1-up.len_at_least)) c.first-item.is
    (c.in_ok-bytes-in-len1-up.ensures.items ∙ c.as_bytes.ensures) (take_rest c.args.names.now) c.loop-name-test.false c.loop-name.invariant
