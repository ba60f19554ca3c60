-- The word is in its range, so `u16` reads it, and the size is the number that its digits spell.
use Rattle.std.proofs.Common.{◌∙◌, ℕ, Some, ap, arith, sym}
use Rattle.smv_command.specs.Ranges.{most_size}
use Rattle.smv_command.proofs.Values.{spelled}
use Rattle.smv_command.proofs.words.size_of.Goals as goal

pub unreachable-requires : goal.unreachable-requires
unreachable-requires c =
    let text = spelled most_size c.args.word.now c.requires in
    c.in-Err.ensures.value.0 (text.spells.0, omega (arith, text.spells.3))

pub returns : goal.returns
returns c =
    let text = spelled most_size c.args.word.now c.requires in
    text.is ∙ ap (λ (v : ℕ). Some v) (sym c.in-Ok.ensures.value.0.1)
