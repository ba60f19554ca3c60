-- The word is in its range, so `u32` reads it, and the case is the number that its digits spell.
use Rattle.std.proofs.Common.{◌∙◌, ℕ, Some, ap, arith, sym}
use Rattle.smv_look_command.specs.Queries.{most_cases}
use Rattle.smv_command.proofs.Values.{spelled}
use Rattle.smv_look_command.proofs.words.case_of.Goals as goal

pub unreachable-requires : goal.unreachable-requires
unreachable-requires c =
    let text = spelled most_cases c.args.word.now c.requires in
    c.in-Err.ensures.value.0 (text.spells.0, omega (arith, text.spells.3))

pub returns : goal.returns
returns c =
    let text = spelled most_cases c.args.word.now c.requires in
    text.is ∙ ap (λ (v : ℕ). Some v) (sym c.in-Ok.ensures.value.0.1)
