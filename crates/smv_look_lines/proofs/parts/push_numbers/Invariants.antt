use Rattle.std.specs.Prelude.{◌≡◌, ◌++◌, drop}
use Rattle.smv_look_lines.specs.Parts.{numbers_text}
use Rattle.smv_look_lines.proofs.parts.push_numbers.Given as goal

abbrev pub invariant-loop-number : goal.invariant-loop-number
invariant-loop-number l = l.out.items ++ numbers_text (drop l.number-index l.numbers) ≡ l.initial.out.items ++ numbers_text l.numbers
