use Rattle.std.proofs.Common.{◌≡◌, ◌||◌, ℕ, drop}
use Rattle.smv_look_lint.specs.Marks.{is_noted}
use Rattle.smv_look_lint.specs.Signals.{is_among}
use Rattle.smv_look_lint.proofs.marks.set_of.Given as goal

abbrev pub invariant-loop-number : goal.invariant-loop-number
invariant-loop-number l = (k : ℕ) → (is_noted l.set k || is_among (drop l.number-index l.numbers) k) ≡ is_among l.numbers k
