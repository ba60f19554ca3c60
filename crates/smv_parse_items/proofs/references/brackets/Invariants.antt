use Rattle.std.proofs.Common.{◌≡◌, length}
use Rattle.law_grammar.proofs.Steps.{resumed}
use Rattle.smv_parse_items.proofs.Loops.{more_brackets}
use Rattle.smv_parse_items.proofs.references.brackets.Given as goal

abbrev pub invariant-loop-alloc : goal.invariant-loop-alloc
invariant-loop-alloc l = more_brackets l.levels l.tokens ≡ resumed l.items.items (more_brackets l.levels l.rest)

abbrev pub decreases-loop-alloc : goal.decreases-loop-alloc
decreases-loop-alloc l = length l.rest
