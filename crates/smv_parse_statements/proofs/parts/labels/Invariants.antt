use Rattle.std.proofs.Common.{◌≡◌, length}
use Rattle.law_grammar.specs.Readers.{read_separated}
use Rattle.law_grammar.specs.Statements.{read_label}
use Rattle.law_grammar.proofs.Steps.{resumed}
use Rattle.smv_parse_statements.proofs.Loops.{more_labels}
use Rattle.smv_parse_statements.proofs.parts.labels.Given as goal

abbrev pub invariant-loop-alloc : goal.invariant-loop-alloc
invariant-loop-alloc l = read_separated read_label l.tokens ≡ resumed l.items.items (more_labels l.rest)

abbrev pub decreases-loop-alloc : goal.decreases-loop-alloc
decreases-loop-alloc l = length l.rest
