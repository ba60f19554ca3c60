use Rattle.std.proofs.Common.{◌≡◌, length}
use Rattle.law_grammar.specs.Parsing.{take}
use Rattle.law_grammar.specs.Readers.{a_name, read_separated}
use Rattle.law_grammar.proofs.Steps.{resumed}
use Rattle.smv_parse_expressions.proofs.Loops.{more_names}
use Rattle.smv_parse_expressions.proofs.names.names.Given as goal

abbrev pub invariant-loop-alloc : goal.invariant-loop-alloc
invariant-loop-alloc l = read_separated (take a_name) l.tokens ≡ resumed l.items.items (more_names l.rest)

abbrev pub decreases-loop-alloc : goal.decreases-loop-alloc
decreases-loop-alloc l = length l.rest
