use Rattle.std.proofs.Common.{◌≡◌, length}
use Rattle.law_grammar.specs.Readers.{read_separated}
use Rattle.law_grammar.specs.References.{read_pair}
use Rattle.law_grammar.proofs.Steps.{resumed}
use Rattle.smv_parse_items.proofs.Loops.{more_pairs}
use Rattle.smv_parse_items.proofs.references.pairs.Given as goal

abbrev pub invariant-loop-alloc : goal.invariant-loop-alloc
invariant-loop-alloc l = read_separated (read_pair l.levels) l.tokens ≡ resumed l.items.items (more_pairs l.levels l.rest)

abbrev pub decreases-loop-alloc : goal.decreases-loop-alloc
decreases-loop-alloc l = length l.rest
