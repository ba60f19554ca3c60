use Rattle.std.proofs.Common.{◌≡◌, length}
use Rattle.law_grammar.specs.Readers.{read_separated}
use Rattle.law_grammar.specs.References.{read_ref}
use Rattle.law_grammar.proofs.Steps.{resumed}
use Rattle.smv_parse_items.proofs.Loops.{more_refs}
use Rattle.smv_parse_items.proofs.references.references.Given as goal

abbrev pub invariant-loop-alloc : goal.invariant-loop-alloc
invariant-loop-alloc l = read_separated (read_ref l.levels) l.tokens ≡ resumed l.items.items (more_refs l.levels l.rest)

abbrev pub decreases-loop-alloc : goal.decreases-loop-alloc
decreases-loop-alloc l = length l.rest
