use Rattle.std.proofs.Common.{◌≡◌, length}
use Rattle.law_grammar.specs.Readers.{read_separated}
use Rattle.law_grammar.specs.References.{read_use}
use Rattle.law_grammar.specs.Items.{item_readers}
use Rattle.law_grammar.proofs.Steps.{resumed}
use Rattle.smv_parse_items.proofs.Loops.{more_uses}
use Rattle.smv_parse_items.proofs.references.uses.Given as goal

abbrev pub invariant-loop-alloc : goal.invariant-loop-alloc
invariant-loop-alloc l = read_separated (read_use l.levels (item_readers l.levels).ref) l.tokens ≡ resumed l.items.items (more_uses l.levels l.rest)

abbrev pub decreases-loop-alloc : goal.decreases-loop-alloc
decreases-loop-alloc l = length l.rest
