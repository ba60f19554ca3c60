use Rattle.std.proofs.Common.{◌≡◌, length}
use Rattle.law_grammar.proofs.Steps.{resumed}
use Rattle.smv_parse_statements.proofs.Loops.{more_arms}
use Rattle.smv_parse_statements.proofs.grammar.Grammar.arm_list.Given as goal

abbrev pub invariant-loop-rest : goal.invariant-loop-rest
invariant-loop-rest g l = more_arms l.levels l.tokens ≡ resumed l.items.items (more_arms l.levels l.rest)

abbrev pub decreases-loop-rest : goal.decreases-loop-rest
decreases-loop-rest g l = length l.rest
