use Rattle.std.proofs.Common.{◌≡◌, length}
use Rattle.law_grammar.proofs.Steps.{resumed}
use Rattle.smv_parse_expressions.proofs.Loops.{more_ors}
use Rattle.smv_parse_expressions.proofs.grammar.Grammar.more_disjuncts.Given as goal

abbrev pub invariant-loop-rest : goal.invariant-loop-rest
invariant-loop-rest g l = more_ors l.self.levels l.tokens ≡ resumed l.items.items (more_ors l.self.levels l.rest)

abbrev pub decreases-loop-rest : goal.decreases-loop-rest
decreases-loop-rest g l = length l.rest
