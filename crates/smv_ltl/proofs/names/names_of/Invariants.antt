use Rattle.std.proofs.Common.{◌≡◌, ◌++◌, drop}
use Rattle.law_formula_texts.specs.Laws.{names_of}
use Rattle.smv_ltl.proofs.names.names_of.Given as goal

abbrev pub invariant-loop-token : goal.invariant-loop-token
invariant-loop-token l = l.names ++ names_of (drop l.token-index l.tokens) ≡ names_of l.tokens
