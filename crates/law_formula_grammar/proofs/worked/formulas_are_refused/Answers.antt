use Rattle.law_formula_grammar.proofs.Examples.{operand-fault, bare-fault, two-fault, else-fault, deep-fault}
use Rattle.law_formula_grammar.proofs.worked.formulas_are_refused.Goals as goal

pub returns-clause-operand : goal.returns-clause-operand
returns-clause-operand c = operand-fault

pub returns-clause-bare : goal.returns-clause-bare
returns-clause-bare c = bare-fault

pub returns-clause-two : goal.returns-clause-two
returns-clause-two c = two-fault

pub returns-clause-no_else : goal.returns-clause-no_else
returns-clause-no_else c = else-fault

pub returns-clause-too_deep : goal.returns-clause-too_deep
returns-clause-too_deep c = deep-fault
