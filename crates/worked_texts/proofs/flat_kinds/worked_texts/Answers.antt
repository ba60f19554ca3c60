use Rattle.worked_texts.proofs.WorkedFlatKinds as texts
use Rattle.worked_texts.proofs.flat_kinds.worked_texts.Goals as goal

pub returns-clause-right : goal.returns-clause-right
returns-clause-right c = texts.right-answered

pub returns-clause-operands : goal.returns-clause-operands
returns-clause-operands c = texts.operands-answered

pub returns-clause-references : goal.returns-clause-references
returns-clause-references c = texts.references-answered

pub returns-clause-types : goal.returns-clause-types
returns-clause-types c = texts.types-answered

pub returns-clause-sets : goal.returns-clause-sets
returns-clause-sets c = texts.sets-answered

pub returns-clause-places : goal.returns-clause-places
returns-clause-places c = texts.places-answered

pub returns-clause-numbers : goal.returns-clause-numbers
returns-clause-numbers c = texts.numbers-answered

pub returns-clause-tomasulo : goal.returns-clause-tomasulo
returns-clause-tomasulo c = texts.tomasulo-answered
