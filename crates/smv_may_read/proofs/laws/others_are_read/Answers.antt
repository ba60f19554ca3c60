use Rattle.smv_may_read.proofs.Others.{others_read, others_read_for}
use Rattle.smv_may_read.proofs.laws.others_are_read.Goals as goal

pub returns-clause-expressions : goal.returns-clause-expressions
returns-clause-expressions c w xs e m b y h = others_read w xs e m b y h

pub returns-clause-definitions : goal.returns-clause-definitions
returns-clause-definitions c w xs indexes part m b y h = others_read_for w xs indexes part m b y h
