use Rattle.smv_look_run.proofs.Endings.{explained_31, line_31}
use Rattle.smv_look_run.proofs.too_long.Goals as goal

pub returns-in-List : goal.returns-in-List
returns-in-List c = λ text. rw c.in-List.is (line_31 text)

pub returns-in-Cone : goal.returns-in-Cone
returns-in-Cone c = λ text. rw c.in-Cone.is (line_31 text)

pub returns-in-Lint : goal.returns-in-Lint
returns-in-Lint c = λ text. rw c.in-Lint.is (line_31 text)

pub returns-in-Explain : goal.returns-in-Explain
returns-in-Explain c = λ text. rw c.in-Explain.is (explained_31 text)

pub returns-in-Sets : goal.returns-in-Sets
returns-in-Sets c = λ text. rw c.in-Sets.is (line_31 text)

pub returns-in-Front : goal.returns-in-Front
returns-in-Front c = λ text. rw c.in-Front.is (line_31 text)

pub returns-in-Aiger : goal.returns-in-Aiger
returns-in-Aiger c = λ text. rw c.in-Aiger.is (line_31 text)
