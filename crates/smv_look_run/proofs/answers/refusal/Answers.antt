use Rattle.smv_look_run.proofs.answers.refusal.Goals as goal

pub returns-in-List : goal.returns-in-List
returns-in-List c = rw c.in-List.is c.fault_line.ensures

pub returns-in-Cone : goal.returns-in-Cone
returns-in-Cone c = rw c.in-Cone.is c.fault_line-in-Cone.ensures

pub returns-in-Lint : goal.returns-in-Lint
returns-in-Lint c = rw c.in-Lint.is c.fault_line-in-Lint.ensures

pub returns-in-Sets : goal.returns-in-Sets
returns-in-Sets c = rw c.in-Sets.is c.fault_line-in-Sets.ensures

pub returns-in-Front : goal.returns-in-Front
returns-in-Front c = rw c.in-Front.is c.fault_line-in-Front.ensures

pub returns-in-Aiger : goal.returns-in-Aiger
returns-in-Aiger c = rw c.in-Aiger.is c.fault_line-in-Aiger.ensures

pub returns-in-Explain : goal.returns-in-Explain
returns-in-Explain c = rw c.in-Explain.is c.explained.ensures
