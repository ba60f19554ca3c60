use Rattle.law_obligations.proofs.FreeVariables.{may_alike}
use Rattle.law_obligations.proofs.free_variables.variables_not_read_do_not_matter.Goals as goal

pub returns : goal.returns
returns c w kept a e b bs h = may_alike w kept a e b bs h
