use Rattle.law_obligations.proofs.Plain.{range_is_placed, choice_is_placed}
use Rattle.law_obligations.proofs.Scalarsets.{scalarset_is_placed}
use Rattle.law_obligations.proofs.Ordsets.{ordset_is_placed}
use Rattle.law_obligations.proofs.abstraction.types_are_placed.Goals as goal

pub returns-clause-plain : goal.returns-clause-plain
returns-clause-plain c sizes w spots = (range_is_placed sizes w spots, choice_is_placed sizes w spots)

pub returns-clause-scalarsets : goal.returns-clause-scalarsets
returns-clause-scalarsets c sizes w spots t values distinct below room count lies = scalarset_is_placed sizes w spots t values distinct below room count lies

pub returns-clause-ordsets : goal.returns-clause-ordsets
returns-clause-ordsets c sizes w spots t values rising has_gaps count lies = ordset_is_placed sizes w spots t values rising has_gaps count lies
