use Rattle.smv_cases.proofs.Grows.{cases_grow}
use Rattle.smv_cases.proofs.SlotLaws.{slots_grow}
use Rattle.smv_cases.proofs.laws.cases_grow.Goals as goal

pub returns-clause-cases : goal.returns-clause-cases
returns-clause-cases c treatments params = cases_grow treatments params

pub returns-clause-slots : goal.returns-clause-slots
returns-clause-slots c treatments slots are = slots_grow treatments slots are
