use Rattle.std.proofs.Common.{[], ◌∷◌}
use Rattle.worked_obligations.specs.WorkedTomasulo.{one, machine_script}
use Rattle.worked_obligations.specs.WorkedProblems.{split_by, a_is_i, one_steps}
use Rattle.law_obligations.proofs.Sound.{proved_is_sound}
use Rattle.worked_obligations.proofs.WorkedSplit as split
use Rattle.worked_obligations.proofs.WorkedMaps as maps
use Rattle.worked_obligations.proofs.WorkedMachine as machine
use Rattle.worked_obligations.proofs.obligations.worked_scripts.Goals as goal

pub returns-clause-split : goal.returns-clause-split
returns-clause-split c = (split.checked, split.proved, proved_is_sound (split_by (a_is_i ∷ [])) split.checked split.proved)

pub returns-clause-maps : goal.returns-clause-maps
returns-clause-maps c = (maps.checked, maps.proved, proved_is_sound (one_steps (one 0)) maps.checked maps.proved)

pub returns-clause-machine : goal.returns-clause-machine
returns-clause-machine c = (machine.checked, λ proved. proved_is_sound machine_script machine.checked proved)
