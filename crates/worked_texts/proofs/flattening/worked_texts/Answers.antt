use Rattle.worked_texts.proofs.WorkedTexts as texts
use Rattle.worked_texts.proofs.FlatteningTomasulo as machine
use Rattle.worked_texts.proofs.flattening.worked_texts.Goals as goal

pub returns-clause-families : goal.returns-clause-families
returns-clause-families c = texts.families-computed

pub returns-clause-fronts : goal.returns-clause-fronts
returns-clause-fronts c = texts.fronts-computed

pub returns-clause-paths : goal.returns-clause-paths
returns-clause-paths c = texts.paths-computed

pub returns-clause-connections : goal.returns-clause-connections
returns-clause-connections c = texts.connections-computed

pub returns-clause-loops : goal.returns-clause-loops
returns-clause-loops c = texts.loops-computed

pub returns-clause-switches : goal.returns-clause-switches
returns-clause-switches c = texts.switches-computed

pub returns-clause-layers_and_binders : goal.returns-clause-layers_and_binders
returns-clause-layers_and_binders c = texts.layers_and_binders-computed

pub returns-clause-expressions : goal.returns-clause-expressions
returns-clause-expressions c = texts.expressions-computed

pub returns-clause-goals : goal.returns-clause-goals
returns-clause-goals c = texts.goals-computed

pub returns-clause-tomasulo : goal.returns-clause-tomasulo
returns-clause-tomasulo c = machine.rows-computed

pub returns-clause-wholes : goal.returns-clause-wholes
returns-clause-wholes c = texts.wholes-computed
