use Rattle.worked_texts.proofs.WorkedKinds as kinds
use Rattle.worked_texts.proofs.WorkedPlaces as places
use Rattle.worked_texts.proofs.KindsTomasulo as machine
use Rattle.worked_texts.proofs.kinds.worked_kinds.Goals as goal

pub returns-clause-rows : goal.returns-clause-rows
returns-clause-rows c = kinds.rows

pub returns-clause-other_passes : goal.returns-clause-other_passes
returns-clause-other_passes c = kinds.other_passes

pub returns-clause-logic : goal.returns-clause-logic
returns-clause-logic c = kinds.logic

pub returns-clause-conditions : goal.returns-clause-conditions
returns-clause-conditions c = kinds.conditions

pub returns-clause-sides : goal.returns-clause-sides
returns-clause-sides c = kinds.sides

pub returns-clause-first_tokens : goal.returns-clause-first_tokens
returns-clause-first_tokens c = kinds.first_tokens

pub returns-clause-orders : goal.returns-clause-orders
returns-clause-orders c = kinds.orders

pub returns-clause-members : goal.returns-clause-members
returns-clause-members c = kinds.members

pub returns-clause-listed_sets : goal.returns-clause-listed_sets
returns-clause-listed_sets c = kinds.listed_sets

pub returns-clause-branches : goal.returns-clause-branches
returns-clause-branches c = kinds.branches

pub returns-clause-mixes : goal.returns-clause-mixes
returns-clause-mixes c = kinds.mixes

pub returns-clause-targets : goal.returns-clause-targets
returns-clause-targets c = kinds.targets

pub returns-clause-left_to_set_types : goal.returns-clause-left_to_set_types
returns-clause-left_to_set_types c = kinds.left_to_set_types

pub returns-clause-for_variables : goal.returns-clause-for_variables
returns-clause-for_variables c = kinds.for_variables

pub returns-clause-parts_of_expressions : goal.returns-clause-parts_of_expressions
returns-clause-parts_of_expressions c = kinds.parts_of_expressions

pub returns-clause-designs : goal.returns-clause-designs
returns-clause-designs c = kinds.designs

pub returns-clause-earlier_passes : goal.returns-clause-earlier_passes
returns-clause-earlier_passes c = kinds.earlier_passes

pub returns-clause-indexes : goal.returns-clause-indexes
returns-clause-indexes c = places.indexes

pub returns-clause-whole_references : goal.returns-clause-whole_references
returns-clause-whole_references c = places.whole_references

pub returns-clause-no_signals : goal.returns-clause-no_signals
returns-clause-no_signals c = places.no_signals

pub returns-clause-own_faults : goal.returns-clause-own_faults
returns-clause-own_faults c = places.own_faults

pub returns-clause-sets : goal.returns-clause-sets
returns-clause-sets c = places.sets

pub returns-clause-comprehensions : goal.returns-clause-comprehensions
returns-clause-comprehensions c = places.comprehensions

pub returns-clause-ranges : goal.returns-clause-ranges
returns-clause-ranges c = places.ranges

pub returns-clause-ranges_in_expressions : goal.returns-clause-ranges_in_expressions
returns-clause-ranges_in_expressions c = places.ranges_in_expressions

pub returns-clause-index_types : goal.returns-clause-index_types
returns-clause-index_types c = places.index_types

pub returns-clause-formals : goal.returns-clause-formals
returns-clause-formals c = places.formals

pub returns-clause-inputs : goal.returns-clause-inputs
returns-clause-inputs c = places.inputs

pub returns-clause-outputs : goal.returns-clause-outputs
returns-clause-outputs c = places.outputs

pub returns-clause-switches : goal.returns-clause-switches
returns-clause-switches c = places.switches

pub returns-clause-statements : goal.returns-clause-statements
returns-clause-statements c = places.statements

pub returns-clause-splits : goal.returns-clause-splits
returns-clause-splits c = places.splits

pub returns-clause-whole_text : goal.returns-clause-whole_text
returns-clause-whole_text c = places.whole_text

pub returns-clause-parts_of_statements : goal.returns-clause-parts_of_statements
returns-clause-parts_of_statements c = places.parts_of_statements

pub returns-clause-instances : goal.returns-clause-instances
returns-clause-instances c = places.instances

pub returns-clause-tomasulo : goal.returns-clause-tomasulo
returns-clause-tomasulo c = machine.rows
