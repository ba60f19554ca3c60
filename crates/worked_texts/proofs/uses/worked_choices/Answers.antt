use Rattle.worked_texts.proofs.WorkedChoices as rows
use Rattle.worked_texts.proofs.uses.worked_choices.Goals as goal

pub returns-clause-rows : goal.returns-clause-rows
returns-clause-rows c = rows.rows-chosen

pub returns-clause-order : goal.returns-clause-order
returns-clause-order c = rows.order-chosen

pub returns-clause-parentheses : goal.returns-clause-parentheses
returns-clause-parentheses c = rows.parentheses-chosen

pub returns-clause-maps : goal.returns-clause-maps
returns-clause-maps c = rows.maps-chosen

pub returns-clause-own : goal.returns-clause-own
returns-clause-own c = rows.own-chosen

pub returns-clause-braces : goal.returns-clause-braces
returns-clause-braces c = rows.braces-chosen

pub returns-clause-instances : goal.returns-clause-instances
returns-clause-instances c = rows.instances-chosen

pub returns-clause-tomasulo : goal.returns-clause-tomasulo
returns-clause-tomasulo c = rows.tomasulo-chosen
