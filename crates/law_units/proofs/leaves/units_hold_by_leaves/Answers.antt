use Rattle.law_units.proofs.LeafInstances.{held_by_leaves, holds_by_leaf, leaves_hold}
use Rattle.law_units.proofs.leaves.units_hold_by_leaves.Goals as goal

pub returns-clause-at_times : goal.returns-clause-at_times
returns-clause-at_times c d unit leaf pair sizes each before now values h held = held_by_leaves d unit leaf pair sizes each before now values h held

pub returns-clause-always : goal.returns-clause-always
returns-clause-always c d unit leaf pair held sizes each run is_run values h = holds_by_leaf d unit leaf pair held sizes each run is_run values h

pub returns-clause-back : goal.returns-clause-back
returns-clause-back c d unit leaf pair held sizes each run is_run values h = leaves_hold d unit leaf pair held sizes each run is_run values h
