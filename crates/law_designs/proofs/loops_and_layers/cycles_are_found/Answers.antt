use Rattle.law_designs.proofs.Cycles as cycles
use Rattle.law_designs.proofs.loops_and_layers.cycles_are_found.Goals as goal

pub returns-clause-none_is_missed : goal.returns-clause-none_is_missed
returns-clause-none_is_missed c = λ edges chosen h. cycles.none_is_missed edges chosen h

pub returns-clause-each_is_one : goal.returns-clause-each_is_one
returns-clause-each_is_one c = λ edges h. cycles.each_is_one edges h
