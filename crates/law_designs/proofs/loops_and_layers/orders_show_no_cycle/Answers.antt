use Rattle.law_designs.proofs.Orders as orders
use Rattle.law_designs.proofs.Descents as descents
use Rattle.law_designs.proofs.loops_and_layers.orders_show_no_cycle.Goals as goal

pub returns-clause-there_is_one : goal.returns-clause-there_is_one
returns-clause-there_is_one c = λ edges h. orders.order edges h

pub returns-clause-it_shows_none : goal.returns-clause-it_shows_none
returns-clause-it_shows_none c = λ edges rank f. descents.no_cycle edges rank f
