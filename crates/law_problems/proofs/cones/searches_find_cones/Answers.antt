use Rattle.law_problems.proofs.Searches.{search-begun, search-turn, search-over}
use Rattle.law_problems.proofs.cones.searches_find_cones.Goals as goal

pub returns-clause-begin : goal.returns-clause-begin
returns-clause-begin c next from set least found there back = search-begun next from set least found there back

pub returns-clause-go_on : goal.returns-clause-go_on
returns-clause-go_on c next from set least found more turn x s at fresh all = search-turn next from set least found more turn x s at fresh all

pub returns-clause-end : goal.returns-clause-end
returns-clause-end c same equal itself next from set least found turn s over x h = search-over next from set least same equal itself found turn s over x h
