use Rattle.law_problems.proofs.Putting.{added}
use Rattle.law_problems.proofs.found_elements.puts_add.Goals as goal

pub returns : goal.returns
returns c w indexed found put of_found of_put apart = added w indexed found put of_found of_put apart
