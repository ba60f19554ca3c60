use Rattle.smv_elements.proofs.Puts.{all-joined, all-full}
use Rattle.smv_elements.proofs.laws.puts_join.Goals as goal

pub returns-clause-join : goal.returns-clause-join
returns-clause-join c found xs ys = all-joined found xs ys

pub returns-clause-full : goal.returns-clause-full
returns-clause-full c found xs full = all-full found xs full
