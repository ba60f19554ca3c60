use Rattle.law_concrete.proofs.Decided.{shortest-is-real}
use Rattle.law_concrete.proofs.paths.shortest_paths_are_real.Goals as goal

pub returns : goal.returns
returns c = λ d sizes exact choose unit classes is_case path v least. shortest-is-real d sizes exact unit choose classes is_case path v least
