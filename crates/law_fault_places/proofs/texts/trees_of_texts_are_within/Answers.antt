use Rattle.std.proofs.Common.{length}
use Rattle.law_fault_places.proofs.TextTrees.{tokens-within}
use Rattle.law_fault_places.proofs.texts.trees_of_texts_are_within.Goals as goal

pub returns : goal.returns
returns c = λ text tree spelled. c.spelled_trees_are_within.ensures (length text) 64 spelled.0 tree (tokens-within text spelled.0 spelled.1) spelled.2
