-- Laws of the names before an offset.
use Rattle.std.proofs.lemmas.List.Sums.{prefix_len-le-length}
use Rattle.std.proofs.lemmas.List.Folds.{length-prefix_len}

pub ruleset fronts = (length-prefix_len, prefix_len-le-length)
