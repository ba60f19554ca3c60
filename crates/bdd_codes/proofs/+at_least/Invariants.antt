use Rattle.std.proofs.Common.{length}
use Rattle.bdd_codes.proofs.+at_least.Given as goal

abbrev pub decreases-at_least : goal.decreases-at_least
decreases-at_least l = length l.places.now
