use Rattle.std.proofs.Common.{length}
use Rattle.bdd_codes.proofs.+codes.Given as goal

abbrev pub decreases-codes : goal.decreases-codes
decreases-codes l = length l.places.now
