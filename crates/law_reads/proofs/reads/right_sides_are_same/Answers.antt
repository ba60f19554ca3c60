use Rattle.law_reads.proofs.RightSides.{may_allow_same, must_allow_same}
use Rattle.law_reads.proofs.reads.right_sides_are_same.Goals as goal

pub returns-clause-may : goal.returns-clause-may
returns-clause-may c w kept other a d keeps keeps_other every e b h = λ i p. may_allow_same w kept other a d keeps keeps_other every e b p h i

pub returns-clause-must : goal.returns-clause-must
returns-clause-must c w kept other a d keeps keeps_other every e b h = λ i p. must_allow_same w kept other a d keeps keeps_other every e b p h i
