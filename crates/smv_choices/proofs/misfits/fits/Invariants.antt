use Rattle.std.proofs.Common.{◌≡◌, map, drop}
use Rattle.smv_choices.specs.Parts as parts
use Rattle.smv_choices.specs.Readings.{pair_of}
use Rattle.smv_choices.proofs.misfits.fits.Given as goal

abbrev pub invariant-loop-x : goal.invariant-loop-x
invariant-loop-x l = parts.fits l.set (map pair_of (drop l.x-index l.proved)) l.word ≡ parts.fits l.set (map pair_of l.proved) l.word
