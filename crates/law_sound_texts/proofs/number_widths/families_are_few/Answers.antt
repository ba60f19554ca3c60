use Rattle.std.proofs.Common.{arith}
use Rattle.law_sound_texts.proofs.Limits.{within-limits}
use Rattle.law_sound_texts.proofs.FewFamilies.{families-few}
use Rattle.law_sound_texts.proofs.number_widths.families_are_few.Goals as goal

pub returns : goal.returns
returns c = λ text none. let a = families-few text in let b = (within-limits text none).things in omega (arith, a, b)
