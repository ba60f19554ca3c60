use Rattle.std.proofs.Common.{arith}
use Rattle.law_sound_texts.proofs.Limits.{within-limits}
use Rattle.law_sound_texts.proofs.FewEntries.{text-few}
use Rattle.law_sound_texts.proofs.number_widths.entries_are_few.Goals as goal

pub returns : goal.returns
returns c = λ text none. let a = text-few text in let b = (within-limits text none).statements in omega (arith, a, b)
