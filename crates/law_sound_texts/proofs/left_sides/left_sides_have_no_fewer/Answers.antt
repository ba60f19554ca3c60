use Rattle.std.proofs.Common.{length, sym, ◌∙◌}
use Rattle.law_designs.specs.Flattening.{flatten}
use Rattle.law_designs.specs.Laws.{index_count}
use Rattle.law_sound_texts.proofs.Counts.{at-least, count-is}
use Rattle.law_sound_texts.proofs.left_sides.left_sides_have_no_fewer.Goals as goal

pub returns : goal.returns
returns c = λ text h a p. let f = c.left_sides_are_exact.ensures text h a p in at-least (length a.left) (index_count (flatten text) a.family) (f.2 ∙ sym (count-is (flatten text) a.family f.0 f.1))
