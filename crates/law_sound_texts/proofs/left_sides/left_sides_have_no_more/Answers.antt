use Rattle.std.proofs.Common.{length, nat_le, sym, ◌∙◌}
use Rattle.law_obligations.proofs.Members.{all-holds}
use Rattle.law_designs.specs.Flattening.{flatten}
use Rattle.law_designs.specs.Standing.{Standing}
use Rattle.law_designs.specs.SingleFaults.{assigned_in}
use Rattle.law_designs.specs.Laws.{index_count}
use Rattle.law_sound_texts.proofs.Counts.{at-most, count-is}
use Rattle.law_sound_texts.proofs.left_sides.left_sides_have_no_more.Goals as goal

pub returns : goal.returns
returns c = λ text h.
    all-holds (λ (a : Standing). nat_le (length a.left) (index_count (flatten text) a.family)) (assigned_in (flatten text))
    (λ a p. let f = c.left_sides_are_exact.ensures text h a p in at-most (length a.left) (index_count (flatten text) a.family) (f.2 ∙ sym (count-is (flatten text) a.family f.0 f.1)))
