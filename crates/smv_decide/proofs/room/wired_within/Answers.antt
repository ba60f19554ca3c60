use Rattle.std.proofs.Common.{◌∙◌}
use Rattle.smv_rings.proofs.Kept.{rel_kept, lists_kept}
use Rattle.smv_decide.proofs.room.wired_within.Goals as goal

pub returns-in-Ok-clause-rel : goal.returns-in-Ok-clause-rel
returns-in-Ok-clause-rel c = rel_kept c.relations_wired.new.store c.hold_at_most-in-Ok.new.self c.in-Ok.made.rel c.in-Ok.ensures.rel c.hold_at_most-in-Ok.ensures.keeps

pub returns-in-Ok-clause-lists : goal.returns-in-Ok-clause-lists
returns-in-Ok-clause-lists c = λ case e well.
    let r = c.in-Ok.ensures.lists case e well in
    (r.0, r.1, r.2, lists_kept c.relations_wired.new.store c.hold_at_most-in-Ok.new.self c.in-Ok.made.rel c.in-Ok.ensures.rel c.hold_at_most-in-Ok.ensures.keeps ∙ r.3)
