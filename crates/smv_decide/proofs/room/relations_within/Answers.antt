use Rattle.std.proofs.Common.{sym, subst}
use Rattle.law_reports.specs.CaseLists.{IsListsOf}
use Rattle.smv_rings.proofs.Kept.{rel_kept, lists_kept}
use Rattle.smv_decide.proofs.room.relations_within.Goals as goal

pub returns-in-Ok-clause-rel : goal.returns-in-Ok-clause-rel
returns-in-Ok-clause-rel c = rel_kept c.relations.new.store c.hold_at_most-in-Ok.new.self c.in-Ok.rel c.in-Ok.ensures.rel c.hold_at_most-in-Ok.ensures.keeps

pub returns-in-Ok-clause-lists : goal.returns-in-Ok-clause-lists
returns-in-Ok-clause-lists c = λ case e well.
    subst (IsListsOf case) (sym (lists_kept c.relations.new.store c.hold_at_most-in-Ok.new.self c.in-Ok.rel c.in-Ok.ensures.rel c.hold_at_most-in-Ok.ensures.keeps)) (c.in-Ok.ensures.lists case e well)
