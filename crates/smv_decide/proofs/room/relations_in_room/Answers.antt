use Rattle.std.proofs.Common.{sym, subst}
use Rattle.law_reports.specs.CaseLists.{IsListsOf}
use Rattle.smv_rings.proofs.Kept.{rel_kept, lists_kept}
use Rattle.smv_decide.proofs.room.relations_in_room.Goals as goal

pub returns-clause-rel : goal.returns-clause-rel
returns-clause-rel c = rel_kept c.relations.new.store c.hold_at_most-2.new.self c.in_ok-rel.rel c.in_ok-rel.ensures.rel c.hold_at_most-2.ensures.keeps

pub returns-clause-lists : goal.returns-clause-lists
returns-clause-lists c = λ case e well.
    subst (IsListsOf case) (sym (lists_kept c.relations.new.store c.hold_at_most-2.new.self c.in_ok-rel.rel c.in_ok-rel.ensures.rel c.hold_at_most-2.ensures.keeps)) (c.in_ok-rel.ensures.lists case e well)
