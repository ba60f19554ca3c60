use Rattle.std.proofs.Common.{subst, IfSome}
use Rattle.smv_rings.specs.Lists.{IsRel}
use Rattle.smv_rings.proofs.Kept.{rel_kept}
use Rattle.bdd_tests.proofs.cases.is_inductive.Goals as goal

pub inductive-requires-clause-rel : goal.inductive-requires-clause-rel
inductive-requires-clause-rel c =
    rel_kept c.build_rel.new.store c.build.new.store c.in-Some.rel (subst (λ o. IfSome o (IsRel c.build_rel.new.store)) c.in-Some.is c.in_ok-rel.ensures.rel) c.in_ok-set.ensures.keeps
