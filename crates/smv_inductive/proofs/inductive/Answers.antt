use Rattle.smv_rings.proofs.Kept.{rel_kept}
use Rattle.smv_inductive.proofs.Kept.{halves_join, iff_then}
use Rattle.smv_inductive.proofs.inductive.Goals as goal

pub holds_on-requires-clause-rel : goal.holds_on-requires-clause-rel
holds_on-requires-clause-rel c = rel_kept c.args.store.now c.holds_first.new.store c.args.rel.now c.requires.rel c.in_ok-holds_first.ensures.keeps

pub returns-clause-means : goal.returns-clause-means
returns-clause-means c =
    iff_then c.holds_on.result _ _
    (halves_join c.args.store.now c.holds_first.new.store c.args.rel.now c.args.set c.requires.rel c.requires.set c.in_ok-holds_first.ensures.keeps (c.in_ok-holds_first.ensures.means.0 c.if-not-branch.false))
    c.holds_on.ensures.means
