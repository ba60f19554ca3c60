use Rattle.std.proofs.Common.{Bool, None, ap, sym, ◌∙◌, ◌&&◌}
use Rattle.law_obligations.specs.Obligations.{is_met}
use Rattle.bdd_store.specs.Diagram.{table}
use Rattle.law_wires.specs.Tries.{keeping}
use Rattle.smv_encode.proofs.Adds.{too_taken}
use Rattle.smv_wires.proofs.met.met_too.Goals as goal

pub returns-then-taken-clause-means : goal.returns-then-taken-clause-means
returns-then-taken-clause-means c = λ d is well x kept state has read y h own a.
    too_taken c.args.taken (table c.args.store.now c.args.others a) (is_met (keeping d kept) None (state a) y) (table c.and.new.store c.in_ok-r.r a) (table c.one_met.new.store c.in_ok-met.met a) c.if-taken.true
    (c.in_ok-r.ensures.table a ∙ ap (λ (b : Bool). b && table c.one_met.new.store c.in_ok-met.met a) (c.in_ok-met.ensures.keeps.tables c.args.others c.requires.others a))
    (c.in_ok-met.ensures.means d is well x kept state has read y h (sym own ∙ c.if-taken.true) a)
