use Rattle.std.proofs.Common.{ap, ◌∙◌, ◌&&◌, Bool}
use Rattle.bdd_ops.specs.Functions.{Function}
use Rattle.bdd_store.specs.Diagram.{table}
use Rattle.law_obligations.specs.Sets.{first}
use Rattle.smv_encode.specs.Encoded.{met_at}
use Rattle.smv_encode.proofs.Adds.{too_taken, one_demand}
use Rattle.smv_encode.proofs.Calls.{live_on}
use Rattle.smv_encode.proofs.KnownCases.{case_known_kept}
use Rattle.smv_encode.proofs.elements.met_too.Goals as goal

pub returns-then-taken-clause-means : goal.returns-then-taken-clause-means
returns-then-taken-clause-means c = λ d is well o are x h a.
    too_taken c.args.taken (table c.args.store.now c.args.others a) (met_at d o c.args.step x a) (table c.and.new.store c.in_ok-r.r a) (table c.met_at.new.store c.in_ok-met.met a) c.if-taken.true
    (c.in_ok-r.ensures.table a ∙ ap (λ (b : Bool). b && table c.met_at.new.store c.in_ok-met.met a) (c.in_ok-met.ensures.keeps.tables c.args.others c.requires.others a))
    (ap (λ (f : Function). f a) (c.in_ok-met.ensures.means d is well o are x (one_demand d x c.args.demand.now h) (h.fit x first) (h.kept x first)))

pub returns-then-taken-clause-known : goal.returns-then-taken-clause-known
returns-then-taken-clause-known c =
    case_known_kept c.met_at.new.store c.and.new.store c.args.problem.now c.args.cells.now c.met_at.new.known c.in_ok-r.ensures.keeps (live_on c.args.store.now c.met_at.new.store c.args.cells.now c.in_ok-met.ensures.keeps c.requires.cells) c.in_ok-met.ensures.known
