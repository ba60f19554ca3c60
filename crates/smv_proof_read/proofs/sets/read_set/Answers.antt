use Rattle.std.proofs.Common.{◌∙◌, [], Option, Err, ap, sym}
use Rattle.smv_proof.specs.declared.proof.KeptSet.{KeptSet}
use Rattle.smv_proof.specs.Readings.{Begun, settled}
use Rattle.smv_proof_read.specs.declared.lines.Head.{Head}
use Rattle.smv_proof_read.specs.Onward.{onward}
use Rattle.smv_proof_read.proofs.Onwards.{set_lacks, set_on, set_put, same_error}
use Rattle.smv_proof_read.proofs.sets.read_set.Goals as goal

abbrev begun_set : Head → KeptSet
begun_set head = record { unit = head.unit.now; number = head.number; root = head.root; nodes = [] }

pub returns-in_default-clause-none : goal.returns-in_default-clause-none
returns-in_default-clause-none c h = set_lacks c.args.sets.now.items c.args.bytes.now c.requires (sym c.in_default.ensures.cut)

pub returns-in_default-head_of-clause-none : goal.returns-in_default-head_of-clause-none
returns-in_default-head_of-clause-none c h =
    set_on c.args.sets.now.items c.args.bytes.now c.in-Some.line.now c.in-Some.lines.now (sym c.in-Some.ensures.cut)
    ∙ ap (λ (b : Option Begun). onward (settled c.args.sets.now.items b) c.in-Some.lines.now) (sym c.in_default-head_of.ensures)

pub returns-in_err-rest-clause-none : goal.returns-in_err-rest-clause-none
returns-in_err-rest-clause-none c h =
    set_on c.args.sets.now.items c.args.bytes.now c.in-Some.line.now c.in-Some.lines.now (sym c.in-Some.ensures.cut)
    ∙ (ap (λ (b : Option Begun). onward (settled c.args.sets.now.items b) c.in-Some.lines.now) (sym c.in-Some-head_of.ensures)
    ∙ c.in_err-rest.ensures.none (ap Err (same_error c.from_residual.result c.in_err-rest.field-0.0 h c.from_residual.ensures.1)) c.args.sets.now.items (begun_set c.in-Some-head_of.head))

pub returns-clause-read : goal.returns-clause-read
returns-clause-read c =
    set_on c.args.sets.now.items c.args.bytes.now c.in-Some.line.now c.in-Some.lines.now (sym c.in-Some.ensures.cut)
    ∙ (ap (λ (b : Option Begun). onward (settled c.args.sets.now.items b) c.in-Some.lines.now) (sym c.in-Some-head_of.ensures)
    ∙ (c.in_ok-rest.ensures.read c.args.sets.now.items (begun_set c.in-Some-head_of.head)
    ∙ set_put c.args.sets.now.items c.push.new.self.items c.in-Some-head_of.head.unit.now c.from_vec.result c.in-Some-head_of.head.number c.in-Some-head_of.head.root c.read_nodes.new.nodes.items c.from_vec-2.result c.in_ok-rest.rest.now
    c.in_ok-push.ensures.items (c.from_vec.ensures ∙ c.in_ok-unit.ensures.items) c.from_vec-2.ensures))
