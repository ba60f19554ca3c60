use Rattle.std.proofs.Common.{◌∙◌, ◌-◌, List, Some, Err, ap, sym, arith}
use Rattle.smv_proof.specs.declared.proof.Node.{Node}
use Rattle.smv_proof.specs.Readings.{settled}
use Rattle.smv_proof_read.specs.Onward.{begun_at, onward}
use Rattle.smv_proof_read.proofs.Onwards.{node_on, node_stops, node_lacks, same_error}
use Rattle.smv_proof_read.proofs.nodes.read_nodes.Goals as goal

pub returns-in_default-clause-none : goal.returns-in_default-clause-none
returns-in_default-clause-none c h sets set =
    c.loop-due.invariant.read sets set ∙ node_lacks sets set c.loop-due.nodes.items c.loop-due.due c.loop-due.rest.now (omega (arith, c.loop-due-test.true)) (sym c.in_default.ensures.cut)

pub returns-in_err-read_node-clause-none : goal.returns-in_err-read_node-clause-none
returns-in_err-read_node-clause-none c h sets set =
    c.loop-due.invariant.read sets set
    ∙ node_stops sets set c.loop-due.nodes.items c.loop-due.due c.loop-due.rest.now c.in-Some.line.now c.in-Some.behind.now (omega (arith, c.loop-due-test.true)) (sym c.in-Some.ensures.cut)
    (c.in_err-read_node.ensures.none (ap Err (same_error c.from_residual.result c.in_err-read_node.field-0.0 h c.from_residual.ensures.1)))

pub loop-due-preserved : goal.loop-due-preserved
loop-due-preserved c = record {
  seen = c.in_ok-read_node.ensures.seen;
  read = λ sets set.
      c.loop-due.invariant.read sets set
      ∙ (node_on sets set c.loop-due.nodes.items c.loop-due.due c.loop-due.rest.now c.in-Some.line.now c.in-Some.behind.now c.in_ok-read_node.ensures.read.0 (omega (arith, c.loop-due-test.true)) (sym c.in-Some.ensures.cut) c.in_ok-read_node.ensures.read.1
      ∙ ap (λ (nodes : List Node). onward (settled sets (Some (begun_at set nodes (c.loop-due.due - 1)))) c.in-Some.behind.now) (sym c.in_ok-read_node.ensures.read.2));
  rest = omega (arith, c.loop-due.invariant.rest, c.in-Some.ensures.shorter);
}
