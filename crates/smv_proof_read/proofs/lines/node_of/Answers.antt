use Rattle.std.proofs.Common.{◌∙◌, ap, sym, arith, ℕ, Option}
use Rattle.smv_proof.specs.Readings.{node_with, number_of}
use Rattle.smv_proof_read.specs.Standing.{if_stands}
use Rattle.smv_proof_read.proofs.Parts.{node_is, node_one, node_two, node_no_low, node_no_high, node_far, node_all}
use Rattle.smv_proof_read.proofs.lines.node_of.Goals as goal

pub returns-in_err-var : goal.returns-in_err-var
returns-in_err-var c earlier = node_one earlier c.args.line.now (sym c.in_err-var.ensures.cut) ∙ sym (ap (if_stands earlier) c.from_residual.ensures)

pub returns-in_err-low : goal.returns-in_err-low
returns-in_err-low c earlier = node_two earlier c.args.line.now c.in_ok-var.var.now c.in_ok-var.rest.now (sym c.in_ok-var.ensures.cut) (sym c.in_err-low.ensures.cut) ∙ sym (ap (if_stands earlier) c.from_residual-in_err-low.ensures)

pub returns-in_err-var-2 : goal.returns-in_err-var-2
returns-in_err-var-2 c earlier =
    node_is earlier c.args.line.now c.in_ok-var.var.now c.in_ok-var.rest.now c.in_ok-low.low.now c.in_ok-low.high.now (sym c.in_ok-var.ensures.cut) (sym c.in_ok-low.ensures.cut) ∙ (ap (λ (o : Option ℕ). node_with earlier o (number_of c.in_ok-low.low.now) (number_of c.in_ok-low.high.now)) (sym c.in_err-var-2.ensures) ∙ sym (ap (if_stands earlier) c.from_residual-in_err-var-2.ensures))

pub returns-in_err-low-2 : goal.returns-in_err-low-2
returns-in_err-low-2 c earlier =
    node_is earlier c.args.line.now c.in_ok-var.var.now c.in_ok-var.rest.now c.in_ok-low.low.now c.in_ok-low.high.now (sym c.in_ok-var.ensures.cut) (sym c.in_ok-low.ensures.cut) ∙ (ap (λ (o : Option ℕ). node_with earlier (number_of c.in_ok-var.var.now) o (number_of c.in_ok-low.high.now)) (sym c.in_err-low-2.ensures)
    ∙ (node_no_low earlier (number_of c.in_ok-var.var.now) (number_of c.in_ok-low.high.now) ∙ sym (ap (if_stands earlier) c.from_residual-in_err-low-2.ensures)))

pub returns-in_err-high : goal.returns-in_err-high
returns-in_err-high c earlier =
    node_is earlier c.args.line.now c.in_ok-var.var.now c.in_ok-var.rest.now c.in_ok-low.low.now c.in_ok-low.high.now (sym c.in_ok-var.ensures.cut) (sym c.in_ok-low.ensures.cut) ∙ (ap (node_with earlier (number_of c.in_ok-var.var.now) (number_of c.in_ok-low.low.now)) (sym c.in_err-high.ensures)
    ∙ (node_no_high earlier (number_of c.in_ok-var.var.now) (number_of c.in_ok-low.low.now) ∙ sym (ap (if_stands earlier) c.from_residual-in_err-high.ensures)))

pub returns-then-var-gt65535 : goal.returns-then-var-gt65535
returns-then-var-gt65535 c earlier =
    node_is earlier c.args.line.now c.in_ok-var.var.now c.in_ok-var.rest.now c.in_ok-low.low.now c.in_ok-low.high.now (sym c.in_ok-var.ensures.cut) (sym c.in_ok-low.ensures.cut) ∙ (node_all earlier c.in_ok-var.var.now c.in_ok-low.low.now c.in_ok-low.high.now c.in_ok-var-2.var c.in_ok-low-2.low c.in_ok-high.high (sym c.in_ok-var-2.ensures) (sym c.in_ok-low-2.ensures) (sym c.in_ok-high.ensures)
    ∙ node_far earlier c.in_ok-var-2.var c.in_ok-low-2.low c.in_ok-high.high (omega (arith, c.if-var-gt65535.true)))

pub returns : goal.returns
returns c earlier =
    node_is earlier c.args.line.now c.in_ok-var.var.now c.in_ok-var.rest.now c.in_ok-low.low.now c.in_ok-low.high.now (sym c.in_ok-var.ensures.cut) (sym c.in_ok-low.ensures.cut) ∙ node_all earlier c.in_ok-var.var.now c.in_ok-low.low.now c.in_ok-low.high.now c.in_ok-var-2.var c.in_ok-low-2.low c.in_ok-high.high (sym c.in_ok-var-2.ensures) (sym c.in_ok-low-2.ensures) (sym c.in_ok-high.ensures)
