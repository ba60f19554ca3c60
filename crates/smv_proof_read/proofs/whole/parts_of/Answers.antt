use Rattle.std.proofs.Common.{◌≡◌, ◌∙◌, sym, subst, None, Option, MatchOption}
use Rattle.smv_proof.specs.declared.proof.Proof.{Proof}
use Rattle.smv_proof.specs.Readings.{sets_of, with_sets}
use Rattle.smv_proof_read.proofs.Fronts.{title_lacks, title_other, title_is, second_lacks, first_is}
use Rattle.smv_proof_read.proofs.whole.parts_of.Goals as goal

pub returns-in_err-title : goal.returns-in_err-title
returns-in_err-title c = rw c.from_residual.ensures (title_lacks c.args.bytes.now (sym c.in_err-title.ensures.cut))

pub returns-then-not-is_title : goal.returns-then-not-is_title
returns-then-not-is_title c = title_other c.args.bytes.now c.in_ok-title.title.now c.in_ok-title.rest.now (sym c.in_ok-title.ensures.cut) (sym c.is_title.ensures ∙ c.if-not-is_title.true)

pub returns-in_err-line : goal.returns-in_err-line
returns-in_err-line c = rw c.from_residual-in_err-line.ensures (title_is c.args.bytes.now c.in_ok-title.title.now c.in_ok-title.rest.now (sym c.in_ok-title.ensures.cut) (sym c.is_title.ensures ∙ c.if-not-is_title.false) ∙ second_lacks c.in_ok-title.rest.now (sym c.in_err-line.ensures.cut))

pub returns-in_err-length : goal.returns-in_err-length
returns-in_err-length c = rw c.from_residual-in_err-length.ensures (title_is c.args.bytes.now c.in_ok-title.title.now c.in_ok-title.rest.now (sym c.in_ok-title.ensures.cut) (sym c.is_title.ensures ∙ c.if-not-is_title.false) ∙ first_is c.in_ok-title.rest.now c.in_ok-line.line.now c.in_ok-line.rest.now None (sym c.in_ok-line.ensures.cut) (sym c.in_err-length.ensures))

pub returns : goal.returns
returns c =
    let is = title_is c.args.bytes.now c.in_ok-title.title.now c.in_ok-title.rest.now (sym c.in_ok-title.ensures.cut) (sym c.is_title.ensures ∙ c.if-not-is_title.false) ∙ first_is c.in_ok-title.rest.now c.in_ok-line.line.now c.in_ok-line.rest.now _ (sym c.in_ok-line.ensures.cut) (sym c.in_ok-length.ensures) in
    subst (λ (o : Option Proof). MatchOption c.design_in.result (o ≡ None) (λ parts. o ≡ with_sets parts.0.now (sets_of parts.1.now))) (sym is) c.design_in.ensures
