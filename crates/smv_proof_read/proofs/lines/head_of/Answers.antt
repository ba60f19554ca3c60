use Rattle.std.proofs.Common.{◌∙◌, ap, sym, option_map}
use Rattle.smv_proof_read.specs.Heads.{begun_of}
use Rattle.smv_proof_read.proofs.Parts.{head_is, head_one, head_two, head_three, head_four, head_word, head_no_number, head_no_root, head_no_count, head_whole, head_stands, head_falls}
use Rattle.smv_proof_read.proofs.lines.head_of.Goals as goal

pub returns-in_err-word : goal.returns-in_err-word
returns-in_err-word c = ap (option_map begun_of) c.from_residual.ensures ∙ sym (head_one c.args.line.now (sym c.in_err-word.ensures.cut))

pub returns-in_err-unit : goal.returns-in_err-unit
returns-in_err-unit c = ap (option_map begun_of) c.from_residual-in_err-unit.ensures ∙ sym (head_two c.args.line.now c.in_ok-word.word.now c.in_ok-word.rest.now (sym c.in_ok-word.ensures.cut) (sym c.in_err-unit.ensures.cut))

pub returns-in_err-number : goal.returns-in_err-number
returns-in_err-number c = ap (option_map begun_of) c.from_residual-in_err-number.ensures ∙ sym (head_three c.args.line.now c.in_ok-word.word.now c.in_ok-word.rest.now c.in_ok-unit.unit.now c.in_ok-unit.rest.now (sym c.in_ok-word.ensures.cut) (sym c.in_ok-unit.ensures.cut) (sym c.in_err-number.ensures.cut))

pub returns-in_err-root : goal.returns-in_err-root
returns-in_err-root c = ap (option_map begun_of) c.from_residual-in_err-root.ensures ∙ sym (head_four c.args.line.now c.in_ok-word.word.now c.in_ok-word.rest.now c.in_ok-unit.unit.now c.in_ok-unit.rest.now c.in_ok-number.number.now c.in_ok-number.rest.now (sym c.in_ok-word.ensures.cut) (sym c.in_ok-unit.ensures.cut) (sym c.in_ok-number.ensures.cut) (sym c.in_err-root.ensures.cut))

pub returns-then-not-is_set : goal.returns-then-not-is_set
returns-then-not-is_set c = sym (head_is c.args.line.now c.in_ok-word.word.now c.in_ok-word.rest.now c.in_ok-unit.unit.now c.in_ok-unit.rest.now c.in_ok-number.number.now c.in_ok-number.rest.now c.in_ok-root.root.now c.in_ok-root.count.now (record { first = sym c.in_ok-word.ensures.cut; second = sym c.in_ok-unit.ensures.cut; third = sym c.in_ok-number.ensures.cut; fourth = sym c.in_ok-root.ensures.cut }) ∙ head_word c.in_ok-word.word.now c.in_ok-unit.unit.now c.in_ok-number.number.now c.in_ok-root.root.now c.in_ok-root.count.now (sym c.is_set.ensures ∙ c.if-not-is_set.true))

pub returns-in_err-number-2 : goal.returns-in_err-number-2
returns-in_err-number-2 c = ap (option_map begun_of) c.from_residual-in_err-number-2.ensures ∙ sym (head_is c.args.line.now c.in_ok-word.word.now c.in_ok-word.rest.now c.in_ok-unit.unit.now c.in_ok-unit.rest.now c.in_ok-number.number.now c.in_ok-number.rest.now c.in_ok-root.root.now c.in_ok-root.count.now (record { first = sym c.in_ok-word.ensures.cut; second = sym c.in_ok-unit.ensures.cut; third = sym c.in_ok-number.ensures.cut; fourth = sym c.in_ok-root.ensures.cut }) ∙ head_no_number c.in_ok-word.word.now c.in_ok-unit.unit.now c.in_ok-number.number.now c.in_ok-root.root.now c.in_ok-root.count.now (sym c.in_err-number-2.ensures))

pub returns-in_err-root-2 : goal.returns-in_err-root-2
returns-in_err-root-2 c = ap (option_map begun_of) c.from_residual-in_err-root-2.ensures ∙ sym (head_is c.args.line.now c.in_ok-word.word.now c.in_ok-word.rest.now c.in_ok-unit.unit.now c.in_ok-unit.rest.now c.in_ok-number.number.now c.in_ok-number.rest.now c.in_ok-root.root.now c.in_ok-root.count.now (record { first = sym c.in_ok-word.ensures.cut; second = sym c.in_ok-unit.ensures.cut; third = sym c.in_ok-number.ensures.cut; fourth = sym c.in_ok-root.ensures.cut }) ∙ head_no_root c.in_ok-word.word.now c.in_ok-unit.unit.now c.in_ok-number.number.now c.in_ok-root.root.now c.in_ok-root.count.now (sym c.in_err-root-2.ensures))

pub returns-in_err-count : goal.returns-in_err-count
returns-in_err-count c = ap (option_map begun_of) c.from_residual-in_err-count.ensures ∙ sym (head_is c.args.line.now c.in_ok-word.word.now c.in_ok-word.rest.now c.in_ok-unit.unit.now c.in_ok-unit.rest.now c.in_ok-number.number.now c.in_ok-number.rest.now c.in_ok-root.root.now c.in_ok-root.count.now (record { first = sym c.in_ok-word.ensures.cut; second = sym c.in_ok-unit.ensures.cut; third = sym c.in_ok-number.ensures.cut; fourth = sym c.in_ok-root.ensures.cut }) ∙ head_no_count c.in_ok-word.word.now c.in_ok-unit.unit.now c.in_ok-number.number.now c.in_ok-root.root.now c.in_ok-root.count.now (sym c.in_err-count.ensures))

pub returns-then-may_begin : goal.returns-then-may_begin
returns-then-may_begin c = sym (head_is c.args.line.now c.in_ok-word.word.now c.in_ok-word.rest.now c.in_ok-unit.unit.now c.in_ok-unit.rest.now c.in_ok-number.number.now c.in_ok-number.rest.now c.in_ok-root.root.now c.in_ok-root.count.now (record { first = sym c.in_ok-word.ensures.cut; second = sym c.in_ok-unit.ensures.cut; third = sym c.in_ok-number.ensures.cut; fourth = sym c.in_ok-root.ensures.cut }) ∙ (head_whole c.in_ok-word.word.now c.in_ok-unit.unit.now c.in_ok-number.number.now c.in_ok-root.root.now c.in_ok-root.count.now c.in_ok-number-2.number c.in_ok-root-2.root c.in_ok-count.count (sym c.is_set.ensures ∙ c.if-not-is_set.false) (sym c.in_ok-number-2.ensures) (sym c.in_ok-root-2.ensures) (sym c.in_ok-count.ensures) ∙ head_stands c.in_ok-unit.unit.now c.in_ok-number-2.number c.in_ok-root-2.root c.in_ok-count.count (sym c.may_begin.ensures ∙ c.if-may_begin.true)))

pub returns-else-may_begin : goal.returns-else-may_begin
returns-else-may_begin c = sym (head_is c.args.line.now c.in_ok-word.word.now c.in_ok-word.rest.now c.in_ok-unit.unit.now c.in_ok-unit.rest.now c.in_ok-number.number.now c.in_ok-number.rest.now c.in_ok-root.root.now c.in_ok-root.count.now (record { first = sym c.in_ok-word.ensures.cut; second = sym c.in_ok-unit.ensures.cut; third = sym c.in_ok-number.ensures.cut; fourth = sym c.in_ok-root.ensures.cut }) ∙ (head_whole c.in_ok-word.word.now c.in_ok-unit.unit.now c.in_ok-number.number.now c.in_ok-root.root.now c.in_ok-root.count.now c.in_ok-number-2.number c.in_ok-root-2.root c.in_ok-count.count (sym c.is_set.ensures ∙ c.if-not-is_set.false) (sym c.in_ok-number-2.ensures) (sym c.in_ok-root-2.ensures) (sym c.in_ok-count.ensures) ∙ head_falls c.in_ok-unit.unit.now c.in_ok-number-2.number c.in_ok-root-2.root c.in_ok-count.count (sym c.may_begin.ensures ∙ c.if-may_begin.false)))
