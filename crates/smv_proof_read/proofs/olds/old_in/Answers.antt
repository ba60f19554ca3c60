use Rattle.std.proofs.Common.{◌∙◌, List, ℕ, None, Bor, ap, sym, option_map}
use Rattle.smv_proof_read.proofs.OldDocuments.{old_lacks, old_behind}
use Rattle.smv_proof_read.proofs.olds.old_in.Goals as goal

pub returns-in_err-line : goal.returns-in_err-line
returns-in_err-line c = ap (option_map (λ (parts : Bor (List ℕ) × Bor (List ℕ)). (parts.0.now, parts.1.now))) c.from_residual.ensures ∙ sym (old_lacks c.args.bytes.now (sym c.in_err-line.ensures.cut))

pub returns-in_err-length : goal.returns-in_err-length
returns-in_err-length c =
    ap (option_map (λ (parts : Bor (List ℕ) × Bor (List ℕ)). (parts.0.now, parts.1.now))) c.from_residual-in_err-length.ensures
    ∙ sym (old_behind c.args.bytes.now c.in_ok-line.line.now c.in_ok-line.rest.now None (sym c.in_ok-line.ensures.cut) (sym c.in_err-length.ensures))

pub returns : goal.returns
returns c = c.parted.ensures ∙ sym (old_behind c.args.bytes.now c.in_ok-line.line.now c.in_ok-line.rest.now _ (sym c.in_ok-line.ensures.cut) (sym c.in_ok-length.ensures))
