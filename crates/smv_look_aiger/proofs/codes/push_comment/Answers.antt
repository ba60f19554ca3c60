use Rattle.std.proofs.Common.{◌∙◌, ◌++◌, ◌∷◌, [], List, ℕ, ap, append_assoc}
use Rattle.smv_report_lines.specs.Parts.{details}
use Rattle.smv_look_aiger.proofs.codes.push_comment.Goals as goal

pub returns : goal.returns
returns c =
    let comment : List ℕ = details c.args.design.now c.args.params.now c.args.verdict.now in
    (comment, c.in_ok-push_details.ensures ∙ (ap (λ (xs : List ℕ). xs ++ comment) c.in_ok-extend_from_slice.ensures.items ∙ append_assoc c.args.out.now.items (99 ∷ 10 ∷ []) comment))
