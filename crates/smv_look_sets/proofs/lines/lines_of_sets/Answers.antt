use Rattle.std.proofs.Common.{◌≡◌, ◌∙◌, ℕ, List, [], ap, arith, length}
use Rattle.std.proofs.lemmas.Result.{IfOk-weaker}
use Rattle.std.proofs.lemmas.Slice.{between_to_end}
use Rattle.smv_proof.specs.Documents.{document}
use Rattle.smv_look_sets.proofs.LineLaws.{is_long, lines_behind}
use Rattle.smv_look_sets.proofs.lines.lines_of_sets.Goals as goal

pub slice_bounds-from_slice-count : goal.slice_bounds-from_slice-count
slice_bounds-from_slice-count c =
    is_long c.args.sets c.as_slice.result.now (c.as_slice.ensures.value ∙ (c.in_ok-whole.ensures ∙ ap (λ (d : List ℕ). document (record { design = d; sets = c.args.sets })) c.new-design.ensures))

pub slice_bounds-from_slice-start : goal.slice_bounds-from_slice-start
slice_bounds-from_slice-start c =
    is_long c.args.sets c.as_slice.result.now (c.as_slice.ensures.value ∙ (c.in_ok-whole.ensures ∙ ap (λ (d : List ℕ). document (record { design = d; sets = c.args.sets })) c.new-design.ensures))

pub returns : goal.returns
returns c =
    let whole : c.as_slice.result.now ≡ document (record { design = []; sets = c.args.sets }) =
    c.as_slice.ensures.value ∙ (c.in_ok-whole.ensures ∙ ap (λ (d : List ℕ). document (record { design = d; sets = c.args.sets })) c.new-design.ensures) in
    IfOk-weaker c.from_slice.result _ _ (λ lines is. is ∙ (between_to_end c.as_slice.result.now 22 (length c.as_slice.result.now) (omega arith) ∙ lines_behind c.args.sets c.as_slice.result.now whole)) c.from_slice.ensures.items
