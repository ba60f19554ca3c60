-- Part by part.
use Rattle.std.proofs.Common.{ap, ◌∙◌, ◌++◌}
use Rattle.smv_waveforms.specs.Values.{kinds_of}
use Rattle.smv_waveforms.specs.Vcd.{case_lines, scope_head, var_lines}
use Rattle.smv_waveforms.proofs.Parts.{scope_written}
use Rattle.smv_waveforms.proofs.scopes.push_scope.Goals as goal

pub returns : goal.returns
returns c =
    scope_written _ _ _ _ _ (scope_head c.args.unit.now.name) (case_lines c.args.unit.now.case) _ _
    (c.in_ok-push_head.ensures ∙ ap (λ name. c.args.out.now.items ++ scope_head name) c.as_bytes.ensures)
    (c.in_ok-push_case.ensures ∙ ap (λ classes. c.push_head.new.out.items ++ case_lines classes) c.as_slice.ensures)
    (c.in_ok-push_vars.ensures
    ∙ ap (λ kinds. c.push_case.new.out.items ++ var_lines c.args.first kinds c.as_slice-3.result.now) (c.as_slice-2.ensures.value ∙ c.in_ok-kinds.ensures)
    ∙ ap (λ elements. c.push_case.new.out.items ++ var_lines c.args.first (kinds_of c.args.unit.now) elements) c.as_slice-3.ensures)
    c.in_ok-extend_from_slice.ensures.items
