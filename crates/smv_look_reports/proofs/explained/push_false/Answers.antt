use Rattle.std.proofs.Common.{◌≡◌, ℕ, List, OnOk, subst}
use Rattle.smv_look_reports.proofs.AllowedLaws.{false_written}
use Rattle.smv_look_reports.proofs.explained.push_false.Goals as goal

pub returns : goal.returns
returns c =
    subst (λ (lines : List ℕ). OnOk c.push_choice.result (c.push_choice.new.out.items ≡ lines))
    (false_written c.args.unit.now.design.now c.args.unit.now.unit c.args.unit.now.choice.now c.args.unit.now.times.now c.args.unit.now.told.now c.args.unit.now.allowed.now c.args.case.now c.args.elements.now c.args.path.now _ _ _ _ _ _ _ _ _
    c.as_slice.ensures c.in_ok-target.ensures c.as_ref.ensures.value c.as_ref-2.ensures.value c.as_bytes.ensures c.as_slice-2.ensures c.in_ok-push_path.ensures c.in_ok-push_allowed.ensures)
    c.push_choice.ensures
