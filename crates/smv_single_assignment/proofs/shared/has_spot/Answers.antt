use Rattle.std.proofs.Common.{◌≡◌, ◌&&◌, Some, sym, ap, ◌∙◌}
use Rattle.smv_single_assignment.specs.Shared.{kept_at, meets_all, is_above_one}
use Rattle.smv_single_assignment.proofs.shared.has_spot.Goals as goal

pub returns-in-Some : goal.returns-in-Some
returns-in-Some c = λ e.
    let kept : kept_at c.args.kept.now c.args.class c.args.var ≡ Some c.in-Some.lefts.now = sym c.in-Some.ensures.value in
    (c.in-Some.lefts.now, kept, ap (λ l. meets_all c.args.var l c.args.left.now && is_above_one c.args.var l c.args.left.now) (sym c.deref.ensures.value) ∙ sym c.is_met.ensures ∙ e)
