use Rattle.std.proofs.Common.{sym, ap, ◌∙◌}
use Rattle.smv_design.specs.Groups.{filled, held, used, parts_for}
use Rattle.smv_design.proofs.GroupLaws.{filled-step}
use Rattle.smv_design.proofs.groups.add_all.Goals as goal

pub loop-part-preserved : goal.loop-part-preserved
loop-part-preserved c = λ owner.
    filled-step (used c.loop-part.groups owner) (used c.add.new.groups owner) c.in-Some.part owner c.args.is_second c.next.new.self.rest.items (c.in_ok-add.ensures owner)
    ∙ ap (λ l. filled (held c.loop-part.groups owner) c.args.is_second (parts_for owner l)) (sym c.in-Some.ensures.steps.0) ∙ c.loop-part.invariant owner
