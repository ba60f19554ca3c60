use Rattle.std.proofs.Common.{◌++◌, sym, ap, ◌∙◌}
use Rattle.std.proofs.lemmas.List.{append-nil}
use Rattle.smv_design.specs.Groups.{parts_for}
use Rattle.std.specs.Option.{option_copied}
use Rattle.smv_design.proofs.GroupLaws.{drained, drained-all}
use Rattle.smv_design.proofs.groups.merged.Goals as goal

pub returns : goal.returns
returns c = λ owner.
    sym (append-nil (parts_for owner c.loop-owner.parts.items)) ∙ ap (λ l. parts_for owner c.loop-owner.parts.items ++ drained (option_copied c.args.cond) owner l) (sym c.in-None.ensures.steps.0) ∙ c.loop-owner.invariant owner
    ∙ drained-all (option_copied c.args.cond) owner c.args.groups.entries c.into_iter-owner-iterator.ensures.into_iter_gives.4
