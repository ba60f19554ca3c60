use Rattle.std.proofs.Common.{sym, ◌∙◌}
use Rattle.smv_kinds.proofs.ConstantLaws.{all-parts}
use Rattle.smv_kinds.proofs.arguments.are_constant.Goals as goal

pub returns : goal.returns
returns c = c.parts_are_constant.ensures ∙ sym (all-parts c.args.parts.now)
