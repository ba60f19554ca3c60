use Rattle.std.proofs.Common.{sym, ◌∙◌}
use Rattle.smv_design.proofs.GroupLaws.{kept-part}
use Rattle.smv_design.proofs.parts.keep.Goals as goal

pub returns-in_ok-push : goal.returns-in_ok-push
returns-in_ok-push c = λ other. kept-part c.args.parts.now.items c.push.new.self.items c.args.owner other c.args.says (sym c.is_nothing.ensures ∙ c.if-not-is_nothing.true) c.in_ok-push.ensures.items
