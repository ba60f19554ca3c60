use Rattle.std.proofs.Common.{◌++◌, ◌∷◌, [], cond, sym, ap, ◌∙◌}
use Rattle.std.proofs.lemmas.List.{append-nil}
use Rattle.smv_design.proofs.FirstLaws.{one-more}
use Rattle.smv_design.proofs.firsts.note.Goals as goal

pub returns-in_ok-push : goal.returns-in_ok-push
returns-in_ok-push c = λ met gathered.
    one-more c.args.gathered.now c.insert.new.self c.push.new.self.items met c.args.head c.in_ok-insert.field-0 c.in_ok-insert.ensures.added c.in_ok-insert.ensures.updates.0
    (c.in_ok-push.ensures.items ∙ ap (λ b. c.args.gathered.now.heads.items ++ cond b (c.args.head ∷ []) []) (sym c.if-branch.true)) gathered

pub returns-else-branch : goal.returns-else-branch
returns-else-branch c = λ met gathered.
    one-more c.args.gathered.now c.insert.new.self c.args.gathered.now.heads.items met c.args.head c.in_ok-insert.field-0 c.in_ok-insert.ensures.added c.in_ok-insert.ensures.updates.0
    (sym (append-nil c.args.gathered.now.heads.items) ∙ ap (λ b. c.args.gathered.now.heads.items ++ cond b (c.args.head ∷ []) []) (sym c.if-branch.false)) gathered
