use Rattle.std.proofs.Common.{◌∙◌, ◌+◌, ◌-◌, ◌/◌, ◌%◌, ◌++◌, ◌∷◌, [], List, ℕ, ap, append_assoc, sym}
use Rattle.smv_circuits.specs.Files.{groups}
use Rattle.smv_circuits.proofs.FileLaws.{last_group, more_groups, small_group}
use Rattle.smv_circuits.proofs.writing.+push_difference.Goals as goal

pub returns-then-more-eq0 : goal.returns-then-more-eq0
returns-then-more-eq0 t c = c.in_ok-push.ensures.items ∙ ap (λ (xs : List ℕ). c.args.out.now.items ++ xs) (sym (last_group c.args.more c.args.difference c.if-more-eq0.true))

pub returns-then-difference-lt128 : goal.returns-then-difference-lt128
returns-then-difference-lt128 t c = c.in_ok-push-2.ensures.items ∙ ap (λ (xs : List ℕ). c.args.out.now.items ++ xs) (sym (small_group c.args.more c.args.difference c.if-difference-lt128.true))

pub returns : goal.returns
returns t c =
    c.in_ok-push_difference.ensures
    ∙ (ap (λ (xs : List ℕ). xs ++ groups (c.args.more - 1) (c.args.difference / 128)) c.in_ok-push-3.ensures.items
    ∙ (append_assoc c.args.out.now.items ((c.args.difference % 128 + 128) ∷ []) (groups (c.args.more - 1) (c.args.difference / 128))
    ∙ ap (λ (xs : List ℕ). c.args.out.now.items ++ xs) (sym (more_groups c.args.more c.args.difference c.if-more-eq0.false c.if-difference-lt128.false))))
