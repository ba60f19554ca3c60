use Rattle.std.proofs.Common.{◌∙◌, [], ◌∷◌, ◌++◌, ap, sym}
use Rattle.std.proofs.lemmas.List.{append-nil, append_assoc}
use Rattle.smv_look_expected.specs.Expected.{fits, refused}
use Rattle.smv_look_expected.proofs.push_told.Goals as goal

pub returns-then-branch : goal.returns-then-branch
returns-then-branch c = ([], sym (append-nil c.args.out.now.items), refused c.args.token.now c.args.shown.now (c.in_ok-is_refused.ensures.refused c.if-branch.true))

pub returns : goal.returns
returns c = (
  32 ∷ c.args.shown.now,
  c.in_ok-extend_from_slice.ensures.items ∙ ap (λ l. l ++ c.args.shown.now) c.in_ok-push.ensures.items ∙ append_assoc c.args.out.now.items (32 ∷ []) c.args.shown.now,
  fits c.args.token.now c.args.shown.now (c.in_ok-is_refused.ensures.fits c.if-branch.false),
)
