use Rattle.std.proofs.Common.{◌∙◌, ◌++◌, codes, ℕ, List, ap}
use Rattle.std.proofs.lemmas.List.{append_assoc}
use Rattle.smv_look_lint.specs.Lines.{bounds_text}
use Rattle.smv_look_lint.proofs.lines.push_within.Goals as goal

pub returns : goal.returns
returns c =
    c.in_ok-push_bounds.ensures
    ∙ ap (λ (l : List ℕ). l ++ bounds_text c.args.bounds) c.in_ok-extend_from_slice.ensures.items
    ∙ append_assoc c.args.out.now.items (codes "by types and conditions this is within ") (bounds_text c.args.bounds)
