use Rattle.std.proofs.Common.{◌≡◌, None, sym, ap, ◌∙◌}
use Rattle.std.specs.Option.{option_copied_mut}
use Rattle.smv_design.specs.Groups.{same_owner, used, one_more}
use Rattle.smv_design.proofs.GroupLaws.{first-part}
use Rattle.smv_design.proofs.groups.add.Goals as goal

pub returns-in_ok-insert-in-None : goal.returns-in_ok-insert-in-None
returns-in_ok-insert-in-None c =
    let same : c.get_mut.follows.lender-at-none ≡ c.args.groups.now = c.get_mut.follows.holds-at-none in
    let none : used c.args.groups.now c.args.part.owner ≡ None = sym c.get_mut.ensures.value ∙ ap option_copied_mut c.in-None.is in
    λ other.
    first-part c.get_mut.follows.lender-at-none c.insert.new.self c.args.part.owner c.args.is_second c.args.part.says c.in_ok-sides-in-None.sides (ap (λ m. used m c.args.part.owner) same ∙ none) c.in_ok-sides-in-None.ensures
    c.in_ok-insert-in-None.ensures.updates other
    ∙ ap (λ m. one_more (used m other) (same_owner c.args.part.owner other) c.args.is_second c.args.part.says) same
