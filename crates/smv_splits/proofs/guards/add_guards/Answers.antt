use Rattle.std.proofs.Common.{◌++◌, ◌∙◌, ap, map, refl}
use Rattle.law_splits.specs.Leaves.{numbered, bound_as}
use Rattle.smv_splits.specs.declared.numbers.Numbers.{Numbers}
use Rattle.smv_splits.specs.Links.{link_held}
use Rattle.smv_splits.proofs.GuardLaws.{guards-by}
use Rattle.smv_splits.proofs.guards.add_guards.Goals as goal

pub returns : goal.returns
returns c =
    let s = c.args.link.split.now in
    let numbers : Numbers = record { given = c.deref.result; count = c.args.count } in
    c.in_ok-add_pairs.ensures ∙ ap (λ l. c.args.out.now.items ++ l)
    (guards-by numbers (link_held c.args.link) c.args.count c.deref-2.result.now c.as_slice.result.now (c.deref.ensures.value ∙ c.in_ok-given.ensures) refl
    (c.deref-2.ensures.value ∙ (c.in_ok-add_new.ensures ∙ ap (λ l. l ++ numbered c.args.link.first (map (bound_as s.bound) s.vars)) c.new-new.ensures.items)) c.as_slice.ensures)
