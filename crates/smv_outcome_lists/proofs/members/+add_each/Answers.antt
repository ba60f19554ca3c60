use Rattle.std.proofs.Common.{rules, refl}
use Rattle.smv_outcome_lists.proofs.ListLaws.{no_single, single_made, more_singles}
use Rattle.smv_outcome_lists.proofs.members.+add_each.Goals as goal

pub returns-in_default-clause-adds : goal.returns-in_default-clause-adds
returns-in_default-clause-adds g t c n p a = no_single n _ _ a p _ _ c.in_default.ensures.cases

pub add_each-requires : goal.add_each-requires
add_each-requires g t c κs within =
    let made = single_made _ _ _ _ _ _ c.in_ok-push-2.ensures.items c.new-list.ensures c.in_ok-push.ensures.ok c.requires.made c.constant-when.ensures.made in
    search (rules, made)

pub returns-clause-adds : goal.returns-clause-adds
returns-clause-adds g t c n p a = let k = c.in-Some.ensures.cases in
    more_singles n _ _ a p _ _ _ _ _ _ _ _ _ k.0 c.in_ok-push-2.ensures.items c.new-list.ensures c.in_ok-push.ensures.ok refl (c.constant-when.ensures.holds a) (c.in_ok-add_each.ensures.adds n p a)
