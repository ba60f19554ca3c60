use Rattle.std.proofs.Common.{arith, ◌∙◌}
use Rattle.smv_outcome_lists.proofs.ListLaws.{members_begun, members_go, members_over, list_made}
use Rattle.smv_outcome_lists.proofs.members.member_of.Goals as goal

pub loop-place-init : goal.loop-place-init
loop-place-init g c = members_begun _ _ _ c.args.s.now c.args.problem.now c.args.u c.args.vss.now c.empty-found.result c.empty-found.ensures.made c.empty-found.ensures.mix

pub with_member-requires-clause-made : goal.with_member-requires-clause-made
with_member-requires-clause-made g c =
    list_made g.S.Conditions.IsMade g.S.Conditions.holds g.S.Conditions.room c.args.s.now c.loop-place.s c.args.vss.now _ _ _ (omega arith) (c.as_slice.ensures ∙ c.index-vss-place.is) c.loop-place.invariant.keeps c.requires.made

pub with_member-requires-clause-found_made : goal.with_member-requires-clause-found_made
with_member-requires-clause-found_made g c = c.loop-place.invariant.made

pub loop-place-preserved : goal.loop-place-preserved
loop-place-preserved g c =
    members_go _ _ _ _ _ _ _ c.args.u c.args.vss.now _ c.index-vss-place.result _ _ _ c.loop-place-test.true c.loop-place.auto.place c.index-vss-place.is c.as_slice.ensures c.requires.made c.loop-place.invariant c.with_member.ensures.keeps
    c.in_ok-found.ensures.made c.in_ok-found.ensures.mix

pub returns-clause-mix : goal.returns-clause-mix
returns-clause-mix g c = members_over _ _ _ _ _ _ c.args.u c.args.vss.now _ _ c.loop-place-test.false c.loop-place.invariant
