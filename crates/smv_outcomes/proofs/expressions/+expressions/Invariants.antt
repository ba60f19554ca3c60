use Rattle.std.proofs.Common.{drop}
use Rattle.smv_conditions.specs.Chain.{AllMade}
use Rattle.smv_conditions.specs.Offers.{AreOffersMade}
use Rattle.smv_outcome_lists.specs.Lists.{AreListsMade}
use Rattle.smv_outcomes.specs.Outcomes.{AreTruthsOf, AreTruthsAlong, AreListsOf, AreMembersOf, IsSumOf}
use Rattle.smv_outcomes.proofs.GatherLaws.{Gathering}
use Rattle.smv_outcomes.proofs.expressions.+expressions.Given as goal

abbrev pub invariant-truths_each-loop-part : goal.invariant-truths_each-loop-part
invariant-truths_each-loop-part g l =
    Gathering g.S.Conditions.IsMade g.S.Conditions.holds g.S.Conditions.room l.fn.s l.s l.problem l.cells l.known.entries.items (AllMade (g.S.Conditions.IsMade l.s) l.each.items) (λ v. AreTruthsOf g.S.Conditions.holds l.s v l.b l.parts (drop l.part-index l.parts) l.each.items)

abbrev pub invariant-truths_apart-loop-inner : goal.invariant-truths_apart-loop-inner
invariant-truths_apart-loop-inner g l =
    Gathering g.S.Conditions.IsMade g.S.Conditions.holds g.S.Conditions.room l.fn.s l.s l.problem l.cells l.known.entries.items (AllMade (g.S.Conditions.IsMade l.s) l.each.items) (λ v. AreTruthsAlong g.S.Conditions.holds l.s v l.body l.bindings (drop l.inner-index l.bindings) l.each.items)

abbrev pub invariant-lists_each-loop-part : goal.invariant-lists_each-loop-part
invariant-lists_each-loop-part g l =
    Gathering g.S.Conditions.IsMade g.S.Conditions.holds g.S.Conditions.room l.fn.s l.s l.problem l.cells l.known.entries.items (AreListsMade (g.S.Conditions.IsMade l.s) l.each.items) (λ v. AreListsOf g.S.Conditions.holds l.s v l.b l.parts (drop l.part-index l.parts) l.each.items)

abbrev pub invariant-members_each-loop-member : goal.invariant-members_each-loop-member
invariant-members_each-loop-member g l =
    Gathering g.S.Conditions.IsMade g.S.Conditions.holds g.S.Conditions.room l.fn.s l.s l.problem l.cells l.known.entries.items (AreListsMade (g.S.Conditions.IsMade l.s) l.each.items) (λ v. AreMembersOf g.S.Conditions.holds l.s v l.b l.members (drop l.member-index l.members) l.each.items)

abbrev pub invariant-sum_of-loop-signed : goal.invariant-sum_of-loop-signed
invariant-sum_of-loop-signed g l =
    Gathering g.S.Conditions.IsMade g.S.Conditions.holds g.S.Conditions.room l.fn.s l.s l.problem l.cells l.known.entries.items (AreOffersMade (g.S.Conditions.IsMade l.s) l.sum.items) (λ v. IsSumOf g.S.Conditions.holds l.fn.s l.s v l.b l.fn.first.items l.more (drop l.signed-index l.more) l.sum.items)
