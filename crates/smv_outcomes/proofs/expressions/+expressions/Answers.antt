use Rattle.std.proofs.Common.{◌≡◌, ◌∷◌, [], ◌+◌, List, drop, arith, refl, sym, ap, ◌∙◌, subst}
use Rattle.std.proofs.lemmas.Grind.{common_steps}
use Rattle.smv_core.specs.declared.flat.FlatExpr.{FlatExpr, All, Any}
use Rattle.smv_core.specs.declared.flat.FlatMember.{FlatMember}
use Rattle.smv_core.specs.declared.flat.FlatSigned.{FlatSigned}
use Rattle.smv_spots.specs.declared.spots.Spot.{Spot}
use Rattle.smv_conditions.specs.Chain.{AllMade}
use Rattle.smv_conditions.specs.Offers.{AreOffersMade}
use Rattle.smv_cells.proofs.SeenLaws.{keeps_same, keeps_trans, cells_kept, seen_on}
use Rattle.smv_outcome_lists.specs.Lists.{AreListsMade}
use Rattle.smv_outcome_lists.proofs.ListLaws.{lists_kept}
use Rattle.smv_outcome_lists.proofs.CombinedLaws.{chances_kept}
use Rattle.smv_outcomes.specs.Outcomes.{AreTruthsOf, AreTruthsAlong, AreListsOf, AreMembersOf, IsSumOf}
use Rattle.smv_outcomes.proofs.ExpressionLaws.{truth_is, offers_are, number_of, loop_of, var_of, constant_of, not_of_it, and_of_them, or_of_them, implied_of_them, iff_of_it, compare_of_it, choose_of_it, modulo_of_it, none_of_list, none_of_each, slice_made}
use Rattle.smv_outcomes.proofs.GatherLaws.{chances_shown, chances_pushed, lists_pushed, truths_begin, along_begins, lists_begin, members_begin, sum_begins, truths_go, along_goes, lists_go, members_go, member_pushed, sum_goes}
use Rattle.smv_outcomes.proofs.ElementLaws.{read_of_it, sum_of_it}
use Rattle.smv_outcomes.proofs.SetLaws.{members_listed, no_members, numbers_added, within_of_it}
use Rattle.smv_outcomes.proofs.QuantifierLaws.{may_shown, all_of_it, any_of_it}
use Rattle.smv_outcomes.proofs.AlikeLaws.{no_bindings, alike_made, alike_along, alike_behind, along_shown}
use Rattle.smv_outcomes.proofs.KnownLaws.{known_kept, seen_before, found_made, found_is, known_more}
use Rattle.smv_outcomes.proofs.expressions.+expressions.Goals as goal

pub may_anew-returns-in_ok-m-in-Number-clause-is : goal.may_anew-returns-in_ok-m-in-Number-clause-is
may_anew-returns-in_ok-m-in-Number-clause-is g t c v h = number_of _ _ v _ _ _ _ _ c.in-Number.is c.in_ok-m-in-Number.ensures.offers

pub may_anew-returns-in_ok-m-in-Loop-clause-is : goal.may_anew-returns-in_ok-m-in-Loop-clause-is
may_anew-returns-in_ok-m-in-Loop-clause-is g t c v h = loop_of _ _ v _ _ _ _ _ c.in-Loop.is c.in_ok-m-in-Loop.ensures.offers

pub may_anew-returns-in_ok-m-in-Var-clause-is : goal.may_anew-returns-in_ok-m-in-Var-clause-is
may_anew-returns-in_ok-m-in-Var-clause-is g t c v h = var_of _ _ v _ _ _ _ _ _ c.in-Var.is c.variable.ensures c.in_ok-m-in-Var.ensures.offers

pub may_anew-returns-in_ok-m-in-Constant-clause-is : goal.may_anew-returns-in_ok-m-in-Constant-clause-is
may_anew-returns-in_ok-m-in-Constant-clause-is g t c v h = constant_of _ _ v _ _ _ _ _ _ _ c.in-Constant.is (c.constant_at.ensures v.world h.world) c.in_ok-m-in-Constant.ensures.offers

pub may_anew-returns-in_ok-offers-in-Read-clause-is : goal.may_anew-returns-in_ok-offers-in-Read-clause-is
may_anew-returns-in_ok-offers-in-Read-clause-is g t c v h =
    read_of_it _ _ _ _ _ v (seen_on _ _ _ _ _ _ _ v c.in_ok-uss-in-Read.ensures.keeps c.requires.cells_made h) _ _ _ _ _ _ _ _ _ _ c.in-Read.is c.as_slice.ensures c.as_slice-in-Read.ensures.value (c.in_ok-uss-in-Read.ensures.are v h) (λ p a. c.in_ok-offers-in-Read.ensures.any v.world h.world p a) c.valued.ensures

pub may_anew-returns-in_ok-x-in-Not-clause-is : goal.may_anew-returns-in_ok-x-in-Not-clause-is
may_anew-returns-in_ok-x-in-Not-clause-is g t c v h = not_of_it _ _ v _ _ _ _ _ _ _ c.in-Not.is c.get.ensures (c.in_ok-x-in-Not.ensures.is v h) c.negated.ensures.no c.negated.ensures.yes c.negated.ensures.neither

pub may_anew-returns-in_ok-x-in-And-clause-is : goal.may_anew-returns-in_ok-x-in-And-clause-is
may_anew-returns-in_ok-x-in-And-clause-is g t c v h = and_of_them _ _ _ v h.view _ _ _ _ _ _ _ c.in-And.is c.as_slice-in-And.ensures c.as_slice-in-And-2.ensures.value (c.in_ok-each-in-And.ensures.are v h) c.in_ok-x-in-And.ensures.mix

pub may_anew-returns-in_ok-x-in-And-clause-cells : goal.may_anew-returns-in_ok-x-in-And-clause-cells
may_anew-returns-in_ok-x-in-And-clause-cells g t c = cells_kept _ _ _ _ _ _ c.in_ok-x-in-And.ensures.keeps c.in_ok-each-in-And.ensures.cells

pub may_anew-returns-in_ok-x-in-Or-clause-is : goal.may_anew-returns-in_ok-x-in-Or-clause-is
may_anew-returns-in_ok-x-in-Or-clause-is g t c v h = or_of_them _ _ _ v h.view _ _ _ _ _ _ _ c.in-Or.is c.as_slice-in-Or.ensures c.as_slice-in-Or-2.ensures.value (c.in_ok-each-in-Or.ensures.are v h) c.in_ok-x-in-Or.ensures.mix

pub may_anew-returns-in_ok-x-in-Or-clause-cells : goal.may_anew-returns-in_ok-x-in-Or-clause-cells
may_anew-returns-in_ok-x-in-Or-clause-cells g t c = cells_kept _ _ _ _ _ _ c.in_ok-x-in-Or.ensures.keeps c.in_ok-each-in-Or.ensures.cells

pub may_anew-returns-in_ok-x-in-Implies-clause-is : goal.may_anew-returns-in_ok-x-in-Implies-clause-is
may_anew-returns-in_ok-x-in-Implies-clause-is g t c v h = implied_of_them _ _ _ v h.view _ _ _ _ _ _ _ c.in-Implies.is c.as_slice-in-Implies.ensures c.as_slice-in-Implies-2.ensures.value (c.in_ok-each-in-Implies.ensures.are v h) c.in_ok-x-in-Implies.ensures.mix

pub may_anew-returns-in_ok-x-in-Implies-clause-cells : goal.may_anew-returns-in_ok-x-in-Implies-clause-cells
may_anew-returns-in_ok-x-in-Implies-clause-cells g t c = cells_kept _ _ _ _ _ _ c.in_ok-x-in-Implies.ensures.keeps c.in_ok-each-in-Implies.ensures.cells

pub may_anew-returns-in_ok-z-in-Iff-clause-is : goal.may_anew-returns-in_ok-z-in-Iff-clause-is
may_anew-returns-in_ok-z-in-Iff-clause-is g t c v h =
    iff_of_it _ _ _ _ _ _ v h.view _ _ _ _ _ _ _ _ _ c.in-Iff.is c.get-in-Iff.ensures c.get-in-Iff-2.ensures c.in_ok-y-in-Iff.ensures.keeps c.in_ok-x-in-Iff.ensures.made (c.in_ok-x-in-Iff.ensures.is v h) (c.in_ok-y-in-Iff.ensures.is v (seen_on _ _ _ _ _ _ _ v c.in_ok-x-in-Iff.ensures.keeps c.requires.cells_made h)) c.in_ok-z-in-Iff.ensures.mix

pub may_anew-returns-in_ok-z-in-Iff-clause-cells : goal.may_anew-returns-in_ok-z-in-Iff-clause-cells
may_anew-returns-in_ok-z-in-Iff-clause-cells g t c = cells_kept _ _ _ _ _ _ c.in_ok-z-in-Iff.ensures.keeps c.in_ok-y-in-Iff.ensures.cells

pub may_anew-returns-in_ok-z-in-Compare-clause-is : goal.may_anew-returns-in_ok-z-in-Compare-clause-is
may_anew-returns-in_ok-z-in-Compare-clause-is g t c v h =
    compare_of_it _ _ _ _ _ _ v _ _ _ _ _ _ _ _ _ _ _ _ c.in-Compare.is c.get-in-Compare.ensures c.get-in-Compare-2.ensures c.as_slice-in-Compare.ensures.value c.as_slice-in-Compare-2.ensures.value c.in_ok-vs-in-Compare.ensures.keeps c.in_ok-us-in-Compare.ensures.made
    (c.in_ok-us-in-Compare.ensures.are v h) (c.in_ok-vs-in-Compare.ensures.are v (seen_on _ _ _ _ _ _ _ v c.in_ok-us-in-Compare.ensures.keeps c.requires.cells_made h)) (c.in_ok-z-in-Compare.ensures.mix v.world h.world)

pub may_anew-returns-in_ok-z-in-Compare-clause-cells : goal.may_anew-returns-in_ok-z-in-Compare-clause-cells
may_anew-returns-in_ok-z-in-Compare-clause-cells g t c = cells_kept _ _ _ _ _ _ c.in_ok-z-in-Compare.ensures.keeps c.in_ok-vs-in-Compare.ensures.cells

pub may_anew-compared_lists-requires-clause-us_made : goal.may_anew-compared_lists-requires-clause-us_made
may_anew-compared_lists-requires-clause-us_made g t c = slice_made _ _ _ _ _ _ _ c.as_slice-in-Compare.ensures.value c.in_ok-vs-in-Compare.ensures.keeps c.in_ok-us-in-Compare.ensures.made

pub may_anew-returns-in_ok-z-in-Within-clause-is : goal.may_anew-returns-in_ok-z-in-Within-clause-is
may_anew-returns-in_ok-z-in-Within-clause-is g t c v h =
    within_of_it _ _ _ _ _ _ v h.view _ _ _ _ _ _ _ _ _ _ _ c.in-Within.is c.get-in-Within.ensures c.get-in-Within-2.ensures c.as_slice-in-Within.ensures.value c.as_slice-in-Within-2.ensures.value c.in_ok-vss-in-Within.ensures.keeps c.in_ok-us-in-Within.ensures.made
    (c.in_ok-us-in-Within.ensures.are v h) (c.in_ok-vss-in-Within.ensures.are v (seen_on _ _ _ _ _ _ _ v c.in_ok-us-in-Within.ensures.keeps c.requires.cells_made h)) (c.in_ok-z-in-Within.ensures.mix v.world h.world)

pub may_anew-returns-in_ok-z-in-Within-clause-cells : goal.may_anew-returns-in_ok-z-in-Within-clause-cells
may_anew-returns-in_ok-z-in-Within-clause-cells g t c = cells_kept _ _ _ _ _ _ c.in_ok-z-in-Within.ensures.keeps c.in_ok-vss-in-Within.ensures.cells

pub may_anew-within_of-requires-clause-us_made : goal.may_anew-within_of-requires-clause-us_made
may_anew-within_of-requires-clause-us_made g t c = slice_made _ _ _ _ _ _ _ c.as_slice-in-Within.ensures.value c.in_ok-vss-in-Within.ensures.keeps c.in_ok-us-in-Within.ensures.made

pub may_anew-returns-in_ok-sum-in-Sum-clause-is : goal.may_anew-returns-in_ok-sum-in-Sum-clause-is
may_anew-returns-in_ok-sum-in-Sum-clause-is g t c v h =
    sum_of_it _ _ _ v _ _ _ _ _ _ _ _ _ _ c.in-Sum.is c.get-in-Sum.ensures c.as_slice-in-Sum.ensures refl (c.in_ok-us-in-Sum.ensures.are v h) (c.in_ok-sum-in-Sum.ensures.is v (seen_on _ _ _ _ _ _ _ v c.in_ok-us-in-Sum.ensures.keeps c.requires.cells_made h)) c.valued-in-Sum.ensures

pub may_anew-returns-in_ok-rest-in-Modulo-clause-is : goal.may_anew-returns-in_ok-rest-in-Modulo-clause-is
may_anew-returns-in_ok-rest-in-Modulo-clause-is g t c v h = modulo_of_it _ _ _ v _ _ _ _ _ _ _ _ _ c.in-Modulo.is c.get-in-Modulo.ensures c.as_slice-in-Modulo.ensures.value (c.in_ok-us-in-Modulo.ensures.are v h) c.in_ok-rest-in-Modulo.ensures.any _ c.valued-in-Modulo.ensures

pub may_anew-returns-in_ok-rest-in-Modulo-clause-cells : goal.may_anew-returns-in_ok-rest-in-Modulo-clause-cells
may_anew-returns-in_ok-rest-in-Modulo-clause-cells g t c = cells_kept _ _ _ _ _ _ c.in_ok-rest-in-Modulo.ensures.keeps c.in_ok-us-in-Modulo.ensures.cells

pub may_anew-returns-in_ok-offers-in-Choose-clause-is : goal.may_anew-returns-in_ok-offers-in-Choose-clause-is
may_anew-returns-in_ok-offers-in-Choose-clause-is g t c v h =
    choose_of_it _ _ _ _ _ _ _ v _ _ _ _ _ _ _ _ _ _ _ _ _ _ c.in-Choose.is c.get-in-Choose.ensures c.get-in-Choose-2.ensures c.get-in-Choose-3.ensures c.as_slice-in-Choose.ensures.value c.as_slice-in-Choose-2.ensures.value c.in_ok-us-in-Choose.ensures.keeps c.in_ok-vs-in-Choose.ensures.keeps c.in_ok-x-in-Choose.ensures.made c.in_ok-us-in-Choose.ensures.made
    (c.in_ok-x-in-Choose.ensures.is v h) (c.in_ok-us-in-Choose.ensures.are v (seen_on _ _ _ _ _ _ _ v c.in_ok-x-in-Choose.ensures.keeps c.requires.cells_made h)) (c.in_ok-vs-in-Choose.ensures.are v (seen_on _ _ _ _ _ _ _ v c.in_ok-us-in-Choose.ensures.keeps c.in_ok-x-in-Choose.ensures.cells (seen_on _ _ _ _ _ _ _ v c.in_ok-x-in-Choose.ensures.keeps c.requires.cells_made h))) c.in_ok-offers-in-Choose.ensures.any _ c.valued-in-Choose.ensures

pub may_anew-returns-in_ok-offers-in-Choose-clause-cells : goal.may_anew-returns-in_ok-offers-in-Choose-clause-cells
may_anew-returns-in_ok-offers-in-Choose-clause-cells g t c = cells_kept _ _ _ _ _ _ c.in_ok-offers-in-Choose.ensures.keeps c.in_ok-vs-in-Choose.ensures.cells

pub may_anew-chosen-requires-clause-yes_made : goal.may_anew-chosen-requires-clause-yes_made
may_anew-chosen-requires-clause-yes_made g t c = slice_made _ _ _ _ _ _ _ c.as_slice-in-Choose.ensures.value c.in_ok-vs-in-Choose.ensures.keeps c.in_ok-us-in-Choose.ensures.made

pub may_anew-returns-in_ok-m-in-List-clause-is : goal.may_anew-returns-in_ok-m-in-List-clause-is
may_anew-returns-in_ok-m-in-List-clause-is g t c v h = none_of_list _ _ v _ _ _ _ _ c.in-List.is c.in_ok-m-in-List.ensures.offers

pub may_anew-returns-in_ok-m-in-Each-clause-is : goal.may_anew-returns-in_ok-m-in-Each-clause-is
may_anew-returns-in_ok-m-in-Each-clause-is g t c v h = none_of_each _ _ v _ _ _ _ _ _ _ c.in-Each.is c.in_ok-m-in-Each.ensures.offers

pub truth_of-returns-clause-is : goal.truth_of-returns-clause-is
truth_of-returns-clause-is g t c v h = truth_is _ _ _ v _ _ _ _ (c.in_ok-m.ensures.is v h) c.in_ok-x.ensures.mix

pub truth_of-returns-clause-cells : goal.truth_of-returns-clause-cells
truth_of-returns-clause-cells g t c = cells_kept _ _ _ _ _ _ c.in_ok-x.ensures.keeps c.in_ok-m.ensures.cells

pub offers_for-returns-clause-are : goal.offers_for-returns-clause-are
offers_for-returns-clause-are g t c v h = offers_are _ _ _ v _ _ _ _ (c.in_ok-m.ensures.is v h) c.in_ok-offers.ensures.same

pub offers_for-returns-clause-cells : goal.offers_for-returns-clause-cells
offers_for-returns-clause-cells g t c = cells_kept _ _ _ _ _ _ c.in_ok-offers.ensures.keeps c.in_ok-m.ensures.cells

pub truths_each-loop-part-init : goal.truths_each-loop-part-init
truths_each-loop-part-init g t c = record { keeps = keeps_same _ _ _ _; made = subst (AllMade _) (sym c.new-each.ensures.items) tt; cells_made = c.requires.cells_made; known = c.requires.known; is = λ v h. truths_begin _ _ v _ _ _ _ refl c.new-each.ensures.items }

pub truths_each-loop-part-preserved : goal.truths_each-loop-part-preserved
truths_each-loop-part-preserved g t c =
    let step : drop c.loop-part.part-index c.args.parts.now ≡ c.part-item.result ∷ drop (c.loop-part.part-index + 1) c.args.parts.now = grind (arith, common_steps) in
    record {
      keeps = keeps_trans _ _ _ _ _ _ c.loop-part.invariant.keeps c.in_ok-x.ensures.keeps;
      made = chances_pushed _ _ _ _ c.in_ok-push.ensures.items (chances_kept _ _ _ _ _ _ c.in_ok-x.ensures.keeps c.loop-part.invariant.made) c.in_ok-x.ensures.made;
      cells_made = c.in_ok-x.ensures.cells;
      known = c.in_ok-x.ensures.known;
      is = λ v h. truths_go _ _ _ _ _ v c.in_ok-x.ensures.keeps _ _ _ _ _ _ _ _ step c.in_ok-push.ensures.items c.loop-part.invariant.made (c.loop-part.invariant.is v h) (c.in_ok-x.ensures.is v (seen_on _ _ _ _ _ _ _ v c.loop-part.invariant.keeps c.requires.cells_made h));
    }

pub truths_each-returns-in_err-x-clause-keeps : goal.truths_each-returns-in_err-x-clause-keeps
truths_each-returns-in_err-x-clause-keeps g t c = keeps_trans _ _ _ _ _ _ c.loop-part.invariant.keeps c.truth_of.ensures.keeps

pub truths_each-returns-in_err-push-clause-keeps : goal.truths_each-returns-in_err-push-clause-keeps
truths_each-returns-in_err-push-clause-keeps g t c = keeps_trans _ _ _ _ _ _ c.loop-part.invariant.keeps c.in_ok-x.ensures.keeps

pub truths_each-returns-clause-keeps : goal.truths_each-returns-clause-keeps
truths_each-returns-clause-keeps g t c = c.loop-part.invariant.keeps

pub truths_each-returns-clause-made : goal.truths_each-returns-clause-made
truths_each-returns-clause-made g t c = c.loop-part.invariant.made

pub truths_each-returns-clause-cells : goal.truths_each-returns-clause-cells
truths_each-returns-clause-cells g t c = c.loop-part.invariant.cells_made

pub truths_apart-returns-in_err-x-clause-keeps : goal.truths_apart-returns-in_err-x-clause-keeps
truths_apart-returns-in_err-x-clause-keeps g t c = keeps_trans _ _ _ _ _ _ c.loop-inner.invariant.keeps c.truth_of.ensures.keeps

pub truths_apart-returns-in_err-push-clause-keeps : goal.truths_apart-returns-in_err-push-clause-keeps
truths_apart-returns-in_err-push-clause-keeps g t c = keeps_trans _ _ _ _ _ _ c.loop-inner.invariant.keeps c.in_ok-x.ensures.keeps

pub truths_apart-returns-clause-keeps : goal.truths_apart-returns-clause-keeps
truths_apart-returns-clause-keeps g t c = c.loop-inner.invariant.keeps

pub truths_apart-returns-clause-made : goal.truths_apart-returns-clause-made
truths_apart-returns-clause-made g t c = c.loop-inner.invariant.made

pub truths_apart-returns-clause-cells : goal.truths_apart-returns-clause-cells
truths_apart-returns-clause-cells g t c = c.loop-inner.invariant.cells_made

pub lists_each-returns-in_err-us-clause-keeps : goal.lists_each-returns-in_err-us-clause-keeps
lists_each-returns-in_err-us-clause-keeps g t c = keeps_trans _ _ _ _ _ _ c.loop-part.invariant.keeps c.offers_for.ensures.keeps

pub lists_each-returns-in_err-push-clause-keeps : goal.lists_each-returns-in_err-push-clause-keeps
lists_each-returns-in_err-push-clause-keeps g t c = keeps_trans _ _ _ _ _ _ c.loop-part.invariant.keeps c.in_ok-us.ensures.keeps

pub lists_each-returns-clause-keeps : goal.lists_each-returns-clause-keeps
lists_each-returns-clause-keeps g t c = c.loop-part.invariant.keeps

pub lists_each-returns-clause-made : goal.lists_each-returns-clause-made
lists_each-returns-clause-made g t c = c.loop-part.invariant.made

pub lists_each-returns-clause-cells : goal.lists_each-returns-clause-cells
lists_each-returns-clause-cells g t c = c.loop-part.invariant.cells_made

pub truths_each-returns-clause-are : goal.truths_each-returns-clause-are
truths_each-returns-clause-are g t c v h =
    let end : drop c.loop-part.part-index c.args.parts.now ≡ [] = grind (arith, common_steps) in
    subst (λ (rest : List FlatExpr). AreTruthsOf g.S.Conditions.holds c.loop-part.s v c.args.b.now c.args.parts.now rest c.loop-part.each.items) end (c.loop-part.invariant.is v h)

pub truths_apart-loop-inner-init : goal.truths_apart-loop-inner-init
truths_apart-loop-inner-init g t c = record { keeps = keeps_same _ _ _ _; made = subst (AllMade _) (sym c.new-each.ensures.items) tt; cells_made = c.requires.cells_made; known = c.requires.known; is = λ v h. along_begins _ _ v _ _ _ _ refl c.new-each.ensures.items }

pub truths_apart-loop-inner-preserved : goal.truths_apart-loop-inner-preserved
truths_apart-loop-inner-preserved g t c =
    let step : drop c.loop-inner.inner-index c.args.bindings.now ≡ c.inner-item.result ∷ drop (c.loop-inner.inner-index + 1) c.args.bindings.now = grind (arith, common_steps) in
    record {
      keeps = keeps_trans _ _ _ _ _ _ c.loop-inner.invariant.keeps c.in_ok-x.ensures.keeps;
      made = chances_pushed _ _ _ _ c.in_ok-push.ensures.items (chances_kept _ _ _ _ _ _ c.in_ok-x.ensures.keeps c.loop-inner.invariant.made) c.in_ok-x.ensures.made;
      cells_made = c.in_ok-x.ensures.cells;
      known = c.in_ok-x.ensures.known;
      is = λ v h. along_goes _ _ _ _ _ v c.in_ok-x.ensures.keeps _ _ _ _ _ _ _ _ _ step c.in_ok-push.ensures.items c.as_slice.ensures c.loop-inner.invariant.made (c.loop-inner.invariant.is v h) (c.in_ok-x.ensures.is v (seen_on _ _ _ _ _ _ _ v c.loop-inner.invariant.keeps c.requires.cells_made h));
    }

pub truths_apart-returns-clause-are : goal.truths_apart-returns-clause-are
truths_apart-returns-clause-are g t c v h =
    let end : drop c.loop-inner.inner-index c.args.bindings.now ≡ [] = grind (arith, common_steps) in
    subst (λ (rest : List (List Spot)). AreTruthsAlong g.S.Conditions.holds c.loop-inner.s v c.args.body.now c.args.bindings.now rest c.loop-inner.each.items) end (c.loop-inner.invariant.is v h)

pub truths_along-returns-in_default-clause-made : goal.truths_along-returns-in_default-clause-made
truths_along-returns-in_default-clause-made g t c = subst (AllMade _) (sym c.new.ensures.items) tt

pub truths_along-returns-in_default-clause-are : goal.truths_along-returns-in_default-clause-are
truths_along-returns-in_default-clause-are g t c v h = no_bindings _ _ v _ _ _ c.in_default.ensures.cases c.new.ensures.items

pub truths_along-returns-then-all_agree-clause-made : goal.truths_along-returns-then-all_agree-clause-made
truths_along-returns-then-all_agree-clause-made g t c = alike_made _ _ _ _ c.in_ok-same.ensures c.in_ok-x.ensures.made

pub truths_along-returns-then-all_agree-clause-are : goal.truths_along-returns-then-all_agree-clause-are
truths_along-returns-then-all_agree-clause-are g t c v h =
    let k = c.in-Some.ensures.cases in
    alike_along _ _ v _ _ _ _ _ _ _ _ k.0 c.as_slice-b.ensures c.as_slice-b.ensures (c.all_agree.ensures.0 c.if-all_agree.true) (c.in_ok-x.ensures.is v h) c.in_ok-same.ensures

pub truths_behind-returns-then-all_agree-clause-made : goal.truths_behind-returns-then-all_agree-clause-made
truths_behind-returns-then-all_agree-clause-made g t c = alike_made _ _ _ _ c.in_ok-same.ensures (subst (AllMade (g.S.Conditions.IsMade c.args.s.now)) c.in-Some-split_first.ensures.cases.0 c.requires.given_made).0

pub truths_behind-returns-then-all_agree-clause-are : goal.truths_behind-returns-then-all_agree-clause-are
truths_behind-returns-then-all_agree-clause-are g t c v h known =
    alike_behind _ _ v _ _ _ _ _ _ _ _ _ _ c.in-Some.ensures.cases.0 c.in-Some-split_first.ensures.cases.0 c.as_slice.ensures (c.all_agree.ensures.0 c.if-all_agree.true) known c.in_ok-same.ensures

pub lists_each-loop-part-init : goal.lists_each-loop-part-init
lists_each-loop-part-init g t c = record { keeps = keeps_same _ _ _ _; made = subst (AreListsMade _) (sym c.new-each.ensures.items) tt; cells_made = c.requires.cells_made; known = c.requires.known; is = λ v h. lists_begin _ _ v _ _ _ _ refl c.new-each.ensures.items }

pub lists_each-loop-part-preserved : goal.lists_each-loop-part-preserved
lists_each-loop-part-preserved g t c =
    let step : drop c.loop-part.part-index c.args.parts.now ≡ c.part-item.result ∷ drop (c.loop-part.part-index + 1) c.args.parts.now = grind (arith, common_steps) in
    record {
      keeps = keeps_trans _ _ _ _ _ _ c.loop-part.invariant.keeps c.in_ok-us.ensures.keeps;
      made = lists_pushed _ _ _ _ c.in_ok-push.ensures.items (lists_kept _ _ _ _ _ _ c.in_ok-us.ensures.keeps c.loop-part.invariant.made) (subst (AreOffersMade _) (sym c.from_vec.ensures) c.in_ok-us.ensures.made);
      cells_made = c.in_ok-us.ensures.cells;
      known = c.in_ok-us.ensures.known;
      is = λ v h. lists_go _ _ _ _ _ v c.in_ok-us.ensures.keeps _ _ _ _ _ _ _ _ _ step c.in_ok-push.ensures.items c.from_vec.ensures c.loop-part.invariant.made (c.loop-part.invariant.is v h) (c.in_ok-us.ensures.are v (seen_on _ _ _ _ _ _ _ v c.loop-part.invariant.keeps c.requires.cells_made h));
    }

pub lists_each-returns-clause-are : goal.lists_each-returns-clause-are
lists_each-returns-clause-are g t c v h =
    let end : drop c.loop-part.part-index c.args.parts.now ≡ [] = grind (arith, common_steps) in
    subst (λ (rest : List FlatExpr). AreListsOf g.S.Conditions.holds c.loop-part.s v c.args.b.now c.args.parts.now rest c.loop-part.each.items) end (c.loop-part.invariant.is v h)

pub members_each-loop-member-init : goal.members_each-loop-member-init
members_each-loop-member-init g t c = record { keeps = keeps_same _ _ _ _; made = subst (AreListsMade _) (sym c.new-each.ensures.items) tt; cells_made = c.requires.cells_made; known = c.requires.known; is = λ v h. members_begin _ _ v _ _ _ _ refl c.new-each.ensures.items }

pub members_each-loop-member-preserved : goal.members_each-loop-member-preserved
members_each-loop-member-preserved g t c =
    let step : drop c.loop-member.member-index c.args.members.now ≡ c.member-item.result ∷ drop (c.loop-member.member-index + 1) c.args.members.now = grind (arith, common_steps) in
    record {
      keeps = keeps_trans _ _ _ _ _ _ c.loop-member.invariant.keeps c.in_ok-add_member.ensures.keeps;
      made = c.in_ok-add_member.ensures.made;
      cells_made = c.in_ok-add_member.ensures.cells;
      known = c.in_ok-add_member.ensures.known;
      is = λ v h. members_go _ _ _ _ _ v c.in_ok-add_member.ensures.keeps _ _ _ _ _ _ _ step c.loop-member.invariant.made (c.loop-member.invariant.is v h) (c.in_ok-add_member.ensures.adds v (seen_on _ _ _ _ _ _ _ v c.loop-member.invariant.keeps c.requires.cells_made h));
    }

pub members_each-returns-in_err-add_member-clause-keeps : goal.members_each-returns-in_err-add_member-clause-keeps
members_each-returns-in_err-add_member-clause-keeps g t c = keeps_trans _ _ _ _ _ _ c.loop-member.invariant.keeps c.add_member.ensures.keeps

pub members_each-returns-clause-keeps : goal.members_each-returns-clause-keeps
members_each-returns-clause-keeps g t c = c.loop-member.invariant.keeps

pub members_each-returns-clause-made : goal.members_each-returns-clause-made
members_each-returns-clause-made g t c = c.loop-member.invariant.made

pub members_each-returns-clause-cells : goal.members_each-returns-clause-cells
members_each-returns-clause-cells g t c = c.loop-member.invariant.cells_made

pub members_each-returns-clause-are : goal.members_each-returns-clause-are
members_each-returns-clause-are g t c v h =
    let end : drop c.loop-member.member-index c.args.members.now ≡ [] = grind (arith, common_steps) in
    subst (λ (rest : List FlatMember). AreMembersOf g.S.Conditions.holds c.loop-member.s v c.args.b.now c.args.members.now rest c.loop-member.each.items) end (c.loop-member.invariant.is v h)

pub members_for-returns-in_ok-each-in-List-clause-are : goal.members_for-returns-in_ok-each-in-List-clause-are
members_for-returns-in_ok-each-in-List-clause-are g t c v h = members_listed _ _ v _ _ _ _ _ _ c.in-List.is c.as_slice.ensures (c.in_ok-each-in-List.ensures.are v h)

pub members_for-returns-in_default-clause-are : goal.members_for-returns-in_default-clause-are
members_for-returns-in_default-clause-are g t c v h = no_members _ _ v _ _ _ c.new.ensures.items c.in_default.not-List

pub add_member-returns-in_ok-push-in-One-clause-adds : goal.add_member-returns-in_ok-push-in-One-clause-adds
add_member-returns-in_ok-push-in-One-clause-adds g t c v h = member_pushed _ _ v _ _ _ _ _ _ _ _ c.in-One.is refl c.in_ok-push-in-One.ensures.items c.from_vec.ensures (c.in_ok-us-in-One.ensures.are v h)

pub add_member-returns-in_ok-add_numbers-in-Span-clause-adds : goal.add_member-returns-in_ok-add_numbers-in-Span-clause-adds
add_member-returns-in_ok-add_numbers-in-Span-clause-adds g t c v h = numbers_added _ _ v _ _ _ _ _ _ _ _ c.in-Span.is refl refl c.in_ok-add_numbers-in-Span.ensures.adds

pub sum_of-loop-signed-init : goal.sum_of-loop-signed-init
sum_of-loop-signed-init g t c = record { keeps = keeps_same _ _ _ _; made = c.requires.first_made; cells_made = c.requires.cells_made; known = c.requires.known; is = λ v h. sum_begins _ _ v _ _ _ _ _ refl refl }

pub sum_of-loop-signed-preserved : goal.sum_of-loop-signed-preserved
sum_of-loop-signed-preserved g t c =
    let step : drop c.loop-signed.signed-index c.args.more.now ≡ c.signed-item.result ∷ drop (c.loop-signed.signed-index + 1) c.args.more.now = grind (arith, common_steps) in
    record {
      keeps = keeps_trans _ _ _ _ _ _ (keeps_trans _ _ _ _ _ _ c.loop-signed.invariant.keeps c.in_ok-vs.ensures.keeps) c.in_ok-sum.ensures.keeps;
      made = c.in_ok-sum.ensures.made;
      cells_made = cells_kept _ _ _ _ _ _ c.in_ok-sum.ensures.keeps c.in_ok-vs.ensures.cells;
      known = known_kept _ _ _ _ _ _ _ _ c.in_ok-sum.ensures.keeps c.in_ok-vs.ensures.cells c.in_ok-vs.ensures.known;
      is = λ v h. sum_goes _ _ _ _ _ _ _ v c.in_ok-vs.ensures.keeps _ _ _ _ _ _ _ _ _ _ _ _ _ step refl refl c.as_slice.ensures.value c.as_slice-others.ensures.value c.loop-signed.invariant.made (c.loop-signed.invariant.is v h) (c.in_ok-vs.ensures.are v (seen_on _ _ _ _ _ _ _ v c.loop-signed.invariant.keeps c.requires.cells_made h)) c.in_ok-sum.ensures.any;
    }

pub sum_of-added_of-requires-clause-us_made : goal.sum_of-added_of-requires-clause-us_made
sum_of-added_of-requires-clause-us_made g t c = slice_made _ _ _ _ _ _ _ c.as_slice.ensures.value c.in_ok-vs.ensures.keeps c.loop-signed.invariant.made

pub sum_of-returns-in_err-vs-clause-keeps : goal.sum_of-returns-in_err-vs-clause-keeps
sum_of-returns-in_err-vs-clause-keeps g t c = keeps_trans _ _ _ _ _ _ c.loop-signed.invariant.keeps c.offers_for.ensures.keeps

pub sum_of-returns-in_err-sum-clause-keeps : goal.sum_of-returns-in_err-sum-clause-keeps
sum_of-returns-in_err-sum-clause-keeps g t c = keeps_trans _ _ _ _ _ _ (keeps_trans _ _ _ _ _ _ c.loop-signed.invariant.keeps c.in_ok-vs.ensures.keeps) c.added_of.ensures.keeps

pub sum_of-returns-clause-keeps : goal.sum_of-returns-clause-keeps
sum_of-returns-clause-keeps g t c = c.loop-signed.invariant.keeps

pub sum_of-returns-clause-made : goal.sum_of-returns-clause-made
sum_of-returns-clause-made g t c = c.loop-signed.invariant.made

pub sum_of-returns-clause-cells : goal.sum_of-returns-clause-cells
sum_of-returns-clause-cells g t c = c.loop-signed.invariant.cells_made

pub sum_of-returns-clause-is : goal.sum_of-returns-clause-is
sum_of-returns-clause-is g t c v h =
    let end : drop c.loop-signed.signed-index c.args.more.now ≡ [] = grind (arith, common_steps) in
    subst (λ (rest : List FlatSigned). IsSumOf g.S.Conditions.holds c.args.s.now c.loop-signed.s v c.args.b.now c.args.first.items c.args.more.now rest c.loop-signed.sum.items) end (c.loop-signed.invariant.is v h)

pub may_anew-returns-in_ok-offers-in-Read-clause-cells : goal.may_anew-returns-in_ok-offers-in-Read-clause-cells
may_anew-returns-in_ok-offers-in-Read-clause-cells g t c = cells_kept _ _ _ _ _ _ c.in_ok-offers-in-Read.ensures.keeps c.in_ok-uss-in-Read.ensures.cells

pub add_member-returns-in_ok-push-in-One-clause-made : goal.add_member-returns-in_ok-push-in-One-clause-made
add_member-returns-in_ok-push-in-One-clause-made g t c = lists_pushed _ _ _ _ c.in_ok-push-in-One.ensures.items (lists_kept _ _ _ _ _ _ c.in_ok-us-in-One.ensures.keeps c.requires.each_made) (subst (AreOffersMade _) (sym c.from_vec.ensures) c.in_ok-us-in-One.ensures.made)

pub may_anew-returns-in_ok-x-in-And-clause-known : goal.may_anew-returns-in_ok-x-in-And-clause-known
may_anew-returns-in_ok-x-in-And-clause-known g t c = known_kept _ _ _ _ _ _ _ _ c.in_ok-x-in-And.ensures.keeps c.in_ok-each-in-And.ensures.cells c.in_ok-each-in-And.ensures.known

pub may_anew-returns-in_ok-x-in-Or-clause-known : goal.may_anew-returns-in_ok-x-in-Or-clause-known
may_anew-returns-in_ok-x-in-Or-clause-known g t c = known_kept _ _ _ _ _ _ _ _ c.in_ok-x-in-Or.ensures.keeps c.in_ok-each-in-Or.ensures.cells c.in_ok-each-in-Or.ensures.known

pub may_anew-returns-in_ok-x-in-Implies-clause-known : goal.may_anew-returns-in_ok-x-in-Implies-clause-known
may_anew-returns-in_ok-x-in-Implies-clause-known g t c = known_kept _ _ _ _ _ _ _ _ c.in_ok-x-in-Implies.ensures.keeps c.in_ok-each-in-Implies.ensures.cells c.in_ok-each-in-Implies.ensures.known

pub may_anew-returns-in_ok-z-in-Iff-clause-known : goal.may_anew-returns-in_ok-z-in-Iff-clause-known
may_anew-returns-in_ok-z-in-Iff-clause-known g t c = known_kept _ _ _ _ _ _ _ _ c.in_ok-z-in-Iff.ensures.keeps c.in_ok-y-in-Iff.ensures.cells c.in_ok-y-in-Iff.ensures.known

pub may_anew-returns-in_ok-z-in-Compare-clause-known : goal.may_anew-returns-in_ok-z-in-Compare-clause-known
may_anew-returns-in_ok-z-in-Compare-clause-known g t c = known_kept _ _ _ _ _ _ _ _ c.in_ok-z-in-Compare.ensures.keeps c.in_ok-vs-in-Compare.ensures.cells c.in_ok-vs-in-Compare.ensures.known

pub may_anew-returns-in_ok-z-in-Within-clause-known : goal.may_anew-returns-in_ok-z-in-Within-clause-known
may_anew-returns-in_ok-z-in-Within-clause-known g t c = known_kept _ _ _ _ _ _ _ _ c.in_ok-z-in-Within.ensures.keeps c.in_ok-vss-in-Within.ensures.cells c.in_ok-vss-in-Within.ensures.known

pub may_anew-returns-in_ok-rest-in-Modulo-clause-known : goal.may_anew-returns-in_ok-rest-in-Modulo-clause-known
may_anew-returns-in_ok-rest-in-Modulo-clause-known g t c = known_kept _ _ _ _ _ _ _ _ c.in_ok-rest-in-Modulo.ensures.keeps c.in_ok-us-in-Modulo.ensures.cells c.in_ok-us-in-Modulo.ensures.known

pub may_anew-returns-in_ok-offers-in-Choose-clause-known : goal.may_anew-returns-in_ok-offers-in-Choose-clause-known
may_anew-returns-in_ok-offers-in-Choose-clause-known g t c = known_kept _ _ _ _ _ _ _ _ c.in_ok-offers-in-Choose.ensures.keeps c.in_ok-vs-in-Choose.ensures.cells c.in_ok-vs-in-Choose.ensures.known

pub truth_of-returns-clause-known : goal.truth_of-returns-clause-known
truth_of-returns-clause-known g t c = known_kept _ _ _ _ _ _ _ _ c.in_ok-x.ensures.keeps c.in_ok-m.ensures.cells c.in_ok-m.ensures.known

pub offers_for-returns-clause-known : goal.offers_for-returns-clause-known
offers_for-returns-clause-known g t c = known_kept _ _ _ _ _ _ _ _ c.in_ok-offers.ensures.keeps c.in_ok-m.ensures.cells c.in_ok-m.ensures.known

pub truths_each-returns-clause-known : goal.truths_each-returns-clause-known
truths_each-returns-clause-known g t c = c.loop-part.invariant.known

pub truths_apart-returns-clause-known : goal.truths_apart-returns-clause-known
truths_apart-returns-clause-known g t c = c.loop-inner.invariant.known

pub lists_each-returns-clause-known : goal.lists_each-returns-clause-known
lists_each-returns-clause-known g t c = c.loop-part.invariant.known

pub members_each-returns-clause-known : goal.members_each-returns-clause-known
members_each-returns-clause-known g t c = c.loop-member.invariant.known

pub sum_of-returns-clause-known : goal.sum_of-returns-clause-known
sum_of-returns-clause-known g t c = c.loop-signed.invariant.known

pub may_anew-returns-in_ok-offers-in-Read-clause-known : goal.may_anew-returns-in_ok-offers-in-Read-clause-known
may_anew-returns-in_ok-offers-in-Read-clause-known g t c = known_kept _ _ _ _ _ _ _ _ c.in_ok-offers-in-Read.ensures.keeps c.in_ok-uss-in-Read.ensures.cells c.in_ok-uss-in-Read.ensures.known

pub may_once-returns-in-Some-clause-made : goal.may_once-returns-in-Some-clause-made
may_once-returns-in-Some-clause-made g t c = found_made _ _ _ _ _ _ _ _ _ c.in-Some.ensures c.requires.known

pub may_once-returns-in-Some-clause-is : goal.may_once-returns-in-Some-clause-is
may_once-returns-in-Some-clause-is g t c v h = found_is _ _ _ _ _ _ _ _ _ c.in-Some.ensures c.requires.known v h

pub may_once-returns-clause-known : goal.may_once-returns-clause-known
may_once-returns-clause-known g t c =
    known_more _ _ _ _ _ _ _ _ _ _ c.in_ok-remember.ensures c.in_ok-m.ensures.made (λ v h. c.in_ok-m.ensures.is v (seen_before _ _ _ _ _ _ _ v c.in_ok-m.ensures.keeps c.requires.cells_made h)) c.in_ok-m.ensures.known

pub may_anew-returns-in_ok-z-in-All-clause-is : goal.may_anew-returns-in_ok-z-in-All-clause-is
may_anew-returns-in_ok-z-in-All-clause-is g t c v h = may_shown _ _ v _ _ _ _ (c.in-All.is ∙ ap (λ x. All x c.in-All.var c.in-All.over c.in-All.at) (sym c.get-in-All.ensures)) (c.in_ok-z-in-All.ensures.is v h c.in-All.at)

pub all_over-returns-clause-is : goal.all_over-returns-clause-is
all_over-returns-clause-is g t c v h at =
    all_of_it _ _ _ _ _ _ v h.view c.in_ok-others.ensures.keeps _ _ _ _ _ _ _ _ _ _ _ _ _ _ _ _ _ refl refl c.as_slice-bindings.ensures.value c.as_slice.ensures.value c.as_slice-given.ensures.value c.as_slice-2.ensures.value
    (c.in_ok-named.ensures v.world h.world) (c.in_ok-rests.ensures v.world h.world) c.in_ok-each.ensures.made (c.in_ok-each.ensures.are v h) (c.in_ok-others.ensures.are v (seen_on _ _ _ _ _ _ _ v c.in_ok-each.ensures.keeps c.requires.cells_made h)
    (along_shown _ _ v _ _ _ _ _ _ _ _ refl refl refl refl c.as_slice-given.ensures.value (c.in_ok-each.ensures.are v h))) refl c.in_ok-z.ensures.mix

pub all_over-returns-clause-cells : goal.all_over-returns-clause-cells
all_over-returns-clause-cells g t c = cells_kept _ _ _ _ _ _ c.in_ok-z.ensures.keeps c.in_ok-others.ensures.cells

pub all_over-returns-clause-known : goal.all_over-returns-clause-known
all_over-returns-clause-known g t c = known_kept _ _ _ _ _ _ _ _ c.in_ok-z.ensures.keeps c.in_ok-others.ensures.cells c.in_ok-others.ensures.known

pub all_over-all_of-requires-clause-named_made : goal.all_over-all_of-requires-clause-named_made
all_over-all_of-requires-clause-named_made g t c = chances_shown _ _ _ _ _ _ _ c.as_slice-given.ensures.value c.in_ok-others.ensures.keeps c.in_ok-each.ensures.made

pub may_anew-returns-in_ok-z-in-Any-clause-is : goal.may_anew-returns-in_ok-z-in-Any-clause-is
may_anew-returns-in_ok-z-in-Any-clause-is g t c v h = may_shown _ _ v _ _ _ _ (c.in-Any.is ∙ ap (λ x. Any x c.in-Any.var c.in-Any.over c.in-Any.at) (sym c.get-in-Any.ensures)) (c.in_ok-z-in-Any.ensures.is v h c.in-Any.at)

pub any_over-returns-clause-is : goal.any_over-returns-clause-is
any_over-returns-clause-is g t c v h at =
    any_of_it _ _ _ _ _ _ v h.view c.in_ok-others.ensures.keeps _ _ _ _ _ _ _ _ _ _ _ _ _ _ _ _ _ refl refl c.as_slice-bindings.ensures.value c.as_slice.ensures.value c.as_slice-given.ensures.value c.as_slice-2.ensures.value
    (c.in_ok-named.ensures v.world h.world) (c.in_ok-rests.ensures v.world h.world) c.in_ok-each.ensures.made (c.in_ok-each.ensures.are v h) (c.in_ok-others.ensures.are v (seen_on _ _ _ _ _ _ _ v c.in_ok-each.ensures.keeps c.requires.cells_made h)
    (along_shown _ _ v _ _ _ _ _ _ _ _ refl refl refl refl c.as_slice-given.ensures.value (c.in_ok-each.ensures.are v h))) refl c.in_ok-z.ensures.mix

pub any_over-returns-clause-cells : goal.any_over-returns-clause-cells
any_over-returns-clause-cells g t c = cells_kept _ _ _ _ _ _ c.in_ok-z.ensures.keeps c.in_ok-others.ensures.cells

pub any_over-returns-clause-known : goal.any_over-returns-clause-known
any_over-returns-clause-known g t c = known_kept _ _ _ _ _ _ _ _ c.in_ok-z.ensures.keeps c.in_ok-others.ensures.cells c.in_ok-others.ensures.known

pub any_over-any_of-requires-clause-named_made : goal.any_over-any_of-requires-clause-named_made
any_over-any_of-requires-clause-named_made g t c = chances_shown _ _ _ _ _ _ _ c.as_slice-given.ensures.value c.in_ok-others.ensures.keeps c.in_ok-each.ensures.made
