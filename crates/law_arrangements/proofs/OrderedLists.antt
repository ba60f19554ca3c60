-- Where no element is idle, the lists have a function for each element with bits and for each demand.
use Rattle.std.proofs.Common.{◌≡◌, ℕ, List, ◌++◌, map, length, ap, Some, None}
use Rattle.law_obligations.specs.Obligations.{obligation}
use Rattle.law_obligations.specs.Cones.{AbsElement}
use Rattle.law_obligations.specs.Readings.{PosedCase}
use Rattle.smv_rings.specs.Lists.{Lists}
use Rattle.law_reports.specs.CaseLists.{moving_first, claims, before_in_step}
use Rattle.law_arrangements.specs.Orders.{wired}
use Rattle.law_arrangements.specs.ArrangedLists.{old_view, new_view, met_first, met_step, element_first, element_step, slots_over, lists_over}
use Rattle.law_arrangements.proofs.Declared.{filter_all}

module _ (c : PosedCase) (order : List ℕ) (done : List AbsElement) where
  -- the lists, function by function
  abbrev pub wired_lists : Lists
  wired_lists = record {
    now_first = map (element_first c (wired order done)) (slots_over c (wired order done)) ++ map (met_first c (wired order done)) (claims c c.problem.now);
    before_first = map (met_first c (wired order done)) c.problem.before;
    broken_first = λ a. (obligation c.problem).broken None (old_view c (wired order done) a);
    now_step = map (element_step c (wired order done)) (moving_first c.problem.now (slots_over c (wired order done))) ++ map (met_step c (wired order done)) (claims c c.problem.now);
    before_step = map (met_step c (wired order done)) (before_in_step c);
    broken_step = λ a. (obligation c.problem).broken (Some (old_view c (wired order done) a)) (new_view c (wired order done) a);
    bits = length order;
  }

  pub lists_wired : lists_over c (wired order done) ≡ wired_lists
  unfolding lists_over
  lists_wired = λ i. record {
    now_first = map (element_first c (wired order done)) (slots_over c (wired order done)) ++ map (met_first c (wired order done)) (claims c c.problem.now);
    before_first = ap (map (met_first c (wired order done))) (filter_all c.problem.before) i;
    broken_first = λ a. (obligation c.problem).broken None (old_view c (wired order done) a);
    now_step = map (element_step c (wired order done)) (moving_first c.problem.now (slots_over c (wired order done))) ++ map (met_step c (wired order done)) (claims c c.problem.now);
    before_step = ap (map (met_step c (wired order done))) (filter_all (before_in_step c)) i;
    broken_step = λ a. (obligation c.problem).broken (Some (old_view c (wired order done) a)) (new_view c (wired order done) a);
    bits = length order;
  }
