use Rattle.std.proofs.Common.{rules, ℕ, subst}
use Rattle.std.specs.Ordering.{nat_cmp}
use Rattle.std.specs.List.Sorted.{IsStableByKey}
use Rattle.std.proofs.lemmas.List.Sorted.{IsNonDecreasingBy-from_sort_by_key, answers_always}
use Rattle.smv_plans.proofs.SortLaws.{sorted}
use Rattle.smv_plans.proofs.units.in_order.Goals as goal

pub returns : goal.returns
returns c =
    let key = λ (x : ℕ × Rattle.smv_core.specs.declared.flat.Unit.Unit). x.0 in
    let up = IsNonDecreasingBy-from_sort_by_key key _ c.in_ok-sort_by_key.ensures.sorted (λ a r q k. search rules) in
    let stable = c.sort_by_key.ensures.stable key (answers_always _ _ _ (λ f a r g h. search rules)) in
    sorted c.args.found.items c.sort_by_key.new.self.items up (subst (λ l. IsStableByKey key nat_cmp l c.sort_by_key.new.self.items) c.reverse.ensures.items stable)
