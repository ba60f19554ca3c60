use Rattle.std.proofs.Common.{◌≡◌, rules, filter, reverse, ap, ◌∙◌}
use Rattle.std.specs.List.Sorted.{IsNonDecreasingBy, IsStableBy, ties}
use Rattle.std.specs.Ordering.{is_lt, nat_cmp}
use Rattle.std.proofs.lemmas.List.Sorted.{IsNonDecreasingBy-from_sort_by_key, answers_always}
use Rattle.smv_loops.specs.declared.reading.Held.{Held}
use Rattle.smv_loops.specs.Held.{reading_of}
use Rattle.smv_loops.proofs.SortLaws.{sorted-is-order, stable-at}
use Rattle.smv_loops.proofs.order.in_flat_order.Goals as goal

pub returns : goal.returns
returns c =
    let key = λ (h : Held). h.place in
    let up : IsNonDecreasingBy key c.sort_by_key.new.self.items = IsNonDecreasingBy-from_sort_by_key key _ c.in_ok-sort_by_key.ensures.sorted (λ a r q k. search rules) in
    let stable : IsStableBy (λ (a b : Held). is_lt (nat_cmp a.place b.place)) c.reverse.new.self.items c.sort_by_key.new.self.items = c.in_ok-sort_by_key.ensures.stable key (answers_always _ (λ a r. r ≡ key a.0.now) _ (λ f a r q k. search rules)) in
    sorted-is-order reading_of c.args.held.items c.sort_by_key.new.self.items up (stable-at reading_of c.sort_by_key.new.self.items (reverse c.args.held.items) (λ x. stable x ∙ ap (filter (ties (λ (a b : Held). is_lt (nat_cmp a.place b.place)) x)) c.reverse.ensures.items))
