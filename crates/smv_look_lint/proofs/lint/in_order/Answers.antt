use Rattle.std.proofs.Common.{rules}
use Rattle.std.proofs.lemmas.List.Sorted.{IsNonDecreasingBy-from_sort_by_key, answers_always}
use Rattle.smv_look_lint.specs.declared.warnings.Warning.{Warning}
use Rattle.smv_look_lint.proofs.SortLaws.{sorted}
use Rattle.smv_look_lint.proofs.lint.in_order.Goals as goal

pub returns : goal.returns
returns c =
    let key = λ (w : Warning). w.at in
    let up = IsNonDecreasingBy-from_sort_by_key key _ c.in_ok-sort_by_key.ensures.sorted (λ a r q k. search rules) in
    let stable = c.sort_by_key.ensures.stable key (answers_always _ _ _ (λ f a r g h. search rules)) in
    sorted c.args.warnings.items c.sort_by_key.new.self.items up stable
