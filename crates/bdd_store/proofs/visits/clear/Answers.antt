use Rattle.std.proofs.Common.{◌≡◌, [], ◌++◌, length, take, drop, sym, ◌∙◌, ap, subst, arith}
use Rattle.std.proofs.Math.Seq.{take-append_seam}
use Rattle.bdd_store.specs.Seen.{SeenIs}
use Rattle.bdd_store.proofs.Seen.{none_set}
use Rattle.bdd_store.proofs.visits.clear.Goals as goal

pub returns-clause-clear : goal.returns-clause-clear
returns-clause-clear c =
    let xs = c.loop-flag.flag-items in
    let len : length xs ≡ c.args.seen.now.len = omega (arith, c.loop-flag.auto.flag-items, c.deref_mut-flag-items.ensures.value, c.deref_mut-flag-items.ensures.len, c.args.seen.now.ok.0) in
    let ys = drop (length xs) c.args.seen.now.items in
    let whole : take c.args.seen.now.len (xs ++ ys) ≡ xs = ap (λ k. take k (xs ++ ys)) (sym len) ∙ take-append_seam xs ys in
    subst (λ l. SeenIs l []) (sym whole) (none_set xs (λ k lt. c.loop-flag.invariant k (omega (arith, lt, c.loop-flag.auto.flag-items, c.loop-flag-test.false))))
