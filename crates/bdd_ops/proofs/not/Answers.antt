use Rattle.std.proofs.Common.{◌≡◌, ℕ, Bool, not, true, IfOk, sym, subst, ◌∙◌, ap}
use Rattle.bdd_store.specs.Diagram.{table}
use Rattle.bdd_ops.specs.Memo.{changed}
use Rattle.bdd_ops.proofs.Tables.{if_ok_then, no_change}
use Rattle.bdd_ops.proofs.not.Goals as goal

pub returns-clause-table : goal.returns-clause-table
returns-clause-table c =
    let e = c.change-answer.new.store in
    let r = c.change-answer.result in
    let f = c.args.f in
    let here = if_ok_then r (λ r. (a : ℕ → Bool) → table e r a ≡ changed 0 true (table c.lend-known.new.self f) a) (λ r. (a : ℕ → Bool) → table e r a ≡ not (table c.lend-known.new.self f a))
    (λ r is a. is a ∙ ap (λ b. not (table c.lend-known.new.self f b)) (no_change a)) c.change-answer.ensures.table in
    subst (λ s. IfOk r (λ r. (a : ℕ → Bool) → table s r a ≡ not (table c.args.store.now f a))) (sym c.take_back.ensures)
    (subst (λ s. IfOk r (λ r. (a : ℕ → Bool) → table e r a ≡ not (table s f a))) c.lend-known.ensures.same here)
