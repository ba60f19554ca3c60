use Rattle.std.proofs.Common.{ℕ, false, refl, sym, ◌∙◌}
use Rattle.bdd_store.specs.Diagram.{table}
use Rattle.memo_table.specs.Results.{same_pair}
use Rattle.bdd_ops.specs.Memo.{Implies}
use Rattle.bdd_ops.proofs.MemoLaws.{pair_test}
use Rattle.bdd_ops.proofs.KnownLaws.{all_put, imp_both, imp_const}
use Rattle.bdd_ops.proofs.questions.+implies_from.Goals as goal

pub returns-in-Some-is_constant-clause-means : goal.returns-in-Some-is_constant-clause-means
returns-in-Some-is_constant-clause-means t c =
    imp_const (table c.args.store.now c.args.f) (table c.args.store.now c.args.g) c.in-Some-is_constant.x c.in-Some-is_constant.ensures.some (c.in_default.ensures.none false)

pub returns-then-contains-clause-means : goal.returns-then-contains-clause-means
returns-then-contains-clause-means t c = (λ e. c.requires.known (c.args.f, c.args.g) (sym c.contains.ensures ∙ c.if-contains.true), λ imp. refl)

-- both branches imply
implied : (t : ℕ) (c : goal.In_ok-insert t) → Implies c.args.store.now c.args.f c.args.g
implied t c =
    let d = c.args.store.now in
    imp_both c.min-var.result (table d c.args.f) (table d c.args.g) (table d c.split.result.0) (table d c.split.result.1) (table d c.split-2.result.0) (table d c.split-2.result.1)
    c.split.ensures.low_table c.split.ensures.high_table c.split-2.ensures.low_table c.split-2.ensures.high_table
    (c.in_ok-low.ensures.means.0 c.if-not-low.false) (c.in_ok-high.ensures.means.0 c.if-not-high.false)

pub returns-clause-means : goal.returns-clause-means
returns-clause-means t c = (λ e. implied t c, λ imp. refl)

pub returns-clause-known : goal.returns-clause-known
returns-clause-known t c =
    all_put same_pair pair_test (λ p. Implies c.args.store.now p.0 p.1) c.implies_from-2.new.known c.insert.new.self (c.args.f, c.args.g) c.in_ok-insert.ensures.updates c.in_ok-high.ensures.known (implied t c)
