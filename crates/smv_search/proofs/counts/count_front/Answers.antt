use Rattle.std.proofs.Common.{◌≡◌, ◌≤◌, ◌∙◌, ℕ, subst, arith}
use Rattle.smv_search.specs.Keeping.{beads_of}
use Rattle.smv_search.proofs.Keep.{beads_are}
use Rattle.smv_search.proofs.counts.count_front.Goals as goal

pub returns-then-held-nodes : goal.returns-then-held-nodes
returns-then-held-nodes c =
    let most : beads_of c.args.store.now c.args.front.now ≤ c.held.result = subst (λ (n : ℕ). n ≤ c.held.result) (beads_are c.args.store.now c.args.front.now) (c.held.ensures.most c.args.front.now c.requires.live) in
    record { count = omega arith }

pub returns-then-count-nodes : goal.returns-then-count-nodes
returns-then-count-nodes c =
    let e : c.in_ok-count.count ≡ beads_of c.args.store.now c.args.front.now = c.in_ok-count.ensures ∙ beads_are c.args.store.now c.args.front.now in
    record { count = (omega arith, omega (arith, e, c.min-told.ensures, c.most_told.ensures)) }

pub returns : goal.returns
returns c =
    let e : c.in_ok-count.count ≡ beads_of c.args.store.now c.args.front.now = c.in_ok-count.ensures ∙ beads_are c.args.store.now c.args.front.now in
    record { count = omega arith }
