use Rattle.std.proofs.Common.{◌≡◌, ◌∙◌, sym, ap, subst, arith}
use Rattle.bdd_store.specs.Diagram.{Diagram, AreLive, Sweeps}
use Rattle.smv_search.specs.Keeping.{beads_of}
use Rattle.smv_search.proofs.Keep.{beads_are, held_at, keeps_self, keeps_swept}
use Rattle.smv_search.proofs.counts.tally.Goals as goal

pub count_front-requires : goal.count_front-requires
count_front-requires c = record { live = held_at c.args.store.now c.args.roots.now c.requires.held }

pub returns-then-not-is_due-clause-keeps : goal.returns-then-not-is_due-clause-keeps
returns-then-not-is_due-clause-keeps c = keeps_self c.args.store.now c.args.roots.now c.requires.held

pub sweep-requires : goal.sweep-requires
sweep-requires c = subst (λ (d : Diagram). AreLive d c.args.roots.now) (sym c.lend.ensures.same) (held_at c.args.store.now c.args.roots.now c.requires.held)

pub returns-then-count-nodes-clause-keeps : goal.returns-then-count-nodes-clause-keeps
returns-then-count-nodes-clause-keeps c =
    keeps_swept c.args.store.now c.sweep.new.self c.args.roots.now c.requires.held (subst (λ (d : Diagram). Sweeps d c.sweep.new.self c.args.roots.now) c.lend.ensures.same c.sweep.ensures.sweeps)

pub returns-then-count-nodes-clause-count : goal.returns-then-count-nodes-clause-count
returns-then-count-nodes-clause-count c =
    let e : c.held-count.result ≡ beads_of c.args.store.now c.args.roots.now =
    c.held-count.ensures.held ∙ c.sweep.ensures.beads ∙ beads_are c.lend.new.self c.args.roots.now ∙ ap (λ (d : Diagram). beads_of d c.args.roots.now) c.lend.ensures.same in
    (omega arith, omega (arith, e, c.min-told.ensures, c.most_told.ensures))

pub returns-clause-keeps : goal.returns-clause-keeps
returns-clause-keeps c =
    keeps_swept c.args.store.now c.sweep.new.self c.args.roots.now c.requires.held (subst (λ (d : Diagram). Sweeps d c.sweep.new.self c.args.roots.now) c.lend.ensures.same c.sweep.ensures.sweeps)

pub returns-clause-count : goal.returns-clause-count
returns-clause-count c =
    let e : c.held-count.result ≡ beads_of c.args.store.now c.args.roots.now =
    c.held-count.ensures.held ∙ c.sweep.ensures.beads ∙ beads_are c.lend.new.self c.args.roots.now ∙ ap (λ (d : Diagram). beads_of d c.args.roots.now) c.lend.ensures.same in
    omega arith
