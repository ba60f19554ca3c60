use Rattle.std.proofs.Common.{◌+◌, ◌≤◌, [], ◌∷◌}
use Rattle.bdd_store.specs.Diagram.{IsLive, table, held, beads}
use Rattle.bdd_ops.specs.Functions.{Function, IsFreshBelow, some_at}
use Rattle.bdd_store.specs.Beads.{truth_table, bead_count}
use Rattle.bdd_ops.specs.Grown.{Adds}
use Rattle.bdd_ops.proofs.Grown.{held_grown, err_then}
use Rattle.bdd_ops.proofs.Tables.{if_ok_both}
use Rattle.bdd_ops.proofs.Held.{held_bound}
use Rattle.bdd_ops.proofs.quantify_within.Goals as goal

pub returns-clause-held : goal.returns-clause-held
returns-clause-held c =
    if_ok_both c.exists_from.result (IsLive c.exists_from.new.store) (IsFreshBelow c.args.store.now c.exists_from.new.store) (λ r. held c.exists_from.new.store ≤ held c.args.store.now + beads c.exists_from.new.store r)
    (held_bound c.args.store.now c.exists_from.new.store c.exists_from.ensures.sound c.exists_from.ensures.keeps) c.exists_from.ensures.live c.exists_from.ensures.fresh

pub returns-clause-grown : goal.returns-clause-grown
returns-clause-grown c =
    let d = c.args.store.now in
    let e = c.exists_from.new.store in
    let F : Function = some_at c.args.var (table d c.args.f) in
    err_then c.exists_from.result (Adds d e F) (held e ≤ held d + bead_count d.vars (truth_table d.vars 0 F ∷ [])) (held_grown d e c.exists_from.ensures.sound c.exists_from.ensures.keeps F) c.exists_from.ensures.adds
