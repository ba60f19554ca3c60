use Rattle.std.proofs.Common.{◌<◌, [], ◌∷◌, IfOk, IsNone, sym, subst}
use Rattle.bdd_store.specs.Beads.{truth_table, bead_count}
use Rattle.bdd_store.specs.Diagram.{table}
use Rattle.smv_rings.specs.Schedule.{made_by}
use Rattle.smv_rings.specs.Ops.{act_of, FitsAct}
use Rattle.smv_rings.proofs.Firsts.{first_later}
use Rattle.smv_rings.proofs.ops.apply_within.Goals as goal

pub rename-requires-clause-later : goal.rename-requires-clause-later
rename-requires-clause-later c =
    let d = c.args.store.now in
    first_later d c.args.p c.vars.ensures.sound c.requires.live (subst (λ op. FitsAct d.vars (table d c.args.p) (act_of d 0 op)) c.in-Rename.is c.requires.fits)

pub returns-in-And-clause-large : goal.returns-in-And-clause-large
returns-in-And-clause-large c =
    let d = c.args.store.now in
    subst (λ op. IfOk c.and_within.result (λ o. IsNone o → c.args.most < bead_count d.vars (truth_table d.vars 0 (made_by (act_of d 0 op) (table d c.args.p)) ∷ []))) (sym c.in-And.is) c.and_within.ensures.large

pub returns-in-Look-clause-large : goal.returns-in-Look-clause-large
returns-in-Look-clause-large c =
    let d = c.args.store.now in
    subst (λ op. IfOk c.and_within-in-Look.result (λ o. IsNone o → c.args.most < bead_count d.vars (truth_table d.vars 0 (made_by (act_of d 0 op) (table d c.args.p)) ∷ []))) (sym c.in-Look.is) c.and_within-in-Look.ensures.large
