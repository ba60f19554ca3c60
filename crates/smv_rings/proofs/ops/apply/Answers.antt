use Rattle.std.proofs.Common.{subst}
use Rattle.bdd_store.specs.Diagram.{table}
use Rattle.smv_rings.specs.Ops.{act_of, FitsAct}
use Rattle.smv_rings.proofs.Firsts.{first_later}
use Rattle.smv_rings.proofs.ops.apply.Goals as goal

pub rename-requires-clause-later : goal.rename-requires-clause-later
rename-requires-clause-later c =
    let d = c.args.store.now in
    first_later d c.args.p c.vars.ensures.sound c.requires.live (subst (λ op. FitsAct d.vars (table d c.args.p) (act_of d 0 op)) c.in-Rename.is c.requires.fits)
