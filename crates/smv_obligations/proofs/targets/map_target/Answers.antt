use Rattle.std.proofs.Common.{ap, sym, ◌∙◌}
use Rattle.smv_obligations.specs.Demands.{defined_in}
use Rattle.smv_obligations.proofs.Lists.{if-ok-more}
use Rattle.smv_obligations.proofs.TargetLaws.{no-map-target, map-target}
use Rattle.smv_obligations.proofs.targets.map_target.Goals as goal

pub returns-in-None : goal.returns-in-None
returns-in-None c = c.nothing_held.ensures ∙ sym (no-map-target c.args.part.now c.args.def (sym c.in-None.ensures))

pub returns-in-Some : goal.returns-in-Some
returns-in-Some c =
    if-ok-more c.defined.result _ _ (ap (defined_in c.in-Some.def.now) c.own_indexes.ensures ∙ sym (map-target c.args.part.now c.args.def c.in-Some.def.now (sym c.in-Some.ensures))) c.defined.ensures
