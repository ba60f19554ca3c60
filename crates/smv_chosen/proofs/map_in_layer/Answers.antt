use Rattle.std.proofs.Common.{ap, sym, ◌∙◌}
use Rattle.smv_core.specs.declared.flat.Def.{Def}
use Rattle.std.specs.Prelude.{Option}
use Rattle.law_obligations.specs.Outlines.{base_of}
use Rattle.smv_chosen.specs.Chosen.{or_else}
use Rattle.smv_chosen.proofs.MapLaws.{map-is}
use Rattle.smv_chosen.proofs.map_in_layer.Goals as goal

pub returns-in-Some : goal.returns-in-Some
returns-in-Some c = ap (λ (o : Option Def). or_else o (base_of c.args.design.now c.args.family)) c.in-Some.ensures ∙ sym (map-is c.args.design.now c.args.family c.args.layer c.args.units.now)

pub returns-in-None : goal.returns-in-None
returns-in-None c = c.base_of.ensures ∙ (ap (λ (o : Option Def). or_else o (base_of c.args.design.now c.args.family)) c.in-None.ensures ∙ sym (map-is c.args.design.now c.args.family c.args.layer c.args.units.now))
