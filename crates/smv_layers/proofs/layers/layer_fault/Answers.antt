use Rattle.std.proofs.Common.{map, ap, sym, ◌∙◌}
use Rattle.smv_layers.specs.Leaks.{first_among, def_fault}
use Rattle.smv_layers.proofs.LayerLaws.{of_definitions}
use Rattle.smv_layers.proofs.layers.layer_fault.Goals as goal

pub returns : goal.returns
returns c = c.def_faults.ensures ∙ ap (λ fs. first_among (map (def_fault fs) c.as_slice-2.result.now)) c.as_slice.ensures ∙ ap (λ ds. first_among (map (def_fault c.args.design.now.families) ds)) c.as_slice-2.ensures ∙ sym (of_definitions c.args.design.now)
