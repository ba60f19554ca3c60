use Rattle.std.proofs.Common.{◌≡◌, [], drop}
use Rattle.std.specs.List.{flat_map}
use Rattle.smv_flatten.specs.Layers.{with_layers, heads, AreSame}
use Rattle.smv_flatten.proofs.layers.layers_met.Given as goal

abbrev pub invariant-loop-met : goal.invariant-loop-met
invariant-loop-met l = record {
  same : AreSame l.layers;
  layers : with_layers l.layers.names (flat_map (λ met. heads met.what) (drop l.met-index l.all)) ≡ with_layers [] (flat_map (λ met. heads met.what) l.all);
}
