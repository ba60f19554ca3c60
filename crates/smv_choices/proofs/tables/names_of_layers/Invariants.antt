use Rattle.std.proofs.Common.{◌≡◌, ◌++◌, drop}
use Rattle.smv_choices.proofs.tables.names_of_layers.Given as goal

abbrev pub invariant-loop-layer : goal.invariant-loop-layer
invariant-loop-layer l = l.names ++ drop l.layer-index l.layers ≡ l.layers
