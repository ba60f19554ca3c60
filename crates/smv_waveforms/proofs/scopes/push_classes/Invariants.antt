use Rattle.std.specs.Prelude.{◌≡◌, ◌++◌, drop}
use Rattle.smv_waveforms.specs.Vcd.{with_commas}
use Rattle.smv_waveforms.proofs.Parts.{behind}
use Rattle.smv_waveforms.proofs.scopes.push_classes.Given as goal

abbrev pub invariant-loop-class : goal.invariant-loop-class
invariant-loop-class l = l.out.items ++ behind l.separator (drop l.class-index l.classes) ≡ l.initial.out.items ++ with_commas l.classes
