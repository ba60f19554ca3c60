use Rattle.std.proofs.Common.{◌≡◌, [], length, take}
use Rattle.smv_core.specs.Types.{types_from}
use Rattle.smv_flatten_families.specs.Types.{AreTypesSoFar}
use Rattle.smv_flatten_families.proofs.types.types_with.Given as goal

abbrev pub invariant-loop-place : goal.invariant-loop-place
invariant-loop-place l = record {
  types : AreTypesSoFar l.types;
  here : length l.types.forms.items ≡ length (types_from [] (take l.place l.types.simples.text.now.tops));
  text : l.types.simples.text.now ≡ l.initial.types.simples.text.now;
}
