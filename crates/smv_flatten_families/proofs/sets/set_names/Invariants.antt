use Rattle.std.proofs.Common.{◌≡◌, ◌++◌, map, drop}
use Rattle.std.specs.List.{flat_map}
use Rattle.law_designs.specs.Flattening.{set_of}
use Rattle.smv_flatten_families.proofs.sets.set_names.Given as goal

abbrev pub invariant-loop-top : goal.invariant-loop-top
invariant-loop-top l = l.names ++ flat_map (λ top. map (λ info. info.name) (set_of top)) (drop l.top-index l.tops) ≡ flat_map (λ top. map (λ info. info.name) (set_of top)) l.tops
