use Rattle.std.proofs.Common.{◌≡◌, ◌++◌, [], ◌∷◌, map, drop, length}
use Rattle.std.specs.List.{flat_map}
use Rattle.smv_core.specs.FlatOrder.{is_abstract_role}
use Rattle.smv_flatten_families.specs.Paths.{path_of}
use Rattle.smv_flatten_families.specs.Types.{leaves, types_of}
use Rattle.smv_flatten_families.specs.Families.{in_place, placed_leaf}
use Rattle.smv_flatten_families.proofs.families.add_signals.Given as goal

abbrev pub invariant-loop-word : goal.invariant-loop-word
invariant-loop-word l =
    map in_place l.out.items ++ flat_map (λ word. map (placed_leaf (path_of l.here ++ word.name ∷ []) [] (is_abstract_role l.role) word.at) (leaves l.types.simples.text.now (length (types_of l.types.simples.text.now)) l.of)) (drop l.word-index l.words)
    ≡ map in_place l.initial.out.items ++ flat_map (λ word. map (placed_leaf (path_of l.here ++ word.name ∷ []) [] (is_abstract_role l.role) word.at) (leaves l.types.simples.text.now (length (types_of l.types.simples.text.now)) l.of)) l.words
