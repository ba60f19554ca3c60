use Rattle.std.proofs.Common.{◌≡◌, ◌++◌, ◌∷◌, [], codes, drop}
use Rattle.std.specs.List.{flat_map}
use Rattle.law_translated_texts.specs.Translation.{spaced}
use Rattle.smv_phrases.specs.Seen.{names}
use Rattle.smv_phrases.proofs.stages.indexes.Given as goal

abbrev pub invariant-loop-binder : goal.invariant-loop-binder
invariant-loop-binder l =
    l.out.items ++ spaced (flat_map (λ var. codes "[" ∷ var ∷ codes "]" ∷ []) (names (drop l.binder-index l.binders))) ≡ l.initial.out.items ++ spaced (flat_map (λ var. codes "[" ∷ var ∷ codes "]" ∷ []) (names l.binders))
