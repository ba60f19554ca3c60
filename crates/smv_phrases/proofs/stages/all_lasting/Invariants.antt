use Rattle.std.proofs.Common.{◌≡◌, ◌++◌, ◌∷◌, codes, drop, map}
use Rattle.std.specs.List.{flat_map}
use Rattle.law_translated_texts.specs.Phrases.{lasting}
use Rattle.law_translated_texts.specs.Translation.{spaced}
use Rattle.smv_phrases.specs.Seen.{lent}
use Rattle.smv_phrases.proofs.stages.all_lasting.Given as goal

abbrev pub invariant-loop-condition : goal.invariant-loop-condition
invariant-loop-condition l =
    l.out.items ++ spaced (flat_map (λ qs. codes "&" ∷ qs) (map lasting (lent (drop l.condition-index l.conditions)))) ≡ l.initial.out.items ++ spaced (flat_map (λ qs. codes "&" ∷ qs) (map lasting (lent l.conditions)))
