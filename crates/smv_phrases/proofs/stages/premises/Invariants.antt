use Rattle.std.proofs.Common.{◌≡◌, ◌++◌, ◌∷◌, [], codes, drop, map}
use Rattle.std.specs.List.{flat_map}
use Rattle.law_translated_texts.specs.Phrases.{whole}
use Rattle.law_translated_texts.specs.Translation.{spaced}
use Rattle.smv_phrases.specs.Seen.{lent}
use Rattle.smv_phrases.proofs.stages.premises.Given as goal

abbrev pub invariant-loop-condition : goal.invariant-loop-condition
invariant-loop-condition l =
    l.out.items ++ flat_map (λ ps. spaced (ps ++ codes "->" ∷ [])) (map whole (lent (drop l.condition-index l.conditions))) ≡ l.initial.out.items ++ flat_map (λ ps. spaced (ps ++ codes "->" ∷ [])) (map whole (lent l.conditions))
