use Rattle.std.proofs.Common.{◌≡◌, ◌++◌, ◌∷◌, [], codes, drop}
use Rattle.std.specs.List.{flat_map, AllByRecursion}
use Rattle.law_translated_texts.specs.Translation.{spaced}
use Rattle.smv_phrases.specs.Seen.{binders_of}
use Rattle.smv_phrases.specs.Defined.{Stands}
use Rattle.smv_phrases.proofs.monitors.arrays.Given as goal

abbrev pub invariant-loop-binder : goal.invariant-loop-binder
invariant-loop-binder l = record {
  stand : AllByRecursion (Stands l.text) (drop l.binder-index l.binders);
  told : l.out.items ++ spaced (flat_map (λ b. codes "array" ∷ b.1 ++ codes "of" ∷ []) (binders_of l.text (drop l.binder-index l.binders))) ≡ l.initial.out.items ++ spaced (flat_map (λ b. codes "array" ∷ b.1 ++ codes "of" ∷ []) (binders_of l.text l.binders));
}
