use Rattle.std.proofs.Common.{◌≡◌, ◌++◌, drop}
use Rattle.std.specs.List.{AllByRecursion}
use Rattle.law_translated_texts.specs.Translation.{spaced}
use Rattle.smv_phrases.specs.Seen.{binders_of}
use Rattle.smv_phrases.specs.Defined.{Stands, binding}
use Rattle.smv_phrases.proofs.monitors.foralls.Given as goal

abbrev pub invariant-loop-binder : goal.invariant-loop-binder
invariant-loop-binder l = record {
  stand : AllByRecursion (Stands l.text) (drop l.binder-index l.binders);
  told : l.out.items ++ spaced (binding (binders_of l.text (drop l.binder-index l.binders))) ≡ l.initial.out.items ++ spaced (binding (binders_of l.text l.binders));
}
