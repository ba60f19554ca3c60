use Rattle.std.proofs.Common.{◌≡◌, ◌++◌, drop}
use Rattle.law_translated_texts.specs.Phrases.{declared}
use Rattle.law_translated_texts.specs.Translation.{spaced}
use Rattle.smv_phrases.specs.Seen.{binders_of}
use Rattle.smv_phrases.proofs.monitors.declared.Given as goal

abbrev pub invariant-loop-name : goal.invariant-loop-name
invariant-loop-name l = l.out.items ++ spaced (declared (binders_of l.text l.binders) (drop l.name-index l.monitors)) ≡ l.initial.out.items ++ spaced (declared (binders_of l.text l.binders) l.monitors)
