use Rattle.std.proofs.Common.{◌≡◌, ◌++◌, drop}
use Rattle.std.specs.List.{flat_map}
use Rattle.law_translated_texts.specs.Phrases.{defining, definitions, defined}
use Rattle.law_translated_texts.specs.Translation.{spaced}
use Rattle.smv_phrases.specs.Seen.{names, binders_of, behind, end_phrase, shown, stage_of}
use Rattle.smv_phrases.proofs.monitors.defined.Given as goal

abbrev pub invariant-loop-front : goal.invariant-loop-front
invariant-loop-front l =
    l.out.items ++ spaced (flat_map (defining (binders_of l.text l.binders)) (definitions (names l.binders) l.left (stage_of l.stage) (behind (drop l.front-index l.phrase.fronts.items) (end_phrase l.phrase.last))))
    ≡ l.initial.out.items ++ spaced (defined (binders_of l.text l.binders) l.monitors (shown l.phrase))
