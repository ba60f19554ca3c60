use Rattle.std.proofs.Common.{◌≡◌, ℕ, List, drop}
use Rattle.smv_core.specs.Values.{Name}
use Rattle.law_translated_texts.specs.Parts.{Phrase}
use Rattle.law_translated_texts.specs.Phrases.{claim_of, outset}
use Rattle.smv_phrases.specs.Seen.{behind, stage_of}
use Rattle.smv_phrases.proofs.stages.last_stage.Given as goal

abbrev pub invariant-loop-front : goal.invariant-loop-front
invariant-loop-front l = (vars : List Name) (end : Phrase (List ℕ)) → claim_of vars l.monitors outset (behind l.fronts end) ≡ claim_of vars l.left (stage_of l.stage) (behind (drop l.front-index l.fronts) end)
