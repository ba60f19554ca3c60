-- Which phrases, stages and binders those of the code are.
use Rattle.std.specs.Prelude.{List, [], ◌∷◌, map, take_while, not, ℕ, option_copied}
use Rattle.std.proofs.Common.{Bor}
use Rattle.smv_core.specs.Values.{Name}
use Rattle.smv_core.specs.declared.token.Token.{Token}
use Rattle.smv_core.specs.Signs.{close_paren}
use Rattle.smv_core.specs.Notation.{same_kind}
use Rattle.law_translated_texts.specs.Parts as parts
use Rattle.law_translated_texts.specs.Parts.{spelled}
use Rattle.law_translated_texts.specs.Phrases as law
use Rattle.law_translated_texts.specs.Phrases.{Pieces, Binders}
use Rattle.smv_phrases.specs.declared.phrases.Front.{Front}
use Rattle.smv_phrases.specs.declared.phrases.Front.TheVariants.{Later, Under}
use Rattle.smv_phrases.specs.declared.phrases.Last.{Last}
use Rattle.smv_phrases.specs.declared.phrases.Last.TheVariants.{Single, Unless}
use Rattle.smv_phrases.specs.declared.phrases.Phrase.{Phrase}
use Rattle.smv_phrases.specs.declared.stages.Stage.{Stage}
use Rattle.smv_phrases.specs.declared.monitors.Binder.{Binder}

abbrev pub end_phrase : Last → parts.Phrase (List ℕ)
end_phrase (Single e) = parts.Now e.now
end_phrase (Unless p q) = parts.Weak p.now q.now

-- a phrase with this before it
abbrev pub behind : List Front → parts.Phrase (List ℕ) → parts.Phrase (List ℕ)
behind [] f = f
behind (Later ∷ fronts) f = parts.Next (behind fronts f)
behind (Under c ∷ fronts) f = parts.When c.now (behind fronts f)

abbrev pub shown : Phrase → parts.Phrase (List ℕ)
shown p = behind p.fronts.items (end_phrase p.last)

-- those bytes that are lent
abbrev pub lent : List (Bor (List ℕ)) → Pieces
lent ps = map (λ p. p.now) ps

abbrev pub stage_of : Stage → law.Stage
stage_of s = record { start = option_copied s.start; conditions = lent s.conditions.items }

-- the names of binders
abbrev pub names : List Binder → List Name
names bs = map (λ (b : Binder). b.name.now) bs

-- a binder with the tokens of its type
abbrev pub binder_of : List ℕ → Binder → Name × Pieces
binder_of text b = (b.name.now, spelled text (take_while (λ (t : Token). not (same_kind t.kind close_paren)) b.types.now))

abbrev pub binders_of : List ℕ → List Binder → Binders
binders_of text bs = map (binder_of text) bs
