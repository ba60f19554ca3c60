-- Phrases that grow at their end, and tokens that stand in the text.
use Rattle.std.proofs.Common.{◌≡◌, ◌<◌, ◌≤◌, ◌+◌, ℕ, zero, suc, List, [], ◌∷◌, ◌++◌, length, take, drop, get_or, refl, sym, ap, ◌∙◌}
use Rattle.std.specs.List.{AllByRecursion}
use Rattle.std.proofs.lemmas.List.{at_drop_more, drop_all}
use Rattle.smv_core.specs.Notation.{Tokens}
use Rattle.law_formulas.specs.Formulas.{Formula}
use Rattle.law_translated_texts.specs.Parts.{part, behind_part, extent, parts_of, phrase_of}
use Rattle.law_translated_texts.specs.Parts as law
use Rattle.smv_parse_formulas.specs.Trees as trees
use Rattle.smv_parse_formulas.specs.declared.tree.Step.{Step}
use Rattle.smv_parse_formulas.specs.declared.tree.Step.TheVariants as step
use Rattle.smv_token_ends.specs.Fronts.{IsTokenAt}
use Rattle.smv_phrases.specs.Seen.{behind}
use Rattle.smv_phrases.specs.declared.phrases.Front.{Front}
use Rattle.smv_phrases.specs.declared.phrases.Front.TheVariants.{Later, Under}

pub behind_push : (fronts : List Front) (x : Front) (f : law.Phrase (List ℕ)) → behind (fronts ++ x ∷ []) f ≡ behind fronts (behind (x ∷ []) f)
behind_push [] x f = refl
behind_push (Later ∷ fronts) x f = ap law.Next (behind_push fronts x f)
behind_push (Under c ∷ fronts) x f = ap (λ g. law.When c.now g) (behind_push fronts x f)

-- ---- each of some tokens

module _ {X : Type 0} (P : X → Type 0) where
  pub each-taken : (n : ℕ) (xs : List X) → AllByRecursion P xs → AllByRecursion P (take n xs)
  each-taken zero xs h = tt
  each-taken (suc n) [] h = tt
  each-taken (suc n) (x ∷ xs) h = (h.0, each-taken n xs h.1)

  pub each-dropped : (n : ℕ) (xs : List X) → AllByRecursion P xs → AllByRecursion P (drop n xs)
  each-dropped zero xs h = h
  each-dropped (suc n) [] h = tt
  each-dropped (suc n) (x ∷ xs) h = each-dropped n xs h.1

module _ (text : List ℕ) (ts : Tokens) (h : AllByRecursion (IsTokenAt text) ts) where
  pub part-stands : AllByRecursion (IsTokenAt text) (part ts)
  part-stands = each-taken (IsTokenAt text) (extent zero ts) ts h

  pub next-stands : AllByRecursion (IsTokenAt text) (drop 1 (behind_part ts))
  next-stands = each-dropped (IsTokenAt text) 1 (behind_part ts) (each-dropped (IsTokenAt text) (extent zero ts) ts h)

-- ---- step by step

front-again : (x : Step) (steps : List Step) (end : Formula) → trees.behind (x ∷ []) (trees.behind steps end) ≡ trees.behind (x ∷ steps) end
front-again (step.Later at) steps end = refl
front-again (step.Under c) steps end = refl

module _ (text : List ℕ) (fronts : List Front) (steps : List Step) (i : ℕ) (end : Formula) (rest : Tokens) (whole : law.Phrase (List ℕ)) (told : behind fronts (phrase_of text (parts_of (trees.behind (drop i steps) end) rest)) ≡ whole) where
  pub read-more : (front : Front) (x : Step) (more : Tokens) → i < length steps → x ≡ get_or steps i x →
      ((f : Formula) → behind (front ∷ []) (phrase_of text (parts_of f more)) ≡ phrase_of text (parts_of (trees.behind (x ∷ []) f) rest)) →
      behind (fronts ++ front ∷ []) (phrase_of text (parts_of (trees.behind (drop (i + 1) steps) end) more)) ≡ whole
  read-more front x more lt is read =
      let later = trees.behind (drop (i + 1) steps) end in
      behind_push fronts front (phrase_of text (parts_of later more)) ∙ ap (λ (g : law.Phrase (List ℕ)). behind fronts g) (read later)
      ∙ ap (λ (f : Formula). behind fronts (phrase_of text (parts_of f rest)))
      (front-again x (drop (i + 1) steps) end ∙ sym (at_drop_more (λ (l : List Step). trees.behind l end) steps i x lt ∙ ap (λ (y : Step). trees.behind (y ∷ drop (i + 1) steps) end) (sym is))) ∙ told

  pub read-all : length steps ≤ i → behind fronts (phrase_of text (parts_of end rest)) ≡ whole
  read-all le = ap (λ (l : List Step). behind fronts (phrase_of text (parts_of (trees.behind l end) rest))) (sym (drop_all i steps le)) ∙ told

pub ruleset reading = (read-more, read-all)
