-- What is answered is the translation, or else the first fault; and nothing else is.
use Rattle.std.proofs.Common.{◌≡◌, ◌≤◌, ◌<◌, ℕ, ◌⊎◌, inl, inr, List, length, Option, Some, None, Result, Ok, Err, IfOk, true, false, if◌then◌else◌, nat_lt, sym, ap, ◌∙◌, arith}
use Rattle.std.proofs.lemmas.Bool.Decides.{nat_tests}
use Rattle.smv_core.specs.declared.fault.Refusal.{Refusal}
use Rattle.smv_core.specs.declared.fault.Refusal.TheVariants as refusal
use Rattle.smv_core.specs.Notation.{Tokens}
use Rattle.smv_lex.specs.Answers.{IfFault}
use Rattle.smv_parse.specs.Answers.{UnlessMemory}
use Rattle.smv_parse_items.specs.Answer.{fault}
use Rattle.law_formulas.specs.Formulas.{FormulaText}
use Rattle.law_formulas.specs.Ninths.{first_ninth}
use Rattle.law_translated_texts.specs.Answers.{limit, IsTranslated, IsRefused, IsReadable, too_long, of_bytes, unexpected, too_deep, too_many, too_long_translated}
use Rattle.law_translated_texts.specs.Translation.{Translation, translation_of}
use Rattle.smv_parse_formula_texts.specs.Laws.{IsOneText, IsOneFault, IsNotBoth, IsEither}
use Rattle.smv_parse_formula_texts.specs.Spelling.{SpellsText, HasFault}
use Rattle.smv_parse_formula_texts.specs.Spelling as read
use Rattle.smv_ltl.specs.Answers.{shown, IsThe}
use Rattle.smv_ltl.specs.declared.Translated.{Translated}

-- what a text is answered
data Answer : Type 0 where
  a_translation : Translation → Answer
  a_fault : ℕ → ℕ → Answer

abbrev if_fits : Translation → Answer
if_fits t = if nat_lt limit (length t.text) then a_fault 31 0 else a_translation t

abbrev of_ninth : List ℕ → Tokens → FormulaText → Option ℕ → Answer
of_ninth text ts ft (Some at) = a_fault 37 at
of_ninth text ts ft None = if_fits (translation_of text ts ft)

abbrev Reading : List ℕ → Type 0
Reading text = ((ts : Tokens) × (tree : FormulaText) × SpellsText text ts tree) ⊎ ((number : ℕ) × (at : ℕ) × HasFault text number at)

abbrev of_reading : (text : List ℕ) → Reading text → Answer
of_reading text (inl (ts, tree, h)) = of_ninth text ts tree (first_ninth tree.formulas)
of_reading text (inr (number, at, h)) = a_fault number at

module _ (either : IsEither) (one : IsOneText) (single : IsOneFault) (apart : IsNotBoth) where
  abbrev verdict : List ℕ → Answer
  verdict text = if nat_lt limit (length text) then a_fault 31 0 else of_reading text (either text)

  module _ (text : List ℕ) where
    short : length text ≤ limit → verdict text ≡ of_reading text (either text)
    short le = let e : nat_lt limit (length text) ≡ false = grind (arith, nat_tests) in ap (λ b. if b then a_fault 31 0 else of_reading text (either text)) e

    spelled : (ts : Tokens) (tree : FormulaText) (r : Reading text) → SpellsText text ts tree → of_reading text r ≡ of_ninth text ts tree (first_ninth tree.formulas)
    spelled ts tree (inl (us, other, k)) h =
        let e = one text us ts other tree k h in
        ap (λ (z : Tokens). of_ninth text z other (first_ninth other.formulas)) e.0 ∙ ap (λ (z : FormulaText). of_ninth text ts z (first_ninth z.formulas)) e.1
    spelled ts tree (inr (number, at, k)) h = absurd (apart text ts tree number at h k)

    faulty : (number at : ℕ) (r : Reading text) → HasFault text number at → of_reading text r ≡ a_fault number at
    faulty number at (inl (ts, tree, k)) h = absurd (apart text ts tree number at k h)
    faulty number at (inr (other, place, k)) h = let e = single text other number place at k h in ap (λ n. a_fault n place) e.0 ∙ ap (λ a. a_fault number a) e.1

    readable-is : (ts : Tokens) (ft : FormulaText) → IsReadable text ts ft → verdict text ≡ if_fits (translation_of text ts ft)
    readable-is ts ft h = short h.fits ∙ spelled ts ft (either text) (h.read, h.spelled) ∙ ap (of_ninth text ts ft) h.no_ninth

    fits-is : (t : Translation) → length t.text ≤ limit → if_fits t ≡ a_translation t
    fits-is t le = let e : nat_lt limit (length t.text) ≡ false = grind (arith, nat_tests) in ap (λ b. if b then a_fault 31 0 else a_translation t) e

    over-is : (t : Translation) → limit < length t.text → if_fits t ≡ a_fault 31 0
    over-is t lt = let e : nat_lt limit (length t.text) ≡ true = grind (arith, nat_tests) in ap (λ b. if b then a_fault 31 0 else a_translation t) e

    translated-is : (t : Translation) → IsTranslated text t → verdict text ≡ a_translation t
    translated-is t h =
        readable-is h.tokens h.tree h.readable ∙ ap if_fits (sym h.translated) ∙ fits-is t h.fits

    refused-is : (number at : ℕ) → IsRefused text number at → verdict text ≡ a_fault number at
    refused-is number at (too_long lt) = let e : nat_lt limit (length text) ≡ true = grind (arith, nat_tests) in ap (λ b. if b then a_fault 31 0 else of_reading text (either text)) e
    refused-is number at (of_bytes le e) = short le ∙ faulty number at (either text) (read.of_bytes e)
    refused-is number at (unexpected le e bad) = short le ∙ faulty 5 at (either text) (read.unexpected e bad)
    refused-is number at (too_deep le e bad) = short le ∙ faulty 6 at (either text) (read.too_deep e bad)
    refused-is number at (too_many {ts = ts} {ft = ft} le e h ninth) = short le ∙ spelled ts ft (either text) (e, h) ∙ ap (of_ninth text ts ft) ninth
    refused-is number at (too_long_translated {ts = ts} {ft = ft} h lt) = readable-is ts ft h ∙ over-is (translation_of text ts ft) lt

    same-translation : (s t : Translation) → IsTranslated text s → IsTranslated text t → s ≡ t
    same-translation s t h k = let e : a_translation s ≡ a_translation t = sym (translated-is s h) ∙ translated-is t k in cc

    not-both : (t : Translation) (number at : ℕ) → IsTranslated text t → IsRefused text number at → ⊥
    not-both t number at h k = let e : a_translation t ≡ a_fault number at = sym (translated-is t h) ∙ refused-is number at k in absurd cc

    same-refused : (number other at place : ℕ) → IsRefused text number at → IsRefused text other place → (number ≡ other) × (at ≡ place)
    same-refused number other at place h k = let e : a_fault number at ≡ a_fault other place = sym (refused-is number at h) ∙ refused-is other place k in (cc, cc)

    pub only-translation : (r : Result Translated Refusal) → IfOk r (λ t. IsTranslated text (shown t)) → IfFault r (λ f. IsRefused text f.number f.at) → (t : Translation) → IsTranslated text t → IsThe r t
    only-translation (Ok s) ok bad t h = same-translation (shown s) t ok h
    only-translation (Err refusal.OutOfMemory) ok bad t h = tt
    only-translation (Err (refusal.Fault f)) ok bad t h = not-both t f.number f.at h bad

    pub only-fault : (r : Result Translated Refusal) → IfOk r (λ t. IsTranslated text (shown t)) → IfFault r (λ f. IsRefused text f.number f.at) → (number at : ℕ) → IsRefused text number at → UnlessMemory r (Err (fault number at))
    only-fault (Ok s) ok bad number at h = absurd (not-both (shown s) number at ok h)
    only-fault (Err refusal.OutOfMemory) ok bad number at h = tt
    only-fault (Err (refusal.Fault f)) ok bad number at h =
        let e = same-refused f.number number f.at at bad h in
        ap (λ n. Err (fault n f.at)) e.0 ∙ ap (λ a. Err (fault number a)) e.1
