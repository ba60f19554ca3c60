-- What is answered is the strengthened text, or else the first fault; and nothing else is.
use Rattle.std.proofs.Common.{◌≡◌, ℕ, inl, inr, List, Option, Some, None, Result, Ok, Err, IfOk, refl, sym, ap, ◌∙◌, subst}
use Rattle.std.specs.Option.{option_map}
use Rattle.smv_core.specs.Values.{Name}
use Rattle.smv_core.specs.declared.fault.Fault.{Fault}
use Rattle.smv_core.specs.declared.fault.Refusal.{Refusal}
use Rattle.smv_core.specs.declared.fault.Refusal.TheVariants as refusal
use Rattle.smv_core.specs.declared.tree.Text.{Text}
use Rattle.smv_core.specs.Notation.{Tokens}
use Rattle.smv_lex.specs.Answers.{IfFault}
use Rattle.smv_lex.specs.Lexing.{Lexed, lexed}
use Rattle.smv_parse.specs.Answers.{UnlessMemory}
use Rattle.smv_parse.specs.Laws.{IsOneTree, IsOneFault, IsNotBoth}
use Rattle.smv_parse.specs.Spelling.{SpellsText}
use Rattle.smv_parse_items.specs.Answer.{fault}
use Rattle.law_strengthened_texts.specs.Stronger as texts
use Rattle.law_strengthened_texts.specs.Stronger.{Found, induction, strengthened, IsStrengthened, HasNoInduction}
use Rattle.law_strengthened_texts.specs.Laws.{StrongerIsPlaced}
use Rattle.law_strengthened_texts.proofs.Lengths.{one-lexed, lengths}
use Rattle.smv_strengthen.specs.Answers.{shown, IsRefused, IsTheStronger, IsWithin, IsOfPlace}
use Rattle.smv_strengthen.specs.Place.{place_of}
use Rattle.smv_strengthen.specs.declared.Stronger.{Stronger}
use Rattle.smv_strengthen.specs.declared.place.Place.{Place}

-- a text that is refused has no tokens
no-lexed : (l : Lexed) (ts : Tokens) (f : Fault) → l ≡ Ok ts → l ≡ Err f → ⊥
no-lexed l ts f a b = absurd (cc (a, b))

-- ---- the text is strengthened at the place that is found

pub strengthened-there : (text : List ℕ) (name var : Name) (x : Text) (place : Place) (r : Result Stronger Refusal) → SpellsText text x → Some place ≡ option_map place_of (induction x.tops name var) →
    IfOk r (IsOfPlace text var place) → IfOk r (λ s. IsStrengthened text name var (shown s))
strengthened-there text name var x place (Err f) h e k = tt
strengthened-there text name var x place (Ok s) h e k = by_found (induction x.tops name var) refl e
  where
    by_found : (o : Option (Found × Name)) → induction x.tops name var ≡ o → Some place ≡ option_map place_of o → IsStrengthened text name var (shown s)
    by_found None found q = absurd (cc (q))
    by_found (Some p) found q =
        let same : place ≡ place_of p = cc (q) in
        (h.0, x, p.0, p.1, h.1, h.2, found, k h.0 h.1 ∙ ap (λ (z : Place). strengthened text h.0 var z.set z.at) same)

-- ---- nothing else is answered

pair-first : (p q : Found × Name) → p ≡ q → p.0 ≡ q.0
pair-first p q e = ap (λ (r : Found × Name). r.0) e

pair-second : (p q : Found × Name) → p ≡ q → p.1 ≡ q.1
pair-second p q e = ap (λ (r : Found × Name). r.1) e

same-found : (c d : Found) (set other : Name) (o : Option (Found × Name)) → o ≡ Some (c, set) → o ≡ Some (d, other) → (c ≡ d) × (set ≡ other)
same-found c d set other o a b = (pair-first (c, set) (d, other) (cc (a, b)), pair-second (c, set) (d, other) (cc (a, b)))

none-found : (p : Found × Name) (o : Option (Found × Name)) → o ≡ None → o ≡ Some p → ⊥
none-found p o a b = absurd (cc (a, b))

module _ (one : IsOneTree) (text : List ℕ) (name var : Name) where
  pub same-stronger : (s t : texts.Stronger) → IsStrengthened text name var s → IsStrengthened text name var t → s ≡ t
  same-stronger s t h k =
      let tokens : h.0 ≡ k.0 = one-lexed (lexed text) h.0 k.0 h.4 k.4 in
      let tree : h.1 ≡ k.1 = one text h.1 k.1 (h.0, h.4, h.5) (k.0, k.4, k.5) in
      let found = same-found h.2 k.2 h.3 k.3 (induction h.1.tops name var) h.6 (ap (λ (z : Text). induction z.tops name var) tree ∙ k.6) in
      h.7 ∙ ap (λ z. strengthened text z var h.3 h.2.word.at) tokens ∙ ap (λ (d : Found). strengthened text k.0 var h.3 d.word.at) found.0 ∙ ap (λ z. strengthened text k.0 var z k.2.word.at) found.1 ∙ sym k.7

  pub not-both : (s : texts.Stronger) → IsStrengthened text name var s → HasNoInduction text name var → ⊥
  not-both s h none =
      let tree : none.1 ≡ h.1 = one text none.1 h.1 (none.0, none.2, none.3) (h.0, h.4, h.5) in
      none-found (h.2, h.3) (induction h.1.tops name var) (ap (λ (z : Text). induction z.tops name var) (sym tree) ∙ none.4) h.6

  module _ (apart : IsNotBoth) where
    not-refused : (t : texts.Stronger) (number at : ℕ) → IsStrengthened text name var t → IsRefused text name var number at → ⊥
    not-refused t number at h (inl bad) = apart text h.1 number at (h.0, h.4, h.5) bad
    not-refused t number at h (inr none) = not-both t h none.0

    same-refused : IsOneFault → (number other at place : ℕ) → IsRefused text name var number at → IsRefused text name var other place → (number ≡ other) × (at ≡ place)
    same-refused only number other at place (inl h) (inl k) = only text number other at place h k
    same-refused only number other at place (inl h) (inr k) = absurd (apart text k.0.1 number at (k.0.0, k.0.2, k.0.3) h)
    same-refused only number other at place (inr h) (inl k) = absurd (apart text h.0.1 other place (h.0.0, h.0.2, h.0.3) k)
    same-refused only number other at place (inr h) (inr k) = (h.1 ∙ sym k.1, h.2 ∙ sym k.2)

    module _ (r : Result Stronger Refusal) where
      pub only-stronger : IfOk r (λ s. IsStrengthened text name var (shown s)) → IfFault r (λ f. IsRefused text name var f.number f.at) → (t : texts.Stronger) → IsStrengthened text name var t → IsTheStronger r t
      only-stronger ok bad t h = by r ok bad
        where
          by : (r : Result Stronger Refusal) → IfOk r (λ s. IsStrengthened text name var (shown s)) → IfFault r (λ f. IsRefused text name var f.number f.at) → IsTheStronger r t
          by (Ok s) ok bad = same-stronger (shown s) t ok h
          by (Err refusal.OutOfMemory) ok bad = tt
          by (Err (refusal.Fault f)) ok bad = not-refused t f.number f.at h bad

      pub only-fault : IsOneFault → IfOk r (λ s. IsStrengthened text name var (shown s)) → IfFault r (λ f. IsRefused text name var f.number f.at) → (number at : ℕ) → IsRefused text name var number at →
          UnlessMemory r (Err (fault number at))
      only-fault only ok bad number at h = by r ok bad
        where
          by : (r : Result Stronger Refusal) → IfOk r (λ s. IsStrengthened text name var (shown s)) → IfFault r (λ f. IsRefused text name var f.number f.at) → UnlessMemory r (Err (fault number at))
          by (Ok s) ok bad = absurd (not-refused (shown s) number at ok h)
          by (Err refusal.OutOfMemory) ok bad = tt
          by (Err (refusal.Fault f)) ok bad =
              let e = same-refused only f.number number f.at at bad h in
              ap (λ n. Err (fault n f.at)) e.0 ∙ ap (λ a. Err (fault number a)) e.1

-- ---- how long it is

pub are-within : StrongerIsPlaced → (text : List ℕ) (name var : Name) (r : Result Stronger Refusal) → IfOk r (λ s. IsStrengthened text name var (shown s)) → IfOk r (IsWithin text)
are-within law text name var (Err f) h = tt
are-within law text name var (Ok s) h = lengths law text name var (shown s) h
