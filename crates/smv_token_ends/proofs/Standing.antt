-- Each token stands in the text from which it was read.
use Rattle.std.proofs.Common.{◌≡◌, ◌<◌, ◌+◌, ℕ, List, [], ◌∷◌, ◌++◌, length, take, drop, Ok, refl, sym, ap, ◌∙◌, append_assoc, arith}
use Rattle.std.specs.List.{AllByRecursion}
use Rattle.std.proofs.lemmas.List.{take-append-drop, length-take-le}
use Rattle.smv_core.specs.declared.token.Token.{Token}
use Rattle.smv_core.specs.Notation.{Tokens}
use Rattle.smv_lex.specs.Lexing.{lexed}
use Rattle.law_lexed_parts.proofs.Parted.{within-text, under-there, split-at}
use Rattle.smv_token_ends.specs.Fronts.{IsTokenAt}

module _ (text : List ℕ) (ts : Tokens) (e : lexed text ≡ Ok ts) where
  here : (front rest : Tokens) (t : Token) → ts ≡ front ++ (t ∷ rest) → IsTokenAt text t
  here front rest t s =
      let is : lexed text ≡ Ok (front ++ (t ∷ rest)) = e ∙ ap Ok s in
      let low : t.at < 0 + length text = under-there (0 + length text) front t rest (within-text 0 0 text (front ++ (t ∷ rest)) is) in
      (split-at (take t.at text) (drop t.at text) front rest t (ap lexed (take-append-drop t.at text) ∙ is) (sym (length-take-le t.at text (omega (arith, low))))).1

  each : (front rest : Tokens) → ts ≡ front ++ rest → AllByRecursion (IsTokenAt text) rest
  each front [] s = tt
  each front (t ∷ rest) s = (here front rest t s, each (front ++ (t ∷ [])) rest (s ∙ sym (append_assoc front (t ∷ []) rest)))

  pub tokens-stand : AllByRecursion (IsTokenAt text) ts
  tokens-stand = each [] ts refl
