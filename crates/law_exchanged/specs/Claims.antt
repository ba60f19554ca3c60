-- Where a claim's expression stands among the tokens of a text.
use Rattle.std.specs.Prelude.{◌≡◌, ◌==◌, ℕ, Bool, true, false, not, if◌then◌else◌, List, [], ◌∷◌, ◌++◌, drop, take_while}
use Rattle.smv_core.specs.declared.token.Token.{Token}
use Rattle.smv_core.specs.declared.tree.Word.{Word}
use Rattle.smv_core.specs.Signs.{semicolon, word_G}
use Rattle.smv_core.specs.Notation.{Tokens, same_kind}
use Rattle.law_spelled_alike.specs.Local.{AllKinds}

-- the list from the first that passes the test on
abbrev pub from_first : {X : Type 0} → (X → Bool) → List X → List X
from_first test [] = []
from_first test (x ∷ xs) = if test x then x ∷ xs else from_first test xs

-- the tokens of the expression of the claim whose name stands at this offset: those behind its `G`, before the first `;` there
abbrev pub body_tokens : ℕ → Tokens → Tokens
body_tokens at ts = take_while (λ (t : Token). not (same_kind t.kind semicolon)) (drop 1 (from_first (λ (t : Token). same_kind t.kind word_G) (from_first (λ (t : Token). t.at == at) ts)))

-- The tokens end with the head of a claim: its name, which stands there, tokens that are no `G`, and a `G`.
pub record IsHeaded (word : Word) (front : Tokens) : Type 0 where
  pub lead : Tokens
  pub name : Token
  pub head : Tokens
  pub last : Token
  pub split : front ≡ lead ++ (name ∷ head ++ (last ∷ []))
  pub place : name.at ≡ word.at
  pub no_G : AllKinds (λ k. same_kind k word_G ≡ false) (name ∷ head)
  pub is_G : same_kind last.kind word_G ≡ true

-- the tokens begin with a `;`
abbrev pub IsClosed : Tokens → Type 0
IsClosed behind = (t : Token) × (more : Tokens) × (behind ≡ t ∷ more) × (same_kind t.kind semicolon ≡ true)
