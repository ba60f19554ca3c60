-- What a list of tokens spells, and at which token it is refused.
use Rattle.std.specs.Prelude.{◌≡◌, ◌+◌, ℕ, suc, nat_lt, if◌then◌else◌, [], ◌∷◌, ◌++◌}
use Rattle.smv_core.specs.declared.token.Token.{Token}
use Rattle.smv_core.specs.declared.tree.Text.{Text}
use Rattle.smv_core.specs.Notation.{Tokens}
use Rattle.smv_core.specs.Grammar.{text_rule}

-- the tokens spell the text, with at most n levels open at any of them
unfoldable pub Spells : ℕ → Tokens → Text → Type 0
Spells n ts text = text_rule (λ at. 0) n ts text.tops []

-- some tokens after these complete a text, levels aside
unfoldable pub CanGoOn : Tokens → Type 0
CanGoOn ts = (more : Tokens) × (n : ℕ) × (text : Text) × Spells n (ts ++ more) text

-- k levels are kept back at the offsets before a place
abbrev pub kept_before : ℕ → ℕ → ℕ → ℕ
kept_before place k at = if nat_lt at place then k else 0

-- Some tokens after these complete a text, with at most n levels open at any token before the place. What stands from the place on may open k more.
unfoldable pub GoesOnWithin : ℕ → ℕ → Tokens → Type 0
GoesOnWithin n place ts = (more : Tokens) × (k : ℕ) × (text : Text) × text_rule (kept_before place k) (n + k) (ts ++ more) text.tops []

-- where the rest of a text of this length begins
abbrev pub place_of_rest : ℕ → Tokens → ℕ
place_of_rest length [] = length
place_of_rest length (t ∷ ts) = t.at

-- the tokens cannot go on with what comes next, which is a token or the end
abbrev pub IsRefusedAfter : Tokens → Tokens → Type 0
IsRefusedAfter front [] = (n : ℕ) (text : Text) → Spells n front text → ⊥
IsRefusedAfter front (t ∷ ts) = CanGoOn (front ++ t ∷ []) → ⊥

-- Fault 5: a token or the end after which no text can go on. No token before it opens more than n levels.
pub record IsUnexpected (n length : ℕ) (tokens : Tokens) (at : ℕ) : Type 0 where
  pub front : Tokens
  pub rest : Tokens
  pub split : tokens ≡ front ++ rest
  pub place : at ≡ place_of_rest length rest
  pub goes_on : GoesOnWithin n at front
  pub refused : IsRefusedAfter front rest

-- Fault 6: the first token that opens a level too many, and is not fault 5.
pub record IsTooDeep (n : ℕ) (tokens : Tokens) (at : ℕ) : Type 0 where
  pub front : Tokens
  pub token : Token
  pub rest : Tokens
  pub split : tokens ≡ front ++ token ∷ rest
  pub place : at ≡ token.at
  pub goes_on : GoesOnWithin n at (front ++ token ∷ [])
  pub too_deep : GoesOnWithin n (suc at) (front ++ token ∷ []) → ⊥
