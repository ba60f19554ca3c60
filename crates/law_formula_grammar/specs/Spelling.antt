-- At which token a list of tokens is refused, for any rule: what no longer goes on, and what opens a level too many.
use Rattle.std.specs.Prelude.{◌≡◌, ◌+◌, ℕ, suc, [], ◌∷◌, ◌++◌}
use Rattle.smv_core.specs.declared.token.Token.{Token}
use Rattle.smv_core.specs.Notation.{Tokens, Rule}
use Rattle.smv_core.specs.Spelling.{kept_before, place_of_rest}

module _ {A : Type 0} (rule : (ℕ → ℕ) → ℕ → Rule A) where
  -- the tokens spell it, with at most n levels open at any of them
  abbrev pub SpellsBy : ℕ → Tokens → A → Type 0
  SpellsBy n ts a = rule (λ at. 0) n ts a []

  -- some tokens after these complete what is spelled, levels aside
  abbrev pub GoesOnBy : Tokens → Type 0
  GoesOnBy ts = (more : Tokens) × (n : ℕ) × (a : A) × SpellsBy n (ts ++ more) a

  -- Some tokens after these complete it, with at most n levels open at any token before the place. What stands from the place on may open k more.
  abbrev pub GoesOnWithinBy : ℕ → ℕ → Tokens → Type 0
  GoesOnWithinBy n place ts = (more : Tokens) × (k : ℕ) × (a : A) × rule (kept_before place k) (n + k) (ts ++ more) a []

  -- the tokens cannot go on with what comes next, which is a token or the end
  abbrev pub IsRefusedBy : Tokens → Tokens → Type 0
  IsRefusedBy front [] = (n : ℕ) (a : A) → SpellsBy n front a → ⊥
  IsRefusedBy front (t ∷ ts) = GoesOnBy (front ++ t ∷ []) → ⊥

  -- Fault 5: a token or the end after which nothing can go on. No token before it opens more than n levels.
  pub record IsUnexpectedBy (n length : ℕ) (tokens : Tokens) (at : ℕ) : Type 0 where
    pub front : Tokens
    pub rest : Tokens
    pub split : tokens ≡ front ++ rest
    pub place : at ≡ place_of_rest length rest
    pub goes_on : GoesOnWithinBy n at front
    pub refused : IsRefusedBy front rest

  -- Fault 6: the first token that opens a level too many, and is not fault 5.
  pub record IsTooDeepBy (n : ℕ) (tokens : Tokens) (at : ℕ) : Type 0 where
    pub front : Tokens
    pub token : Token
    pub rest : Tokens
    pub split : tokens ≡ front ++ token ∷ rest
    pub place : at ≡ token.at
    pub goes_on : GoesOnWithinBy n at (front ++ token ∷ [])
    pub too_deep : GoesOnWithinBy n (suc at) (front ++ token ∷ []) → ⊥
