-- The tokens of a text with formulas as segments, of which some have other tokens in their place.
use Rattle.std.specs.Prelude.{◌≡◌, ℕ, List, [], ◌∷◌, ◌++◌, map}
use Rattle.std.specs.List.{AllByRecursion}
use Rattle.smv_core.specs.Values.{Name}
use Rattle.smv_core.specs.declared.token.Token.{Token}
use Rattle.smv_core.specs.declared.token.TokenKind.{TokenKind}
use Rattle.smv_core.specs.Notation.{Tokens}
use Rattle.law_lexed_parts.specs.Parts.{begin_of}
use Rattle.law_spelled_alike.specs.Local.{kinds_of}
use Rattle.law_translated_texts.specs.Parts.{part, behind_part}
use Rattle.law_translated_texts.specs.Phrases.{Pieces}
use Rattle.law_translated_texts.specs.Translation.{Changed, Edit, formula_tokens, phrase, binders, body, claim_edit, monitors_written}
use Rattle.law_written_formulas.specs.Kinds.{kinds_of_pieces}
use Rattle.law_written_formulas.specs.Laws.{IsWhole}
use Rattle.law_written_monitors.specs.Monitored.{Monitored, written}

-- Tokens that are kept; a changed claim, its head up to the `G`, its formula, and its `;`; or the closing brace of a module that has these claims with monitors.
pub data Segment : Type 0 where
  Kept : Tokens → Segment
  Claimed : Changed → Tokens → Tokens → Token → Segment
  Closed : Changed → List Changed → Token → Segment

-- the tokens that are there
abbrev pub old_of : Segment → Tokens
old_of (Kept ts) = ts
old_of (Claimed c head fs last) = head ++ (fs ++ (last ∷ []))
old_of (Closed c cs brace) = brace ∷ []

abbrev pub old : List Segment → Tokens
old [] = []
old (s ∷ ss) = old_of s ++ old ss

module _ (text : List ℕ) (ts : Tokens) (layer : Name) where
  abbrev pub monitored : Changed → Monitored
  monitored c = record { binders = binders text ts c; around = c.around; watched = c.watched; phrase = phrase text ts c }

  -- what is written before the brace
  abbrev pub inserted : Changed → List Changed → Pieces
  inserted c cs = written layer (map monitored (c ∷ cs))

  -- the kinds of the tokens that come in their place
  abbrev pub kinds_of_segment : Segment → List TokenKind
  kinds_of_segment (Kept us) = kinds_of us
  kinds_of_segment (Claimed c head fs last) = kinds_of head ++ (kinds_of_pieces (body text ts c) ++ (last.kind ∷ []))
  kinds_of_segment (Closed c cs brace) = kinds_of_pieces (inserted c cs) ++ (brace.kind ∷ [])

  abbrev pub kinds : List Segment → List TokenKind
  kinds [] = []
  kinds (s ∷ ss) = kinds_of_segment s ++ kinds ss

  -- the edit of a segment
  abbrev pub edits_of : Segment → List Edit
  edits_of (Kept us) = []
  edits_of (Claimed c head fs last) = claim_edit text ts c ∷ []
  edits_of (Closed c cs brace) = record { from = brace.at; to = brace.at; written = monitors_written text ts layer c cs } ∷ []

  abbrev pub all_edits : List Segment → List Edit
  all_edits [] = []
  all_edits (s ∷ ss) = edits_of s ++ all_edits ss

  -- the name of a changed claim is its first token, its formula stands at its place, and what the edit takes for the formula is that
  pub record IsClaimed (c : Changed) (head fs : Tokens) (last : Token) : Type 0 where
    pub name : Token
    pub more : Tokens
    pub head_is : head ≡ name ∷ more
    pub name_at : name.at ≡ c.name
    pub first : Token
    pub rest : Tokens
    pub formula_is : fs ≡ first ∷ rest
    pub formula_at : first.at ≡ c.place
    pub is_part : part (formula_tokens text ts c) ≡ fs
    pub is_behind : begin_of (behind_part (formula_tokens text ts c)) ≡ last.at

  -- so it is with a segment, and each piece that is written is read alone
  abbrev pub IsGood : Segment → Type 0
  IsGood (Kept us) = Unit {0}
  IsGood (Claimed c head fs last) = IsClaimed c head fs last × AllByRecursion IsWhole (body text ts c)
  IsGood (Closed c cs brace) = AllByRecursion IsWhole (inserted c cs)
