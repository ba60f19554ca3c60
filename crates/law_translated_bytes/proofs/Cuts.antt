-- A text with other bytes in place of those of some tokens, or before some, and the kinds of its tokens.
use Rattle.std.proofs.Common.{ℕ, List, [], ◌∷◌, ◌++◌, drop, codes}
use Rattle.std.specs.List.{AllByRecursion}
use Rattle.smv_core.specs.declared.token.Token.{Token}
use Rattle.smv_core.specs.declared.token.TokenKind.{TokenKind}
use Rattle.smv_core.specs.Notation.{Tokens}
use Rattle.law_lexed_parts.specs.Parts.{end_of_all}
use Rattle.law_spelled_alike.specs.Local.{kinds_of}
use Rattle.law_strengthened_claims.specs.Renaming.{between}
use Rattle.law_translated_texts.specs.Phrases.{Pieces}
use Rattle.law_translated_texts.specs.Translation.{spaced}
use Rattle.law_written_formulas.specs.Kinds.{kinds_of_pieces}
use Rattle.law_written_formulas.specs.Laws.{IsWhole}

-- tokens that stay; pieces in place of tokens; pieces before a token
pub data Cut : Type 0 where
  Same : Tokens → Cut
  Other : Token → Tokens → Pieces → Cut
  Before : Pieces → Token → Cut

abbrev pub tokens_of : Cut → Tokens
tokens_of (Same us) = us
tokens_of (Other t fs ps) = t ∷ fs
tokens_of (Before ps t) = t ∷ []

abbrev pub tokens : List Cut → Tokens
tokens [] = []
tokens (c ∷ cs) = tokens_of c ++ tokens cs

abbrev pub new_kinds_of : Cut → List TokenKind
new_kinds_of (Same us) = kinds_of us
new_kinds_of (Other t fs ps) = kinds_of_pieces ps
new_kinds_of (Before ps t) = kinds_of_pieces ps ++ (t.kind ∷ [])

abbrev pub new_kinds : List Cut → List TokenKind
new_kinds [] = []
new_kinds (c ∷ cs) = new_kinds_of c ++ new_kinds cs

abbrev pub IsFine : Cut → Type 0
IsFine (Same us) = Unit {0}
IsFine (Other t fs ps) = AllByRecursion IsWhole ps
IsFine (Before ps t) = AllByRecursion IsWhole ps

-- pieces with a blank before each, and one behind them
abbrev pub blanked : Pieces → List ℕ → List ℕ
blanked ps more = spaced ps ++ (codes " " ++ more)

-- the text from an offset on
abbrev pub made : List ℕ → ℕ → List Cut → List ℕ
made text from [] = drop from text
made text from (Same us ∷ cs) = made text from cs
made text from (Other t fs ps ∷ cs) = between text from t.at ++ blanked ps (made text (end_of_all text (t ∷ fs)) cs)
made text from (Before ps t ∷ cs) = between text from t.at ++ blanked ps (made text t.at cs)
