-- Where the parts of formulas stand among the tokens of a text.
use Rattle.std.specs.Prelude.{ℕ, zero, suc, ◌==◌, Bool, List, [], ◌∷◌, take, drop, take_while, not, map, if◌then◌else◌}
use Rattle.std.specs.List.{list_any}
use Rattle.smv_core.specs.declared.token.Token.{Token}
use Rattle.smv_core.specs.declared.token.TokenKind.{TokenKind}
use Rattle.smv_core.specs.Signs.{open_paren, close_paren, open_bracket, close_bracket, open_brace, close_brace, semicolon, comma}
use Rattle.smv_core.specs.Notation.{Tokens, same_kind}
use Rattle.law_lexed_parts.specs.Parts.{begin_of, end_of, end_of_all}
use Rattle.law_exchanged.specs.Claims.{from_first}
use Rattle.law_strengthened_claims.specs.Renaming.{between}
use Rattle.law_formulas.specs.Formulas.{Formula, now, next, when, weak}

-- the tokens from the one at this offset on
abbrev pub from_place : ℕ → Tokens → Tokens
from_place at ts = from_first (λ (t : Token). t.at == at) ts

-- ---- parts

abbrev pub is_one_of : List TokenKind → TokenKind → Bool
is_one_of kinds k = list_any (same_kind k) kinds

-- whether a token opens a bracket, closes one, parts what stands beside it, or does nothing of the kind
pub data Mark : Type 0 where
  Opens Closes Parts Stays : Mark

abbrev pub mark_of : TokenKind → Mark
mark_of k =
    if is_one_of (open_paren ∷ open_bracket ∷ open_brace ∷ []) k then Opens else
    if is_one_of (close_paren ∷ close_bracket ∷ close_brace ∷ []) k then Closes else
    if is_one_of (comma ∷ semicolon ∷ []) k then Parts else Stays

-- no tokens where so many brackets are open and one with this mark comes, or it and what comes behind it
abbrev pub marked : Mark → ℕ → (ℕ → ℕ) → ℕ
marked Opens depth more = suc (more (suc depth))
marked Closes zero more = zero
marked Closes (suc depth) more = suc (more depth)
marked Parts zero more = zero
marked Parts (suc depth) more = suc (more (suc depth))
marked Stays depth more = suc (more depth)

-- How many tokens there are before the first comma, semicolon or closing bracket that stands in no bracket. So many brackets are open.
abbrev pub extent : ℕ → Tokens → ℕ
extent depth [] = zero
extent depth (t ∷ ts) = marked (mark_of t.kind) depth (λ depth. extent depth ts)

-- the part with which the tokens begin, and what stands behind it
abbrev pub part : Tokens → Tokens
part ts = take (extent zero ts) ts

abbrev pub behind_part : Tokens → Tokens
behind_part ts = drop (extent zero ts) ts

-- ---- formulas as they are spelled

-- a formula with something for each condition and each expression: its tokens, or its bytes
pub data Phrase (A : Type 0) : Type 0 where
  Now : A → Phrase A
  Next : Phrase A → Phrase A
  When : A → Phrase A → Phrase A
  Weak : A → A → Phrase A

-- the tokens of the parts of a formula with which these tokens begin: `X (f)`, `if (c) f`, `W (p, q)` or an expression
abbrev pub parts_of : Formula → Tokens → Phrase Tokens
parts_of (now e) ts = Now (part ts)
parts_of (next at f) ts = Next (parts_of f (drop 2 ts))
parts_of (when c f) ts = let es = drop 2 ts in When (part es) (parts_of f (drop 1 (behind_part es)))
parts_of (weak p q) ts = let es = drop 2 ts in Weak (part es) (part (drop 1 (behind_part es)))

-- ---- bytes

-- those of some tokens, from the first byte of the first up to the last byte of the last
abbrev pub bytes_of : List ℕ → Tokens → List ℕ
bytes_of text ts = between text (begin_of ts) (end_of_all text ts)

-- those of each part of a formula
abbrev pub phrase_of : List ℕ → Phrase Tokens → Phrase (List ℕ)
phrase_of text (Now ts) = Now (bytes_of text ts)
phrase_of text (Next f) = Next (phrase_of text f)
phrase_of text (When ts f) = When (bytes_of text ts) (phrase_of text f)
phrase_of text (Weak ts us) = Weak (bytes_of text ts) (bytes_of text us)

-- those of each token
abbrev pub spelled : List ℕ → Tokens → List (List ℕ)
spelled text ts = map (λ (t : Token). between text t.at (end_of text t)) ts

-- those of each token of the type in `( name in T )`, where the name stands at this offset
abbrev pub type_at : List ℕ → Tokens → ℕ → List (List ℕ)
type_at text ts at = spelled text (take_while (λ (t : Token). not (same_kind t.kind close_paren)) (drop 2 (from_place at ts)))
