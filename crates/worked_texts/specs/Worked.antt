-- How a worked text is stated: its bytes, and the first fault of its names or its size.
use Rattle.std.specs.Prelude.{ℕ, List, ◌≡◌, map, Option, Some, None, Result, Ok, Err}
use Rattle.smv_core.specs.declared.fault.Fault.{Fault}
use Rattle.smv_core.specs.declared.tree.Text.{Text}
use Rattle.smv_lex.specs.Lexing.{Lexed, lexed}
use Rattle.law_grammar.specs.Parsing.{Halt}
use Rattle.law_grammar.specs.Items.{read_text}
use Rattle.smv_mentions.specs.FirstFault.{first_fault}

-- what a text is found to have: a fault of a number at a place, none, or no tree
pub data Answer : Type 0 where
  fault : ℕ → ℕ → Answer
  valid : Answer
  unread : Answer

abbrev pub answer_of : Option Fault → Answer
answer_of None = valid
answer_of (Some f) = fault f.number f.at

abbrev pub of_tree : Result Text Halt → Answer
of_tree (Ok text) = answer_of (first_fault text)
of_tree (Err halt) = unread

abbrev pub of_tokens : Lexed → Answer
of_tokens (Ok tokens) = of_tree (read_text 64 tokens)
of_tokens (Err f) = unread

-- the first fault of the names or the size of these bytes
abbrev pub found_in : List ℕ → Answer
found_in text = of_tokens (lexed text)

-- each text has the answer that was worked out for it
abbrev pub AreFound : List (List ℕ × Answer) → Type 0
AreFound rows = map (λ (text, answer). found_in text) rows ≡ map (λ (text, answer). answer) rows
