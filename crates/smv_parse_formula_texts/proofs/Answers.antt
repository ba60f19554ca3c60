-- Bytes spell one text with formulas or have one fault.
use Rattle.std.proofs.Common.{◌≡◌, ◌≤◌, ℕ, Bool, true, false, ◌⊎◌, inl, inr, List, [], ◌∷◌, ◌++◌, Result, Ok, Err, length, refl, sym, ◌∙◌, ap, subst, arith}
use Rattle.smv_core.specs.Notation.{Tokens}
use Rattle.smv_core.specs.Spelling.{place_of_rest}
use Rattle.smv_lex.specs.Lexing.{Lexed, lexed}
use Rattle.law_grammar.specs.Parsing.{Halt, Halts}
use Rattle.law_grammar.specs.Laws.{Rise}
use Rattle.law_formulas.specs.Formulas.{FormulaText}
use Rattle.law_formula_texts.specs.Spelled.{SpellsFormulas}
use Rattle.law_formula_grammar.specs.Grammar.{text_rule}
use Rattle.law_formula_grammar.specs.Spelling.{SpellsBy}
use Rattle.law_formula_grammar.specs.Readers.{read_text}
use Rattle.law_formula_grammar.specs.Laws.{IsRightBy}
use Rattle.law_formula_grammar.proofs.Answers.{answered, only-text, only-unexpected, only-too-deep}
use Rattle.law_formula_grammar.proofs.Same.{same-text}
use Rattle.law_formula_grammar.proofs.Back.{back-text}
use Rattle.smv_parse.proofs.Rising.{FromOn, from-start}
use Rattle.smv_parse_formula_texts.specs.Spelling.{levels, SpellsText, HasFault, of_bytes, unexpected, too_deep}
use Rattle.smv_parse_formula_texts.specs.Laws.{IsOneText, IsOneFault, IsNotBoth, IsEither, IsWithin}
use Rattle.smv_parse_formula_texts.proofs.Once.{once}

pub rising : (text : List ℕ) (tokens : Tokens) → lexed text ≡ Ok tokens → Rise (length text) tokens
rising text tokens is = (subst (FromOn (length text) 0) is (from-start text)).0

-- the tokens of bytes spell the same by both grammars
pub spelled : (text : List ℕ) (tokens : Tokens) (tree : FormulaText) → lexed text ≡ Ok tokens → SpellsBy text_rule levels tokens tree → SpellsFormulas levels tokens tree
spelled text tokens tree is h = same-text levels tokens tree (once (length text) tokens (rising text tokens is)) h

by-rules : (text : List ℕ) (tokens : Tokens) (tree : FormulaText) → lexed text ≡ Ok tokens → SpellsFormulas levels tokens tree → SpellsBy text_rule levels tokens tree
by-rules text tokens tree is h = back-text levels tokens tree (once (length text) tokens (rising text tokens is)) h

-- What bytes answer, by the lexer and the reader of texts alone.
data Answer : Type 0 where
  a_text : Tokens → FormulaText → Answer
  a_fault : ℕ → ℕ → Answer

abbrev number_of : Bool → ℕ
number_of false = 5
number_of true = 6

abbrev of_reader : ℕ → Tokens → Result FormulaText Halt → Answer
of_reader end tokens (Ok tree) = a_text tokens tree
of_reader end tokens (Err (Halts deep bad)) = a_fault (number_of deep) (place_of_rest end bad)

abbrev of_lexer : ℕ → Lexed → Answer
of_lexer end (Ok tokens) = of_reader end tokens (read_text levels tokens)
of_lexer end (Err fault) = a_fault fault.number fault.at

abbrev answer : List ℕ → Answer
answer text = of_lexer (length text) (lexed text)

of-text : (text : List ℕ) (tokens : Tokens) (tree : FormulaText) → SpellsText text tokens tree → answer text ≡ a_text tokens tree
of-text text tokens tree h =
    let read = only-text levels tokens tree (by-rules text tokens tree h.0 h.1) in
    ap (of_lexer (length text)) h.0 ∙ ap (of_reader (length text) tokens) read

of-fault : (text : List ℕ) (number at : ℕ) → HasFault text number at → answer text ≡ a_fault number at
of-fault text number at (of_bytes is) = ap (of_lexer (length text)) is
of-fault text number at (unexpected {tokens = tokens} is bad) =
    let h = only-unexpected levels (length text) tokens at (rising text tokens is) bad in
    ap (of_lexer (length text)) is ∙ ap (of_reader (length text) tokens) h.1 ∙ ap (a_fault 5) (sym h.2)
of-fault text number at (too_deep {tokens = tokens} is bad) =
    let h = only-too-deep levels (length text) tokens at (rising text tokens is) bad in
    ap (of_lexer (length text)) is ∙ ap (of_reader (length text) tokens) h.1 ∙ ap (a_fault 6) (sym h.2)

pub one-text : IsOneText
one-text text ts more tree other h k = let e : a_text ts tree ≡ a_text more other = sym (of-text text ts tree h) ∙ of-text text more other k in (cc, cc)

pub one-fault : IsOneFault
one-fault text number other at place h k =
    let e : a_fault number at ≡ a_fault other place = sym (of-fault text number at h) ∙ of-fault text other place k in (cc, cc)

pub not-both : IsNotBoth
not-both text ts tree number at h k = let e : a_text ts tree ≡ a_fault number at = sym (of-text text ts tree h) ∙ of-fault text number at k in absurd cc

pub either : IsEither
either text = by (lexed text) refl
  where
    of-tokens : (tokens : Tokens) → lexed text ≡ Ok tokens → (o : Result FormulaText Halt) → IsRightBy text_rule levels (length text) tokens o
        → ((ts : Tokens) × (tree : FormulaText) × SpellsText text ts tree) ⊎ ((number : ℕ) × (at : ℕ) × HasFault text number at)
    of-tokens tokens is (Ok tree) right = inl (tokens, tree, (is, spelled text tokens tree is right))
    of-tokens tokens is (Err (Halts false bad)) right = inr (5, place_of_rest (length text) bad, unexpected is right)
    of-tokens tokens is (Err (Halts true bad)) right = inr (6, place_of_rest (length text) bad, too_deep is right)

    by : (read : Lexed) → lexed text ≡ read → ((ts : Tokens) × (tree : FormulaText) × SpellsText text ts tree) ⊎ ((number : ℕ) × (at : ℕ) × HasFault text number at)
    by (Ok tokens) is = of-tokens tokens is (read_text levels tokens) (answered levels (length text) tokens)
    by (Err fault) is = inr (fault.number, fault.at, of_bytes is)

-- what is left of tokens that rise begins within the text
rest-within : (end : ℕ) (front rest : Tokens) → Rise end (front ++ rest) → place_of_rest end rest ≤ end
rest-within end [] [] rise = omega arith
rest-within end [] (t ∷ rest) rise = let h = rest-within end [] rest rise.1 in omega (arith, h, rise.0)
rest-within end (t ∷ front) rest rise = rest-within end front rest rise.1

pub within : IsWithin
within text number at (of_bytes is) = let h = subst (FromOn (length text) 0) is (from-start text) in (h.0, omega (arith, h.1), omega (arith, h.3))
within text number at (unexpected {tokens = tokens} is bad) =
    let rise = subst (Rise (length text)) bad.split (rising text tokens is) in
    let h = rest-within (length text) bad.front bad.rest rise in
    (omega arith, omega arith, omega (arith, h, bad.place))
within text number at (too_deep {tokens = tokens} is bad) =
    let rise = subst (Rise (length text)) bad.split (rising text tokens is) in
    let h = rest-within (length text) bad.front (bad.token ∷ bad.rest) rise in
    (omega arith, omega arith, omega (arith, h, bad.place))
