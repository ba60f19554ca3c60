-- A text has one translation, or one reason why it is not translated.
use Rattle.std.proofs.Common.{◌≡◌, ◌∙◌, ◌≤◌, ℕ, Bool, true, false, List, length, Option, Some, None, Result, Ok, Err, sym, ap, subst, nat_lt}
use Rattle.law_lists.proofs.Numbers.{nat_lt-true, nat_lt-false}
use Rattle.smv_core.specs.Notation.{Tokens}
use Rattle.smv_core.specs.Spelling.{place_of_rest}
use Rattle.smv_lex.specs.Lexing.{Lexed, lexed}
use Rattle.smv_parse.proofs.Rising.{FromOn, from-start}
use Rattle.law_grammar.specs.Parsing.{Halt, Halts}
use Rattle.law_grammar.specs.Laws.{Rise}
use Rattle.law_formulas.specs.Formulas.{FormulaText}
use Rattle.law_formulas.specs.Ninths.{first_ninth}
use Rattle.law_formula_texts.specs.Spelled.{SpellsFormulas}
use Rattle.law_formula_grammar.specs.Readers.{read_text}
use Rattle.law_formula_grammar.proofs.Answers.{only-text, only-unexpected, only-too-deep}
use Rattle.law_formula_grammar.proofs.Back.{back-text}
use Rattle.law_translated_texts.specs.Translation.{Translation, translation_of}
use Rattle.law_translated_texts.specs.Answers.{levels, limit, IsTranslated, IsRefused, too_long, of_bytes, unexpected, too_deep, too_many, too_long_translated}
use Rattle.law_ltl_answers.specs.Laws.{NotBothTranslated, OneRefusal}
use Rattle.law_ltl_answers.proofs.Tokens.{offsets-once}

-- What a text answers, by the lexer and the reader of texts with formulas.
data Answer : Type 0 where
  a_tree : Tokens → FormulaText → Answer
  a_fault : ℕ → ℕ → Answer

abbrev if_short : Bool → Answer → Answer
if_short true a = a_fault 31 0
if_short false a = a

abbrev number_of : Bool → ℕ
number_of false = 5
number_of true = 6

module _ (text : List ℕ) where
  abbrev of_ninth : Tokens → FormulaText → Option ℕ → Answer
  of_ninth ts ft (Some at) = a_fault 37 at
  of_ninth ts ft None = if_short (nat_lt limit (length (translation_of text ts ft).text)) (a_tree ts ft)

  abbrev of_reader : Tokens → Result FormulaText Halt → Answer
  of_reader ts (Ok ft) = of_ninth ts ft (first_ninth ft.formulas)
  of_reader ts (Err (Halts deep rest)) = a_fault (number_of deep) (place_of_rest (length text) rest)

  abbrev of_lexer : Lexed → Answer
  of_lexer (Ok ts) = of_reader ts (read_text levels ts)
  of_lexer (Err fault) = a_fault fault.number fault.at

  abbrev answer : Answer
  answer = if_short (nat_lt limit (length text)) (of_lexer (lexed text))

  rise : (ts : Tokens) → lexed text ≡ Ok ts → Rise (length text) ts
  rise ts read = (subst (FromOn (length text) 0) read (from-start text)).0

  short : length text ≤ limit → answer ≡ of_lexer (lexed text)
  short le = ap (λ b. if_short b (of_lexer (lexed text))) (nat_lt-false limit (length text) le)

  to-ninth : (ts : Tokens) (ft : FormulaText) → length text ≤ limit → lexed text ≡ Ok ts → SpellsFormulas levels ts ft → answer ≡ of_ninth ts ft (first_ninth ft.formulas)
  to-ninth ts ft le read spelled = short le ∙ ap of_lexer read ∙ ap (of_reader ts) (only-text levels ts ft (back-text levels ts ft (offsets-once text ts read) spelled))

  of-translated : (t : Translation) (is : IsTranslated text t) → answer ≡ a_tree is.tokens is.tree
  of-translated t is =
      let ts = is.tokens in
      let ft = is.tree in
      let r = is.readable in
      let fits : length (translation_of text ts ft).text ≤ limit = subst (λ (z : Translation). length z.text ≤ limit) is.translated is.fits in
      to-ninth ts ft r.fits r.read r.spelled ∙ ap (of_ninth ts ft) r.no_ninth ∙ ap (λ b. if_short b (a_tree ts ft)) (nat_lt-false limit (length (translation_of text ts ft).text) fits)

  of-refused : (number at : ℕ) → IsRefused text number at → answer ≡ a_fault number at
  of-refused _ _ (too_long long) = ap (λ b. if_short b (of_lexer (lexed text))) (nat_lt-true limit (length text) long)
  of-refused _ _ (of_bytes le is) = short le ∙ ap of_lexer is
  of-refused _ _ (unexpected {ts = ts} {at = at} le is bad) =
      let h = only-unexpected levels (length text) ts at (rise ts is) bad in
      short le ∙ ap of_lexer is ∙ ap (of_reader ts) h.1 ∙ ap (a_fault 5) (sym h.2)
  of-refused _ _ (too_deep {ts = ts} {at = at} le is bad) =
      let h = only-too-deep levels (length text) ts at (rise ts is) bad in
      short le ∙ ap of_lexer is ∙ ap (of_reader ts) h.1 ∙ ap (a_fault 6) (sym h.2)
  of-refused _ _ (too_many {ts = ts} {ft = ft} le read spelled found) = to-ninth ts ft le read spelled ∙ ap (of_ninth ts ft) found
  of-refused _ _ (too_long_translated {ts = ts} {ft = ft} r long) =
      to-ninth ts ft r.fits r.read r.spelled ∙ ap (of_ninth ts ft) r.no_ninth ∙ ap (λ b. if_short b (a_tree ts ft)) (nat_lt-true limit (length (translation_of text ts ft).text) long)

pub not-both : NotBothTranslated
not-both text t number at is refused = let e : a_tree is.tokens is.tree ≡ a_fault number at = sym (of-translated text t is) ∙ of-refused text number at refused in cc (e)

pub one-refusal : OneRefusal
one-refusal text number other at place h k = let e : a_fault number at ≡ a_fault other place = sym (of-refused text number at h) ∙ of-refused text other place k in (cc, cc)
