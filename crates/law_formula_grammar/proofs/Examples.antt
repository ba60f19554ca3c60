-- The worked texts, by computing what is read.
use Rattle.std.proofs.Common.{◌≡◌, ℕ, true, false, [], ◌∷◌, codes, map, Result, Ok, Err, refl, subst}
use Rattle.smv_core.specs.declared.token.Token.{Token}
use Rattle.smv_core.specs.Notation.{Tokens}
use Rattle.smv_core.specs.Spelling.{place_of_rest}
use Rattle.law_places.proofs.Computing as trees
use Rattle.law_grammar.specs.Parsing.{Halt, Halts}
use Rattle.law_formulas.specs.Formulas.{FormulaText}
use Rattle.law_formulas.specs.Monitors.{translated_by}
use Rattle.law_fresh_monitors.specs.Spots.{NoneTwice}
use Rattle.law_formula_texts.specs.Spelled.{SpellsFormulas}
use Rattle.law_formula_grammar.specs.Grammar.{text_rule}
use Rattle.law_formula_grammar.specs.Readers.{read_text}
use Rattle.law_formula_grammar.specs.Spelling.{SpellsBy, IsUnexpectedBy, IsTooDeepBy}
use Rattle.law_formula_grammar.specs.Laws.{IsRightBy}
use Rattle.law_formula_grammar.specs.Worked.{operand_text, bare_text, two_text, else_text, deep_text, toggle_text, toggle_tree, toggle_watched, ToggleIsSpelled, several_text, several_tree, SeveralAreSpelled, XIsNoOperand, XIsNotBare, WHasTwo, NoElse, XIsTooDeep}
use Rattle.law_formula_grammar.proofs.Answers.{answered}
use Rattle.law_formula_grammar.proofs.Computing.{computing}
use Rattle.law_formula_grammar.proofs.Same.{same-text}

right : (n length : ℕ) (ts : Tokens) (o : Result FormulaText Halt) → read_text n ts ≡ o → IsRightBy text_rule n length ts o
right n length ts o e = subst (IsRightBy text_rule n length ts) e (answered n length ts)

-- what is read is spelled
both : (ts : Tokens) (ft : FormulaText) → read_text 64 ts ≡ Ok ft → NoneTwice (map (λ (t : Token). t.at) ts) → SpellsBy text_rule 64 ts ft × SpellsFormulas 64 ts ft
both ts ft e once = let s : SpellsBy text_rule 64 ts ft = right 64 0 ts (Ok ft) e in (s, same-text 64 ts ft once s)

toggle-read : read_text 64 toggle_text ≡ Ok toggle_tree
unfolding computing
toggle-read = refl

toggle-translated : translated_by (codes "m0" ∷ codes "m1" ∷ []) toggle_tree ≡ toggle_watched
unfolding trees.computing
toggle-translated = refl

toggle-once : NoneTwice (map (λ (t : Token). t.at) toggle_text)
toggle-once = search

pub toggle-spelled : ToggleIsSpelled
toggle-spelled = let s = both toggle_text toggle_tree toggle-read toggle-once in (s.0, s.1, toggle-translated)

several-read : read_text 64 several_text ≡ Ok several_tree
unfolding computing
several-read = refl

several-once : NoneTwice (map (λ (t : Token). t.at) several_text)
several-once = search

pub several-spelled : SeveralAreSpelled
several-spelled = both several_text several_tree several-read several-once

-- ---- faults

-- where a text halts
abbrev halt_of : Result FormulaText Halt → Tokens
halt_of (Ok x) = []
halt_of (Err (Halts deep bad)) = bad

unexpected : (ts bad : Tokens) (at : ℕ) → read_text 64 ts ≡ Err (Halts false bad) → place_of_rest 100 bad ≡ at → IsUnexpectedBy text_rule 64 100 ts at
unexpected ts bad at e p = subst (IsUnexpectedBy text_rule 64 100 ts) p (right 64 100 ts (Err (Halts false bad)) e)

operand-read : read_text 64 operand_text ≡ Err (Halts false (halt_of (read_text 64 operand_text)))
unfolding computing
operand-read = refl

operand-place : place_of_rest 100 (halt_of (read_text 64 operand_text)) ≡ 11
unfolding computing
operand-place = refl

pub operand-fault : XIsNoOperand
operand-fault = unexpected operand_text _ 11 operand-read operand-place

bare-read : read_text 64 bare_text ≡ Err (Halts false (halt_of (read_text 64 bare_text)))
unfolding computing
bare-read = refl

bare-place : place_of_rest 100 (halt_of (read_text 64 bare_text)) ≡ 10
unfolding computing
bare-place = refl

pub bare-fault : XIsNotBare
bare-fault = unexpected bare_text _ 10 bare-read bare-place

two-read : read_text 64 two_text ≡ Err (Halts false (halt_of (read_text 64 two_text)))
unfolding computing
two-read = refl

two-place : place_of_rest 100 (halt_of (read_text 64 two_text)) ≡ 12
unfolding computing
two-place = refl

pub two-fault : WHasTwo
two-fault = unexpected two_text _ 12 two-read two-place

else-read : read_text 64 else_text ≡ Err (Halts false (halt_of (read_text 64 else_text)))
unfolding computing
else-read = refl

else-place : place_of_rest 100 (halt_of (read_text 64 else_text)) ≡ 17
unfolding computing
else-place = refl

pub else-fault : NoElse
else-fault = unexpected else_text _ 17 else-read else-place

deep-read : read_text 64 deep_text ≡ Err (Halts true (halt_of (read_text 64 deep_text)))
unfolding computing
deep-read = refl

deep-place : place_of_rest 100 (halt_of (read_text 64 deep_text)) ≡ 136
unfolding computing
deep-place = refl

pub deep-fault : XIsTooDeep
deep-fault = subst (IsTooDeepBy text_rule 64 deep_text) deep-place (right 64 100 deep_text (Err (Halts true (halt_of (read_text 64 deep_text)))) deep-read)
