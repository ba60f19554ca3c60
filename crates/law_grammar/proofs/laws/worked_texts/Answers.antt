-- By computing what is read.
use Rattle.std.proofs.Common.{◌≡◌, ℕ, Result, Ok, refl, subst}
use Rattle.smv_core.specs.declared.tree.Text.{Text}
use Rattle.smv_core.specs.Notation.{Tokens}
use Rattle.smv_core.specs.Spelling.{Spells}
use Rattle.law_grammar.specs.Parsing.{Halt}
use Rattle.law_grammar.specs.Laws.{IsRight}
use Rattle.law_grammar.specs.Items.{read_text}
use Rattle.law_grammar.specs.WorkedTexts.{types_text, types_tree, items_text, items_tree, statements_text, statements_tree, nearest_text, nearest_tree}
use Rattle.law_grammar.proofs.Computing.{computing}
use Rattle.law_grammar.proofs.Whole.{answered}
use Rattle.law_grammar.proofs.laws.worked_texts.Goals as goal

-- what is read is spelled
pub spelled : (n : ℕ) (ts : Tokens) (x : Text) → read_text n ts ≡ Ok x → Spells n ts x
spelled n ts x e = let P : Result Text Halt → Type 0 = λ o. IsRight n 0 ts o in subst P e (answered n 0 ts)

types-read : read_text 64 types_text ≡ Ok types_tree
unfolding computing
types-read = refl

items-read : read_text 64 items_text ≡ Ok items_tree
unfolding computing
items-read = refl

statements-read : read_text 64 statements_text ≡ Ok statements_tree
unfolding computing
statements-read = refl

nearest-read : read_text 64 nearest_text ≡ Ok nearest_tree
unfolding computing
nearest-read = refl

pub returns-clause-types : goal.returns-clause-types
returns-clause-types c = spelled 64 types_text types_tree types-read

pub returns-clause-items : goal.returns-clause-items
returns-clause-items c = spelled 64 items_text items_tree items-read

pub returns-clause-statements : goal.returns-clause-statements
returns-clause-statements c = spelled 64 statements_text statements_tree statements-read

pub returns-clause-nearest_else : goal.returns-clause-nearest_else
returns-clause-nearest_else c = spelled 64 nearest_text nearest_tree nearest-read
