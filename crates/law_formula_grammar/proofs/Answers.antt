-- The reader of texts with formulas: its answer is right, and no other is.
use Rattle.std.proofs.Common.{refl}
use Rattle.law_grammar.specs.Lawful.{Law}
use Rattle.law_grammar.specs.Marks.{stops_by}
use Rattle.law_grammar.specs.Items.{top_marks}
use Rattle.std.proofs.Common.{ℕ, arith}
use Rattle.law_grammar.proofs.One as one
use Rattle.law_formula_grammar.specs.Grammar.{text_rule}
use Rattle.law_formula_grammar.specs.Readers.{read_tops}
use Rattle.law_formula_grammar.specs.Laws.{IsOneText, IsAnswered, IsOnlyText, IsOnlyUnexpected, IsOnlyTooDeep}
use Rattle.law_formula_grammar.proofs.Texts.{texts}
use Rattle.law_formula_grammar.proofs.Whole as w
use Rattle.law_formula_grammar.proofs.Only as o

-- the law of the reader of texts
pub law : (n : ℕ) → Law text_rule n (read_tops n) (stops_by (λ ft. top_marks))
law n = (texts n).law tt

pub one-text : IsOneText
one-text n m ts x y h k = one.at-most-one text_rule read_tops _ law (λ a. refl) n m ts x y h k

pub answered : IsAnswered
answered n length ts = w.answered text_rule read_tops _ law (λ a. refl) n length ts

pub only-text : IsOnlyText
only-text n ts x h = let e = one.all-read text_rule read_tops _ law (λ a. refl) n n ts x (omega arith) h in rw e refl

pub only-unexpected : IsOnlyUnexpected
only-unexpected n length ts at rise x = o.only-unexpected text_rule read_tops _ law (λ a. refl) n length ts at rise x

pub only-too-deep : IsOnlyTooDeep
only-too-deep n length ts at rise x = o.only-too-deep text_rule read_tops _ law (λ a. refl) n length ts at rise x
