-- By computing what is read.
use Rattle.std.proofs.Common.{◌≡◌, ℕ, true, false, [], ◌∷◌, Result, Ok, Err, refl, subst}
use Rattle.smv_core.specs.declared.tree.Text.{Text}
use Rattle.smv_core.specs.declared.tree.Expr.TheVariants as expr
use Rattle.smv_core.specs.declared.tree.Item.TheVariants as item
use Rattle.smv_core.specs.Notation.{Tokens}
use Rattle.smv_core.specs.Spelling.{IsUnexpected, IsTooDeep, place_of_rest}
use Rattle.law_grammar.specs.Parsing.{Halt, Halts}
use Rattle.law_grammar.specs.Laws.{IsRight}
use Rattle.law_grammar.specs.Items.{read_text}
use Rattle.law_grammar.specs.WorkedTexts.{module_of, set_x, free_text, bare_text, claim_text, unfinished_text, deep_text}
use Rattle.law_grammar.proofs.Computing.{computing}
use Rattle.law_grammar.proofs.Whole.{answered}
use Rattle.law_grammar.proofs.laws.worked_faults.Goals as goal

-- where a text halts
abbrev halt_of : Result Text Halt → Tokens
halt_of (Ok x) = []
halt_of (Err (Halts deep bad)) = bad

right : (n : ℕ) (ts : Tokens) (o : Result Text Halt) → read_text n ts ≡ o → IsRight n 100 ts o
right n ts o e = let P : Result Text Halt → Type 0 = λ o. IsRight n 100 ts o in subst P e (answered n 100 ts)

free-read : read_text 64 free_text ≡ Err (Halts false (halt_of (read_text 64 free_text)))
unfolding computing
free-read = refl

free-place : place_of_rest 100 (halt_of (read_text 64 free_text)) ≡ 10
unfolding computing
free-place = refl

bare-read : read_text 64 bare_text ≡ Err (Halts false (halt_of (read_text 64 bare_text)))
unfolding computing
bare-read = refl

bare-place : place_of_rest 100 (halt_of (read_text 64 bare_text)) ≡ 7
unfolding computing
bare-place = refl

claim-read : read_text 64 claim_text ≡ Err (Halts false (halt_of (read_text 64 claim_text)))
unfolding computing
claim-read = refl

claim-place : place_of_rest 100 (halt_of (read_text 64 claim_text)) ≡ 11
unfolding computing
claim-place = refl

end-read : read_text 64 unfinished_text ≡ Err (Halts false [])
unfolding computing
end-read = refl

fits-read : read_text 64 (deep_text 63) ≡ Ok (module_of (item.Act (set_x 5 (expr.Number 1 70)) ∷ []))
unfolding computing
fits-read = refl

deep-read : read_text 64 (deep_text 64) ≡ Err (Halts true (halt_of (read_text 64 (deep_text 64))))
unfolding computing
deep-read = refl

deep-place : place_of_rest 100 (halt_of (read_text 64 (deep_text 64))) ≡ 70
unfolding computing
deep-place = refl

unexpected : (ts : Tokens) (bad : Tokens) (at : ℕ) → read_text 64 ts ≡ Err (Halts false bad) → place_of_rest 100 bad ≡ at → IsUnexpected 64 100 ts at
unexpected ts bad at e p = let P : ℕ → Type 0 = λ z. IsUnexpected 64 100 ts z in subst P p (right 64 ts (Err (Halts false bad)) e)

too-deep : (ts : Tokens) (bad : Tokens) (at : ℕ) → read_text 64 ts ≡ Err (Halts true bad) → place_of_rest 100 bad ≡ at → IsTooDeep 64 ts at
too-deep ts bad at e p = let P : ℕ → Type 0 = λ z. IsTooDeep 64 ts z in subst P p (right 64 ts (Err (Halts true bad)) e)

pub returns-clause-free : goal.returns-clause-free
returns-clause-free c = unexpected free_text _ 10 free-read free-place

pub returns-clause-bare : goal.returns-clause-bare
returns-clause-bare c = unexpected bare_text _ 7 bare-read bare-place

pub returns-clause-brackets : goal.returns-clause-brackets
returns-clause-brackets c = unexpected claim_text _ 11 claim-read claim-place

pub returns-clause-end : goal.returns-clause-end
returns-clause-end c = unexpected unfinished_text [] 100 end-read refl

pub returns-clause-fits : goal.returns-clause-fits
returns-clause-fits c = right 64 (deep_text 63) (Ok (module_of (item.Act (set_x 5 (expr.Number 1 70)) ∷ []))) fits-read

pub returns-clause-too_deep : goal.returns-clause-too_deep
returns-clause-too_deep c = too-deep (deep_text 64) _ 70 deep-read deep-place
