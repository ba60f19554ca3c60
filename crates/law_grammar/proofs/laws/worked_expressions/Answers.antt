-- By computing what is read.
use Rattle.std.proofs.Common.{◌≡◌, ℕ, zero, suc, [], Ok, codes, refl, arith}
use Rattle.smv_core.specs.declared.tree.Expr.{Expr}
use Rattle.smv_core.specs.Notation.{Tokens}
use Rattle.law_grammar.specs.Expressions as p
use Rattle.law_grammar.specs.Worked.{implications, in_parentheses, comprehension}
use Rattle.law_grammar.proofs.Expressions.{At, expressions}
use Rattle.law_grammar.proofs.One.{is-spelled, none-spelled}
use Rattle.smv_core.specs.Grammar as g
use Rattle.law_grammar.proofs.laws.worked_expressions.Goals as goal

read : (n : ℕ) (ts : Tokens) (x : Expr) → p.read_expr n (p.expr_readers n) ts ≡ Ok (x, []) → g.expr_rule (λ at. 0) n (g.below (λ at. 0) n) ts x []
read n ts x e = is-spelled (At g.expr_rule) (λ n. p.read_expr n (p.expr_readers n)) _ (λ n. (expressions n).law tt) (λ a. refl) n ts x e

unread : (n : ℕ) (ts : Tokens) → ((x : Expr) → p.read_expr n (p.expr_readers n) ts ≡ Ok (x, []) → ⊥) → (x : Expr) → g.expr_rule (λ at. 0) n (g.below (λ at. 0) n) ts x [] → ⊥
unread n ts k x h = none-spelled (At g.expr_rule) (λ n. p.read_expr n (p.expr_readers n)) _ (λ n. (expressions n).law tt) (λ a. refl) n n ts (omega arith) k x h

pub returns-clause-one_chain : goal.returns-clause-one_chain
unfolding p.read_expr p.read_equivalence p.read_implication p.read_disjunction p.read_conjunction p.read_negation p.read_comparison p.read_modulo p.read_sum p.read_prim p.read_path
returns-clause-one_chain c = read 0 implications _ refl

pub returns-clause-fits : goal.returns-clause-fits
unfolding p.read_expr p.read_equivalence p.read_implication p.read_disjunction p.read_conjunction p.read_negation p.read_comparison p.read_modulo p.read_sum p.read_prim p.read_condition
returns-clause-fits c = read 64 (in_parentheses 64) _ refl

pub returns-clause-does_not_fit : goal.returns-clause-does_not_fit
unfolding p.read_expr p.read_equivalence p.read_implication p.read_disjunction p.read_conjunction p.read_negation p.read_comparison p.read_modulo p.read_sum p.read_prim p.read_condition
returns-clause-does_not_fit c = (read 65 (in_parentheses 65) _ refl, unread 64 (in_parentheses 65) (λ x h. cc))

different : (n : ℕ) (x : Expr) → p.read_expr n (p.expr_readers n) (comprehension (codes "a") (codes "b")) ≡ Ok (x, []) → ⊥
unfolding p.read_expr p.read_equivalence p.read_implication p.read_disjunction p.read_conjunction p.read_negation p.read_comparison p.read_modulo p.read_sum p.read_prim p.read_set p.read_each
different zero x h = cc
different (suc n) x h = cc

pub returns-clause-different_names : goal.returns-clause-different_names
returns-clause-different_names c n x h = unread n (comprehension (codes "a") (codes "b")) (different n) x h

pub returns-clause-equal_names : goal.returns-clause-equal_names
unfolding p.read_expr p.read_equivalence p.read_implication p.read_disjunction p.read_conjunction p.read_negation p.read_comparison p.read_modulo p.read_sum p.read_prim p.read_set p.read_each p.read_index p.read_where
returns-clause-equal_names c = read 1 (comprehension (codes "a") (codes "a")) _ refl
