-- What has no formula is read as it is in any text.
use Rattle.std.proofs.Common.{◌≡◌, ℕ, List, Ok, Err, refl}
use Rattle.smv_core.specs.declared.tree.Word.{Word}
use Rattle.smv_core.specs.declared.tree.Part.{Part}
use Rattle.smv_core.specs.declared.tree.Item.TheVariants as item
use Rattle.smv_core.specs.Signs.{semicolon}
use Rattle.smv_core.specs.Signs as w
use Rattle.smv_core.specs.Notation.{Tokens}
use Rattle.law_grammar.specs.Parsing.{Outcome, Parser, and_then, bind, pure, take}
use Rattle.law_grammar.specs.Readers.{a_token, a_name}
use Rattle.law_grammar.specs.Types.{read_type, type_readers}
use Rattle.law_grammar.specs.Statements.{read_value, read_worded, stmt_readers}
use Rattle.law_grammar.specs.Items.{read_extent, item_readers}
use Rattle.law_grammar.specs.Items as g
use Rattle.law_formula_grammar.specs.Grammar.{With, bare}
use Rattle.law_formula_grammar.specs.Readers.{read_without}
use Rattle.law_formula_grammar.specs.Readers as p

-- what is read first is the same
led : {A B : Type 0} (q : Parser A) (f : A → Parser B) (h : A → Parser (With B)) → ((a : A) (ts : Tokens) → h a ts ≡ read_without (f a) ts) → (ts : Tokens) → bind q h ts ≡ read_without (bind q f) ts
led {A = A} q f h same ts = go (q ts)
  where
    go : (o : Outcome A) → and_then o h ≡ and_then (and_then o f) (λ x. pure (bare x))
    go (Err e) = refl
    go (Ok (a, rest)) = same a rest

pub assigned_by : (n : ℕ) (x : Word) (more : List Part) (ts : Tokens) → p.read_assigned n x more ts ≡ read_without (g.read_assigned n x more) ts
unfolding p.read_assigned g.read_assigned
assigned_by n x more ts = led (read_value n) _ _ (λ v rest. refl) ts

pub acted_by : (n : ℕ) (ts : Tokens) → bind (read_worded n (stmt_readers n)) (λ x. pure (bare (item.Act x))) ts ≡ read_without (bind (read_worded n (stmt_readers n)) (λ x. pure (item.Act x))) ts
acted_by n ts = led (read_worded n (stmt_readers n)) _ _ (λ x rest. refl) ts

pub scalarset_by : (n : ℕ) (ts : Tokens) → p.read_scalarset n ts ≡ read_without (g.read_scalarset n (item_readers n)) ts
unfolding p.read_scalarset g.read_scalarset
scalarset_by n ts = led (take (a_token w.word_scalarset)) _ _ (λ _. led (take a_name) _ _ (λ x. led (read_extent n (item_readers n)) _ _ (λ s. led (take (a_token semicolon)) _ _ (λ _ rest. refl)))) ts

pub ordset_by : (n : ℕ) (ts : Tokens) → p.read_ordset n ts ≡ read_without (g.read_ordset n (item_readers n)) ts
unfolding p.read_ordset g.read_ordset
ordset_by n ts = led (take (a_token w.word_ordset)) _ _ (λ _. led (take a_name) _ _ (λ x. led (take (a_token w.word_undefined)) _ _ (λ at. led (take (a_token semicolon)) _ _ (λ _ rest. refl)))) ts

pub typedef_by : (n : ℕ) (ts : Tokens) → p.read_typedef n ts ≡ read_without (g.read_typedef n (item_readers n)) ts
unfolding p.read_typedef g.read_typedef
typedef_by n ts = led (take (a_token w.word_typedef)) _ _ (λ at. led (take a_name) _ _ (λ x. led (read_type n (type_readers n)) _ _ (λ of. led (take (a_token semicolon)) _ _ (λ _ rest. refl)))) ts
