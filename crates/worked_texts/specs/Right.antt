-- A text that meets the conditions of the laws of flattening.
use Rattle.std.specs.Prelude.{◌≡◌, ℕ, List, ◌∷◌, [], Option, Some, None, Result, Ok, Err, codes, flat_map}
use Rattle.smv_core.specs.declared.tree.Text.{Text}
use Rattle.smv_lex.specs.Lexing.{Lexed, lexed}
use Rattle.law_grammar.specs.Parsing.{Halt}
use Rattle.law_grammar.specs.Items.{read_text}
use Rattle.smv_mentions.specs.FirstFault.{first_fault}
use Rattle.law_designs.specs.WholeText.{TextIsRight}

-- an instance, an enumeration, a loop, a switch, binders and a claim
abbrev pub small : List ℕ
small = flat_map (λ line. line) (
    codes "scalarset P undefined; module m(a) { input a : boolean; } module main() { x : array P of boolean; y : 0..3; c : {red, green}; q : P; n : m(x[q]); " ∷
    codes "forall (i in P) x[i] := c = red & n.a; layer L : { for (k = 0; k < 2; k = k + 1) next(y) := {k, y, 2..3}; switch (c) { red, green : q := {j : j in P, x[j]}; } } " ∷
    codes "forall (i in P) p[i] : assert G (&[ x[j] -> ~x[i] : j in P ] | y in {0, 1}); } " ∷ [])

abbrev tree_of_tokens : Lexed → Option Text
tree_of_tokens (Ok tokens) = ok (read_text 64 tokens)
  where
    ok : Result Text Halt → Option Text
    ok (Ok text) = Some text
    ok (Err halt) = None
tree_of_tokens (Err fault) = None

-- the tree that these bytes spell
abbrev pub tree_of : List ℕ → Option Text
tree_of text = tree_of_tokens (lexed text)

-- the bytes spell a text without faults of names, in which each name is known
abbrev pub MeetsConditions : List ℕ → Type 0
MeetsConditions text = of_tree (tree_of text)
  where
    of_tree : Option Text → Type 0
    of_tree None = ⊥
    of_tree (Some tree) = (first_fault tree ≡ None) × TextIsRight tree
