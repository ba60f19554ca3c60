-- Worked texts, as lists of tokens, with their trees. The offset of each token is its place in the list.
use Rattle.std.specs.Prelude.{ℕ, true, false, List, [], ◌∷◌, ◌++◌, ◌+◌, codes, Some, None}
use Rattle.smv_core.specs.declared.token.TokenKind.{TokenKind}
use Rattle.smv_core.specs.declared.token.TokenKind.TheVariants.{Ident, Number}
use Rattle.smv_core.specs.declared.tree.Word.{Word}
use Rattle.smv_core.specs.declared.tree.Expr.{Expr}
use Rattle.smv_core.specs.declared.tree.Expr.TheVariants as expr
use Rattle.smv_core.specs.declared.tree.Op.TheVariants as op
use Rattle.smv_core.specs.declared.tree.Part.TheVariants as part
use Rattle.smv_core.specs.declared.tree.Path.{Path}
use Rattle.smv_core.specs.declared.tree.TypeExpr.TheVariants as type
use Rattle.smv_core.specs.declared.tree.Stmt.{Stmt}
use Rattle.smv_core.specs.declared.tree.Stmt.TheVariants as stmt
use Rattle.smv_core.specs.declared.tree.Arm.{roll-Arm}
use Rattle.smv_core.specs.declared.tree.Kind.TheVariants as kind
use Rattle.smv_core.specs.declared.tree.Item.{Item}
use Rattle.smv_core.specs.declared.tree.Item.TheVariants as item
use Rattle.smv_core.specs.declared.tree.Role.TheVariants as role
use Rattle.smv_core.specs.declared.tree.Ref.{Ref}
use Rattle.smv_core.specs.declared.tree.Use.TheVariants as uses
use Rattle.smv_core.specs.declared.tree.Top.TheVariants as top
use Rattle.smv_core.specs.declared.tree.Text.{Text}
use Rattle.smv_core.specs.Signs as w
use Rattle.smv_core.specs.Signs.{open_paren, close_paren, open_bracket, close_bracket, open_brace, close_brace, colon, semicolon, comma, dots, becomes, equal, less, plus, arrow, slashes}
use Rattle.smv_core.specs.Grammar.{named}
use Rattle.smv_core.specs.Notation.{Tokens}
use Rattle.smv_core.specs.Spelling.{Spells, IsUnexpected, IsTooDeep}
use Rattle.law_grammar.specs.Worked.{laid, times, a_signal}

abbrev pub word : List ℕ → ℕ → Word
word name at = record { name = name; at = at }

abbrev pub path : List ℕ → ℕ → Path
path name at = named (word name at) []

-- a text of one module m without formals, whose body has these tokens
abbrev pub in_module : List TokenKind → Tokens
in_module body = laid 0 (w.word_module ∷ Ident (codes "m") ∷ open_paren ∷ close_paren ∷ open_brace ∷ body ++ close_brace ∷ [])

abbrev pub module_of : List Item → Text
module_of items = record { tops = top.Module (word (codes "m") 1) [] items 0 ∷ [] }

-- ---- each kind of top

-- scalarset s undefined; ordset o undefined; scalarset r 0..3; typedef t array s of boolean;
abbrev pub types_text : Tokens
types_text = laid 0 (w.word_scalarset ∷ Ident (codes "s") ∷ w.word_undefined ∷ semicolon ∷ w.word_ordset ∷ Ident (codes "o") ∷ w.word_undefined ∷ semicolon ∷
    w.word_scalarset ∷ Ident (codes "r") ∷ Number 0 ∷ dots ∷ Number 3 ∷ semicolon ∷
    w.word_typedef ∷ Ident (codes "t") ∷ w.word_array ∷ Ident (codes "s") ∷ w.word_of ∷ w.word_boolean ∷ semicolon ∷ [])

abbrev pub types_tree : Text
types_tree = record {
  tops = top.SetType (word (codes "s") 1) false None 2 ∷ top.SetType (word (codes "o") 5) true None 6 ∷
      top.SetType (word (codes "r") 9) false (Some (record { low = 0; high = 3 })) 10 ∷
      top.Alias (word (codes "t") 15) (type.Array (type.Named (word (codes "s") 17) 17) type.Boolean) 14 ∷ [];
}

abbrev pub TypesSpelled : Type 0
TypesSpelled = Spells 64 types_text types_tree

-- ---- each kind of item

-- module m(a, b) {
--   input a : boolean;
--   x, y : 0..1;
--   u : k(x, 1);
--   layer l : { x := 0; }
--   forall (i in s) { next(y[i]) := 1; }
--   c[i] : assert G x = 1;
--   subcase d[i] of c for x = i;
--   using x//free, (c), s -> {i} prove d;
--   y[i] := x;
-- }
abbrev pub items_text : Tokens
items_text = laid 0 (w.word_module ∷ Ident (codes "m") ∷ open_paren ∷ Ident (codes "a") ∷ comma ∷ Ident (codes "b") ∷ close_paren ∷ open_brace ∷
    w.word_input ∷ Ident (codes "a") ∷ colon ∷ w.word_boolean ∷ semicolon ∷
    Ident (codes "x") ∷ comma ∷ Ident (codes "y") ∷ colon ∷ Number 0 ∷ dots ∷ Number 1 ∷ semicolon ∷
    Ident (codes "u") ∷ colon ∷ Ident (codes "k") ∷ open_paren ∷ Ident (codes "x") ∷ comma ∷ Number 1 ∷ close_paren ∷ semicolon ∷
    w.word_layer ∷ Ident (codes "l") ∷ colon ∷ open_brace ∷ Ident (codes "x") ∷ becomes ∷ Number 0 ∷ semicolon ∷ close_brace ∷
    w.word_forall ∷ open_paren ∷ Ident (codes "i") ∷ w.word_in ∷ Ident (codes "s") ∷ close_paren ∷ open_brace ∷
    w.word_next ∷ open_paren ∷ Ident (codes "y") ∷ open_bracket ∷ Ident (codes "i") ∷ close_bracket ∷ close_paren ∷ becomes ∷ Number 1 ∷ semicolon ∷ close_brace ∷
    Ident (codes "c") ∷ open_bracket ∷ Ident (codes "i") ∷ close_bracket ∷ colon ∷ w.word_assert ∷ w.word_G ∷ Ident (codes "x") ∷ equal ∷ Number 1 ∷ semicolon ∷
    w.word_subcase ∷ Ident (codes "d") ∷ open_bracket ∷ Ident (codes "i") ∷ close_bracket ∷ w.word_of ∷ Ident (codes "c") ∷ w.word_for ∷ Ident (codes "x") ∷ equal ∷ Ident (codes "i") ∷ semicolon ∷
    w.word_using ∷ Ident (codes "x") ∷ slashes ∷ w.word_free ∷ comma ∷ open_paren ∷ Ident (codes "c") ∷ close_paren ∷ comma ∷
    Ident (codes "s") ∷ arrow ∷ open_brace ∷ Ident (codes "i") ∷ close_brace ∷ w.word_prove ∷ Ident (codes "d") ∷ semicolon ∷
    Ident (codes "y") ∷ open_bracket ∷ Ident (codes "i") ∷ close_bracket ∷ becomes ∷ Ident (codes "x") ∷ semicolon ∷ close_brace ∷ [])

-- a reference that is a name alone
abbrev pub name_ref : List ℕ → ℕ → Ref
name_ref name at = record { path = word name at ∷ []; names = []; layer = None; free = false; at = at }

-- y[i], whose y stands here
abbrev pub y_at_i : ℕ → Path
y_at_i at = named (word (codes "y") at) (part.At (a_signal (codes "i") (at + 2)) ∷ [])

abbrev pub items_tree : Text
items_tree = record {
  tops = top.Module (word (codes "m") 1) (word (codes "a") 3 ∷ word (codes "b") 5 ∷ []) (
      item.Declare role.Input (word (codes "a") 9 ∷ []) type.Boolean 8 ∷
      item.Declare role.Plain (word (codes "x") 13 ∷ word (codes "y") 15 ∷ []) (type.Range (record { low = 0; high = 1 }) 17) 13 ∷
      item.Instance (word (codes "u") 21 ∷ []) (word (codes "k") 23) (a_signal (codes "x") 25 ∷ expr.Number 1 27 ∷ []) 21 ∷
      item.Layer (word (codes "l") 31) (stmt.Assign kind.Comb (path (codes "x") 34) (expr.Number 0 36) 34 ∷ []) 30 ∷
      item.Forall (word (codes "i") 41) (type.Named (word (codes "s") 43) 43) (item.Block (item.Act (stmt.Assign kind.Next (y_at_i 48) (expr.Number 1 54) 46) ∷ [])) 39 ∷
      item.Claim (word (codes "c") 57) (word (codes "i") 59 ∷ []) (expr.Compare op.Equal (a_signal (codes "x") 64) (expr.Number 1 66)) 57 ∷
      item.Split (word (codes "d") 69) (word (codes "i") 71 ∷ []) (name_ref (codes "c") 74) (record { left = a_signal (codes "x") 76; right = word (codes "i") 78; at = 76 } ∷ []) 68 ∷
      item.Using (
      uses.Plain (record { path = word (codes "x") 81 ∷ []; names = []; layer = None; free = true; at = 81 }) ∷ uses.Early (name_ref (codes "c") 86) ∷ uses.Keep (word (codes "s") 89) (word (codes "i") 92 ∷ []) 89 ∷ []
      ) (name_ref (codes "d") 95 ∷ []) 80 ∷
      item.Act (stmt.Assign kind.Comb (y_at_i 97) (a_signal (codes "x") 102) 97) ∷ []
      ) 0 ∷ [];
}

abbrev pub ItemsSpelled : Type 0
ItemsSpelled = Spells 64 items_text items_tree

-- ---- statements

-- x := value;
abbrev pub x_becomes : TokenKind → List TokenKind
x_becomes value = Ident (codes "x") ∷ becomes ∷ value ∷ semicolon ∷ []

abbrev pub set_x : ℕ → Expr → Stmt
set_x at value = stmt.Assign kind.Comb (path (codes "x") at) value at

-- module m() { switch (x) { 0, k : x := 1; default : { } } default x := 0; in for (i = 0; i < 3; i = i + 2) x := i; }
abbrev pub statements_text : Tokens
statements_text = in_module (w.word_switch ∷ open_paren ∷ Ident (codes "x") ∷ close_paren ∷ open_brace ∷ Number 0 ∷ comma ∷ Ident (codes "k") ∷ colon ∷ x_becomes (Number 1) ++
    w.word_default ∷ colon ∷ open_brace ∷ close_brace ∷ close_brace ∷ w.word_default ∷ x_becomes (Number 0) ++
    w.word_in ∷ w.word_for ∷ open_paren ∷ Ident (codes "i") ∷ equal ∷ Number 0 ∷ semicolon ∷ Ident (codes "i") ∷ less ∷ Number 3 ∷ semicolon ∷ Ident (codes "i") ∷ equal ∷ Ident (codes "i") ∷ plus ∷ Number 2 ∷ close_paren ∷
    x_becomes (Ident (codes "i")))

abbrev pub statements_tree : Text
statements_tree = module_of (
    item.Act (stmt.Switch (a_signal (codes "x") 7) (roll-Arm (record { labels = expr.Number 0 10 ∷ a_signal (codes "k") 12 ∷ []; body = set_x 14 (expr.Number 1 16) }) ∷ []) (Some (stmt.Block [])) 5) ∷
    item.Act (stmt.Default (set_x 24 (expr.Number 0 26)) (stmt.For (word (codes "i") 31) 0 3 false 2 (set_x 45 (a_signal (codes "i") 47)) 29) 23) ∷ []
    )

abbrev pub StatementsSpelled : Type 0
StatementsSpelled = Spells 64 statements_text statements_tree

-- module m() { if (a) if (b) x := 1; else x := 2; }
abbrev pub nearest_text : Tokens
nearest_text = in_module (w.word_if ∷ open_paren ∷ Ident (codes "a") ∷ close_paren ∷ w.word_if ∷ open_paren ∷ Ident (codes "b") ∷ close_paren ∷ x_becomes (Number 1) ++ w.word_else ∷ x_becomes (Number 2))

-- the `else` belongs to the second `if`
abbrev pub nearest_tree : Text
nearest_tree = module_of (item.Act (stmt.If (a_signal (codes "a") 7) (stmt.If (a_signal (codes "b") 11) (set_x 13 (expr.Number 1 15)) (Some (set_x 18 (expr.Number 2 20))) 9) None 5) ∷ [])

abbrev pub NearestElse : Type 0
NearestElse = Spells 64 nearest_text nearest_tree

-- ---- faults

-- module m() { using x prove y//free; }: `free` may stand only in a Use, so it is fault 5
abbrev pub free_text : Tokens
free_text = in_module (w.word_using ∷ Ident (codes "x") ∷ w.word_prove ∷ Ident (codes "y") ∷ slashes ∷ w.word_free ∷ semicolon ∷ [])

abbrev pub FreeUnexpected : Type 0
FreeUnexpected = IsUnexpected 64 100 free_text 10

-- module m() { using x free prove y; }: and it stands behind two slashes alone
abbrev pub bare_text : Tokens
bare_text = in_module (w.word_using ∷ Ident (codes "x") ∷ w.word_free ∷ w.word_prove ∷ Ident (codes "y") ∷ semicolon ∷ [])

abbrev pub BareUnexpected : Type 0
BareUnexpected = IsUnexpected 64 100 bare_text 7

-- module m() { x[(a)] : assert G 1; }: parentheses have no place in the brackets of a claim, so the colon is fault 5
abbrev pub claim_text : Tokens
claim_text = in_module (Ident (codes "x") ∷ open_bracket ∷ open_paren ∷ Ident (codes "a") ∷ close_paren ∷ close_bracket ∷ colon ∷ w.word_assert ∷ w.word_G ∷ Number 1 ∷ semicolon ∷ [])

abbrev pub ColonUnexpected : Type 0
ColonUnexpected = IsUnexpected 64 100 claim_text 11

-- module m() { x := 1: the text is unfinished, so its end, at its length, is fault 5
abbrev pub unfinished_text : Tokens
unfinished_text = laid 0 (w.word_module ∷ Ident (codes "m") ∷ open_paren ∷ close_paren ∷ open_brace ∷ Ident (codes "x") ∷ becomes ∷ Number 1 ∷ [])

abbrev pub EndUnexpected : Type 0
EndUnexpected = IsUnexpected 64 100 unfinished_text 100

-- ---- levels

-- module m() { x := 1; } with so many parentheses around the 1
abbrev pub deep_text : ℕ → Tokens
deep_text n = in_module (Ident (codes "x") ∷ becomes ∷ times n open_paren ++ Number 1 ∷ times n close_paren ++ semicolon ∷ [])

-- the brace and 63 parentheses fit in 64 levels
abbrev pub DeepSpelled : Type 0
DeepSpelled = Spells 64 (deep_text 63) (module_of (item.Act (set_x 5 (expr.Number 1 70)) ∷ []))

-- with 64 parentheses the last one opens a level too many: fault 6
abbrev pub TooDeep : Type 0
TooDeep = IsTooDeep 64 (deep_text 64) 70
