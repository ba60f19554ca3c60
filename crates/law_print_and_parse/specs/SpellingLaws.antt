-- The laws of the canonical spelling: the canonical tokens of a tree that some tokens spell, spell the same tree, places aside, and open no more levels.
use Rattle.std.specs.Prelude.{◌≡◌, ◌≤◌, ℕ, [], ◌∷◌, ◌++◌, map, length}
use Rattle.smv_core.specs.declared.token.Token.{Token}
use Rattle.smv_core.specs.declared.tree.Expr.{Expr}
use Rattle.smv_core.specs.declared.tree.TypeExpr.{TypeExpr}
use Rattle.smv_core.specs.declared.tree.Stmt.{Stmt}
use Rattle.smv_core.specs.declared.tree.Ref.{Ref}
use Rattle.smv_core.specs.declared.tree.Text.{Text}
use Rattle.smv_core.specs.Signs.{open_paren, close_paren}
use Rattle.smv_core.specs.Notation.{Tokens}
use Rattle.smv_core.specs.Grammar.{type_rule, stmt_rule, ref_rule, below}
use Rattle.smv_core.specs.Spelling.{Spells}
use Rattle.smv_print.specs.Written.{Kinds}
use Rattle.smv_print.specs.Types.{type_kinds}
use Rattle.smv_print.specs.Expressions.{expr_kinds}
use Rattle.smv_print.specs.Statements.{stmt_kinds}
use Rattle.smv_print.specs.Items.{ref_kinds}
use Rattle.smv_print.specs.Canonical.{text_kinds, canonical}
use Rattle.law_grammar.specs.Laws.{Rise, SpellsExpr}
use Rattle.law_print_and_parse.specs.Aside.{expr_aside, type_aside, stmt_aside, ref_aside, text_aside}

-- the tokens without their places
abbrev pub kinds_of : Tokens → Kinds
kinds_of ts = map (λ (t : Token). t.kind) ts

-- the tokens spell the type, with at most n levels open at any of them
abbrev pub SpellsType : ℕ → Tokens → TypeExpr → Type 0
SpellsType n ts x = type_rule (λ at. 0) n (below (λ at. 0) n) ts x []

abbrev pub SpellsStmt : ℕ → Tokens → Stmt → Type 0
SpellsStmt n ts x = stmt_rule (λ at. 0) n (below (λ at. 0) n) ts x []

-- the reference of a Use
abbrev pub SpellsRef : ℕ → Tokens → Ref → Type 0
SpellsRef n ts x = ref_rule (λ at. 0) n (below (λ at. 0) n) ts x []

-- Tokens of the canonical kinds of an expression, wherever they stand, spell the same expression.
abbrev pub IsSameExpr : Type 0
IsSameExpr = (n : ℕ) (ts us : Tokens) (x : Expr) → SpellsExpr n ts x → kinds_of us ≡ expr_kinds x → (y : Expr) × SpellsExpr n us y × (expr_aside y ≡ expr_aside x)

-- Tokens of the canonical kinds of a type, wherever they stand, spell the same type.
abbrev pub IsSameType : Type 0
IsSameType = (n : ℕ) (ts us : Tokens) (x : TypeExpr) → SpellsType n ts x → kinds_of us ≡ type_kinds x → (y : TypeExpr) × SpellsType n us y × (type_aside y ≡ type_aside x)

-- Tokens of the canonical kinds of a statement, wherever they stand, spell the same statement.
abbrev pub IsSameStmt : Type 0
IsSameStmt = (n : ℕ) (ts us : Tokens) (x : Stmt) → SpellsStmt n ts x → kinds_of us ≡ stmt_kinds x → (y : Stmt) × SpellsStmt n us y × (stmt_aside y ≡ stmt_aside x)

-- Tokens of the canonical kinds of a reference, whose offsets rise, spell the same reference, with its names in the same order.
abbrev pub IsSameRef : Type 0
IsSameRef = (n length : ℕ) (ts us : Tokens) (x : Ref) → SpellsRef n ts x → kinds_of us ≡ ref_kinds x → Rise length us → (y : Ref) × SpellsRef n us y × (ref_aside y ≡ ref_aside x)

-- Tokens of the canonical kinds of a text, whose offsets rise, spell the same text.
abbrev pub IsSameText : Type 0
IsSameText = (n length : ℕ) (ts us : Tokens) (x : Text) → Spells n ts x → kinds_of us ≡ text_kinds x → Rise length us → (y : Text) × Spells n us y × (text_aside y ≡ text_aside x)

-- Expressions that are the same, places aside, have the same canonical tokens.
abbrev pub IsOneSpelling : Type 0
IsOneSpelling = (n m : ℕ) (ts us : Tokens) (x y : Expr) → SpellsExpr n ts x → SpellsExpr m us y → expr_aside y ≡ expr_aside x → expr_kinds y ≡ expr_kinds x

-- No tokens that spell the same expression are fewer than its canonical tokens.
abbrev pub IsShortest : Type 0
IsShortest = (n m : ℕ) (ts us : Tokens) (x y : Expr) → SpellsExpr n ts x → SpellsExpr m us y → expr_aside y ≡ expr_aside x → length (expr_kinds x) ≤ length us

-- the tokens are these kinds, but for a `(` and a `)` behind it
abbrev pub LeavesOut : Kinds → Tokens → Type 0
LeavesOut ks us = (front : Kinds) × (inside : Kinds) × (behind : Kinds) × (ks ≡ front ++ open_paren ∷ inside ++ close_paren ∷ behind) × (kinds_of us ≡ front ++ inside ++ behind)

-- Parentheses stand only where they are needed: the canonical tokens but for a pair of them spell another expression or none, within any number of levels.
abbrev pub IsNeeded : Type 0
IsNeeded = (n m : ℕ) (ts us : Tokens) (x y : Expr) → SpellsExpr n ts x → LeavesOut (expr_kinds x) us → SpellsExpr m us y → expr_aside y ≡ expr_aside x → ⊥

-- Texts that are the same, places aside, have the same canonical tokens.
abbrev pub IsOneTextSpelling : Type 0
IsOneTextSpelling = (n m : ℕ) (ts us : Tokens) (x y : Text) → Spells n ts x → Spells m us y → text_aside y ≡ text_aside x → text_kinds y ≡ text_kinds x

-- Texts that are the same, places aside, are printed alike, byte for byte.
abbrev pub IsPrintedAlike : Type 0
IsPrintedAlike = (n m : ℕ) (ts us : Tokens) (x y : Text) → Spells n ts x → Spells m us y → text_aside y ≡ text_aside x → canonical y ≡ canonical x

-- No tokens that spell the same text are fewer than its canonical tokens.
abbrev pub IsShortestText : Type 0
IsShortestText = (n m : ℕ) (ts us : Tokens) (x y : Text) → Spells n ts x → Spells m us y → text_aside y ≡ text_aside x → length (text_kinds x) ≤ length us

-- The canonical tokens of a text but for a pair of parentheses spell another text or none.
abbrev pub IsNeededInText : Type 0
IsNeededInText = (n m : ℕ) (ts us : Tokens) (x y : Text) → Spells n ts x → LeavesOut (text_kinds x) us → Spells m us y → text_aside y ≡ text_aside x → ⊥
