-- The laws: what the crate's public functions say.
use Rattle.std.specs.Prelude.{◌≡◌, ◌≤◌, ◌+◌, ℕ, List, [], ◌∷◌, ◌++◌, length}
use Rattle.std.specs.List.{AllByRecursion, AllZip}
use Rattle.smv_core.specs.Values.{Name}
use Rattle.smv_core.specs.declared.token.TokenKind.TheVariants.{Ident}
use Rattle.smv_core.specs.declared.tree.Expr.{Expr}
use Rattle.smv_core.specs.declared.tree.Word.{Word}
use Rattle.smv_core.specs.declared.tree.TypeExpr.{TypeExpr}
use Rattle.smv_core.specs.declared.tree.Stmt.{Stmt}
use Rattle.smv_core.specs.Notation.{Tokens, Rule, many}
use Rattle.smv_core.specs.Grammar.{below, index, type_rule, stmt_rule}
use Rattle.smv_core.specs.OpenIf.{ends_in_open_if}
use Rattle.law_places.specs.Placeless.{placeless_type, placeless_stmt}
use Rattle.law_lexed_parts.specs.Parts.{IsReadAs}
use Rattle.law_spelled_alike.specs.Local.{kinds_of}
use Rattle.law_formulas.specs.Formulas.{Formula, now, next, when, weak}
use Rattle.law_formulas.specs.Monitors as monitors
use Rattle.law_translated_texts.specs.Parts.{Phrase, Now, Next, When, Weak}
use Rattle.law_translated_texts.specs.Phrases.{Pieces, outset, claim_of, definitions, Binders, type_of, defined}
use Rattle.law_translated_texts.specs.Translation.{spaced}
use Rattle.law_translated_texts.specs.Laws.{SpellsAside}
use Rattle.law_written_formulas.specs.Kinds.{kinds_in, kinds_of_pieces}

-- bytes whose tokens spell the expression, places aside
abbrev pub ReadsAside : ℕ → List ℕ → Expr → Type 0
ReadsAside n bytes e = (ts : Tokens) × (kinds_in bytes ≡ kinds_of ts) × SpellsAside n ts e

-- so are the bytes of each part of a formula
abbrev pub AreRead : ℕ → Formula → Phrase (List ℕ) → Type 0
AreRead n (now e) (Now bytes) = ReadsAside n bytes e
AreRead n (next at f) (Next p) = AreRead n f p
AreRead n (when c f) (When bytes p) = ReadsAside n bytes c × AreRead n f p
AreRead n (weak e d) (Weak bytes others) = ReadsAside n bytes e × ReadsAside n others d
AreRead n _ _ = ⊥

-- a name is read as itself
abbrev pub IsNamed : Name → Type 0
IsNamed name = kinds_in name ≡ Ident name ∷ []

-- pieces whose tokens, and all others of their kinds, spell the expression, places aside
abbrev pub WritesAside : ℕ → Pieces → Expr → Type 0
WritesAside n ps e = (us : Tokens) → kinds_of us ≡ kinds_of_pieces ps → SpellsAside n us e

-- What is written for a formula in place of it is its claim, within four more levels.
abbrev pub ClaimsAreWritten : Type 0
ClaimsAreWritten = (n : ℕ) (vars names : List Name) (f : Formula) (p : Phrase (List ℕ)) → AllByRecursion IsNamed vars → AllByRecursion IsNamed names → AreRead n f p →
    WritesAside (4 + n) (claim_of vars names outset p) (monitors.claim_of vars names monitors.outset f)

-- a monitor with what is written for its next value
abbrev pub IsDefined : ℕ → Name × Pieces → Name × Expr → Type 0
IsDefined n (m, ps) (w, e) = (m ≡ w) × WritesAside n ps e

-- so are the definitions of its monitors
abbrev pub DefinitionsAreWritten : Type 0
DefinitionsAreWritten = (n : ℕ) (vars names : List Name) (f : Formula) (p : Phrase (List ℕ)) → AllByRecursion IsNamed vars → AllByRecursion IsNamed names → AreRead n f p →
    AllZip (IsDefined (4 + n)) (definitions vars names outset p) (monitors.definitions vars names monitors.outset f)

-- bytes that are read as tokens of their own
abbrev pub IsWhole : List ℕ → Type 0
IsWhole bytes = (ts : Tokens) × IsReadAs bytes ts

-- Pieces that are read alone are read with a blank before each as the tokens of each, one behind the other.
abbrev pub PiecesAreRead : Type 0
PiecesAreRead = (ps : Pieces) → AllByRecursion IsWhole ps → (us : Tokens) × IsReadAs (spaced ps) us × (kinds_of us ≡ kinds_of_pieces ps)

-- ---- types and statements

abbrev pub IsAlikeType : TypeExpr → TypeExpr → Type 0
IsAlikeType x y = placeless_type x ≡ placeless_type y

abbrev pub IsAlikeStmt : Stmt → Stmt → Type 0
IsAlikeStmt x y = (placeless_stmt x ≡ placeless_stmt y) × (ends_in_open_if x ≡ ends_in_open_if y)

-- the tokens of these pieces, and all others of their kinds, spell by the rule what is so related to the value, whatever stands behind them
abbrev pub Writes : {A B : Type 0} → (A → B → Type 0) → Rule B → Pieces → A → Type 0
Writes {A} {B} R r ps a = (us rest ts : Tokens) → kinds_of us ≡ kinds_of_pieces ps → ts ≡ us ++ rest → (b : B) × r ts b rest × R a b

-- a binder whose name is read as itself, and pieces that spell its type
abbrev pub IsBinder : Name × Pieces → Word × TypeExpr → Type 0
IsBinder b a = (b.0 ≡ a.0.name) × IsNamed b.0 × Writes IsAlikeType index b.1 a.1

-- What is written for the type of a monitor spells it, within as many levels as there are binders, or more.
abbrev pub TypesAreWritten : Type 0
TypesAreWritten = (bs : Binders) (around : monitors.Around) → AllZip IsBinder bs around → (j : ℕ) → length bs ≤ j → Writes IsAlikeType (type_rule (λ at. 0) j (below (λ at. 0) j)) (type_of bs) (monitors.type_of around)

-- What is written for the definitions of a formula's monitors spells them.
abbrev pub MonitorsAreDefined : Type 0
MonitorsAreDefined = (n : ℕ) (bs : Binders) (around : monitors.Around) (names : List Name) (f : Formula) (p : Phrase (List ℕ)) → AllZip IsBinder bs around → AllByRecursion IsNamed names → AreRead n f p →
    (j : ℕ) → length bs + (6 + n) ≤ j → Writes (AllZip IsAlikeStmt) (many (stmt_rule (λ at. 0) j (below (λ at. 0) j))) (defined bs names p) (monitors.defined (around, record { formula = f; monitors = names }))
