-- The laws: what the crate's public functions say.
use Rattle.std.specs.Prelude.{◌≡◌, ℕ, ◌++◌}
use Rattle.smv_core.specs.declared.tree.Expr.{Expr}
use Rattle.smv_core.specs.Notation.{Tokens}
use Rattle.law_grammar.specs.Laws.{SpellsExpr}
use Rattle.law_places.specs.Placeless.{placeless}
use Rattle.law_formulas.specs.Formulas.{Formula, now, next, when, weak}
use Rattle.law_formula_grammar.specs.Grammar.{formula_at}
use Rattle.law_translated_texts.specs.Parts.{Phrase, Now, Next, When, Weak, extent, part, parts_of}

-- the tokens spell the expression, places aside
abbrev pub SpellsAside : ℕ → Tokens → Expr → Type 0
SpellsAside n ts e = (x : Expr) × SpellsExpr n ts x × (placeless e ≡ placeless x)

-- each part spells its condition or expression of the formula
abbrev pub AreSpelled : ℕ → Formula → Phrase Tokens → Type 0
AreSpelled n (now e) (Now ts) = SpellsAside n ts e
AreSpelled n (next at f) (Next p) = AreSpelled n f p
AreSpelled n (when c f) (When ts p) = SpellsAside n ts c × AreSpelled n f p
AreSpelled n (weak e d) (Weak ts us) = SpellsAside n ts e × SpellsAside n us d
AreSpelled n _ _ = ⊥

-- Where a formula is spelled before what ends a part, it is the part there, and its parts are those of its conditions and expressions.
abbrev pub PartsAreSpelled : Type 0
PartsAreSpelled = (n : ℕ) (ts : Tokens) (f : Formula) (rest : Tokens) → formula_at (λ at. 0) n ts f rest → extent 0 rest ≡ 0 → (ts ≡ part ts ++ rest) × AreSpelled n f (parts_of f ts)
