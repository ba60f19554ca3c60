-- The laws: what the crate's public functions say.
use Rattle.std.specs.Prelude.{◌≡◌, ◌≤◌, ℕ, false}
use Rattle.smv_core.specs.declared.tree.Expr.{Expr}
use Rattle.smv_core.specs.Signs.{semicolon}
use Rattle.smv_core.specs.Notation.{Tokens, same_kind}
use Rattle.law_grammar.specs.Laws.{SpellsExpr}
use Rattle.law_places.specs.Placeless.{placeless}
use Rattle.law_spelled_alike.specs.Local.{kinds_of, AllKinds}

-- tokens of the same kinds spell the same expression within as many levels or more, places aside
abbrev pub AreSpelledAlike : Type 0
AreSpelledAlike = (n m : ℕ) → n ≤ m → (ts us : Tokens) (x : Expr) → SpellsExpr n ts x → kinds_of us ≡ kinds_of ts → (y : Expr) × SpellsExpr m us y × (placeless x ≡ placeless y)

-- no expression has a `;`
abbrev pub HasNoSemicolon : Type 0
HasNoSemicolon = (n : ℕ) (ts : Tokens) (x : Expr) → SpellsExpr n ts x → AllKinds (λ k. same_kind k semicolon ≡ false) ts
