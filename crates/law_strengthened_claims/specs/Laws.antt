-- The laws: what the crate's public functions say.
use Rattle.std.specs.Prelude.{◌≡◌, ◌+◌, ℕ, []}
use Rattle.smv_core.specs.Values.{Name}
use Rattle.smv_core.specs.Types.{types_from}
use Rattle.smv_core.specs.Sound.{IsSound}
use Rattle.smv_core.specs.declared.tree.Text.{Text}
use Rattle.smv_core.specs.declared.tree.Expr.{Expr}
use Rattle.smv_core.specs.Notation.{Tokens}
use Rattle.law_grammar.specs.Laws.{SpellsExpr}
use Rattle.law_spelled_alike.specs.Local.{kinds_of}
use Rattle.law_places.specs.Placeless.{placeless}
use Rattle.law_exchanged.specs.Laws.{IsWith}
use Rattle.law_induction.specs.Strengthened.{is_main, is_named, stronger, AreInductiveTops}
use Rattle.law_induction.specs.Renamed.{renamed}
use Rattle.law_strengthened_claims.specs.Replacement.{written}

-- Where the strengthened expression is put in place of that of the one claim of the name in `main`, and what is then spelled is sound, so is the tree.
abbrev pub ExchangedIsSound : Type 0
ExchangedIsSound = (var fresh set name : Name) (text new : Text) (body y : Expr) → AreInductiveTops var fresh set name (types_from [] text.tops) text.tops →
    IsWith is_main (is_named name) text body text → placeless y ≡ placeless (stronger var fresh set body) → IsWith is_main (is_named name) text y new → IsSound new → IsSound text

-- Tokens that are written so, where some of them spell the expression under the new name and some the expression, spell the strengthened expression within two more levels, places aside.
abbrev pub StrongerIsSpelled : Type 0
StrongerIsSpelled = (n : ℕ) (var fresh set : Name) (smaller own ts : Tokens) (d e : Expr) → SpellsExpr n smaller d → SpellsExpr n own e → placeless d ≡ placeless (renamed var fresh e) →
    kinds_of ts ≡ written var fresh set (kinds_of smaller) (kinds_of own) → (y : Expr) × SpellsExpr (n + 2) ts y × (placeless y ≡ placeless (stronger var fresh set e))
