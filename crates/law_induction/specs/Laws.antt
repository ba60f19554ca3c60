-- The laws: what the crate's public functions say.
use Rattle.std.specs.Prelude.{◌≡◌, []}
use Rattle.smv_core.specs.Values.{Name}
use Rattle.smv_core.specs.Types.{types_from}
use Rattle.smv_core.specs.Sound.{IsSound}
use Rattle.smv_core.specs.declared.tree.Text.{Text}
use Rattle.smv_core.specs.Outcome.{State, Scene, Bindings, outcome}
use Rattle.smv_core.specs.declared.tree.Expr.{Expr}
use Rattle.law_induction.specs.Strengthened.{stronger_text, AreInductiveTops}
use Rattle.law_induction.specs.Renamed.{renamed, IsRenamable, RenamesBindings}

-- the renamed expression has the outcome of the expression
abbrev pub RenamedReadsAlike : Type 0
RenamedReadsAlike = (var fresh : Name) (scene : Scene) (s : State) (e : Expr) (b c : Bindings) → IsRenamable var fresh e → RenamesBindings var fresh b c →
    outcome scene s (renamed var fresh e) c ≡ outcome scene s e b

-- a tree is sound where the tree with the strengthened claim is
abbrev pub StrongerIsSound : Type 0
StrongerIsSound = (var fresh set name : Name) (text : Text) → AreInductiveTops var fresh set name (types_from [] text.tops) text.tops →
    IsSound (stronger_text var fresh set name text) → IsSound text
