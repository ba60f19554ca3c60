-- By computing the units of the worked text and of its design, and what the map allows.
use Rattle.std.proofs.Common.{◌≡◌, zero, suc, [], ◌∷◌, None, false, All, Contains, refl, arith, codes, subst}
use Rattle.law_lists.proofs.Booleans.{clash}
use Rattle.law_lists.proofs.Each.{all_one}
use Rattle.law_lists.proofs.Options.{some_is}
use Rattle.smv_core.specs.FlatOrder.{design_of}
use Rattle.smv_core.specs.Values.{Sizes, number}
use Rattle.smv_core.specs.Types.{IsSizedTop}
use Rattle.smv_core.specs.Sound.{map_of, instances, Holds, AtEachTime, IsSound}
use Rattle.smv_core.specs.FlatMeaning.{FlatState, values_in}
use Rattle.smv_core.specs.declared.flat.Design.{Design}
use Rattle.smv_core.specs.declared.flat.Family.{Family}
use Rattle.smv_core.specs.declared.flat.SetInfo.{SetInfo}
use Rattle.smv_core.specs.declared.flat.Unit.TheVariants.{Map}
use Rattle.law_designs.specs.Flattening.{flatten}
use Rattle.law_designs.specs.Definitions.{design_of_flat_text}
use Rattle.law_obligations.specs.Sets.{Has, first, later}
use Rattle.law_obligations.specs.Circular.{always}
use Rattle.law_obligations.specs.Soundness.{at_sizes, is_held}
use Rattle.law_obligations.specs.Soundness as flat
use Rattle.law_obligations.specs.Outlines.{names_of, bases, unit_in}
use Rattle.law_sound_texts.specs.WorkedText.{two_layers, the_signal, all_of}
use Rattle.law_sound_texts.proofs.WorkedText.{runs_are_of_the_first}
use Rattle.law_sound_texts.specs.Carried.{UnitsHold}
use Rattle.law_sound_texts.specs.WorkedTexts.{HasOneMap, HoldsInNeither}

-- what it computes with
unfoldable pub computing : Unit {0}
unfolding Rattle.smv_core.specs.declared.tree.Expr.TheBlock.hidden-the_row-Part-0 Rattle.smv_core.specs.declared.tree.Expr.TheBlock.shape-the_row-Part-0 Rattle.smv_core.specs.declared.tree.Stmt.TheBlock.hidden-the_row-Stmt-0 Rattle.smv_core.specs.declared.tree.Stmt.TheBlock.shape-the_row-Stmt-0 Rattle.smv_core.specs.declared.tree.Item.TheBlock.hidden-the_row-Item-0 Rattle.smv_core.specs.declared.tree.Item.TheBlock.shape-the_row-Item-0 Rattle.smv_core.specs.declared.flat.FlatStmt.TheBlock.hidden-the_row-FlatStmt-0 Rattle.smv_core.specs.declared.flat.FlatStmt.TheBlock.shape-the_row-FlatStmt-0 Rattle.smv_core.specs.declared.flat.DefBody.TheBlock.hidden-the_row-DefBody-0 Rattle.smv_core.specs.declared.flat.DefBody.TheBlock.shape-the_row-DefBody-0 denote.Hole.Carrier.hidden
computing = tt

pub has_one_map : HasOneMap
unfolding computing
has_one_map = (refl, refl)

one_each : Sizes
one_each name = 1

-- the map says that the signal is 0
says_zero : (before : _) → Holds (design_of two_layers) one_each (map_of (codes "A") the_signal) [] before (all_of 1) → ⊥
unfolding computing
says_zero before h = only_zero h
  where
    only_zero : Contains (number 0 ∷ []) (number 1) → ⊥
    only_zero (zero, l, e) = cc
    only_zero (suc k, l, e) = omega (arith, l)

fails_in_text : IsSound two_layers → ⊥
unfolding computing
fails_in_text sound =
    let unit : All (λ vs. AtEachTime (Holds (design_of two_layers) one_each (map_of (codes "A") the_signal) vs) None (all_of 1 ∷ all_of 1 ∷ [])) (instances (design_of two_layers) one_each (map_of (codes "A") the_signal)) =
    sound one_each (all_one (IsSizedTop one_each) _ tt) (all_of 1 ∷ all_of 1 ∷ []) (runs_are_of_the_first one_each).0 0 (map_of (codes "A") the_signal) (omega arith) in
    says_zero None (unit 0 [] (omega arith)).0

-- the state of the design in which the signal is 1
one_there : FlatState
one_there k vs = number 1

abbrev d : Design
d = design_of_flat_text (flatten two_layers)

is_run : flat.IsRun (at_sizes (names_of d) one_each) (bases d) (one_there ∷ [])
unfolding computing one_there
is_run = record { are_typed = λ t m. typed t m; keeps_base = refl }
  where
    typed : (t : FlatState) → Has (one_there ∷ []) t → flat.IsTyped (at_sizes (names_of d) one_each) t
    typed _ first zero g e vs i = subst (λ (g : Family). Has (values_in (at_sizes (names_of d) one_each) g.value) (number 1)) (some_is e) (later first)
    typed _ first (suc k) g e vs i = absurd (cc (e))
    typed t (later m) k g e vs i = elim m [ ]

never_held : always (is_held (at_sizes (names_of d) one_each) (unit_in d (Map 1)) []) None (one_there ∷ []) ≡ false
unfolding computing one_there
never_held = refl

fails_in_design : UnitsHold d → ⊥
unfolding computing
fails_in_design hold = clash (hold (Map 1) first one_each (λ (info : SetInfo) m. elim m [ ]) (one_there ∷ []) is_run [] first) never_held

pub holds_in_neither : HoldsInNeither
holds_in_neither = (fails_in_text, fails_in_design)
