-- The map of the text whose layers agree: each run keeps the base definition, which says the same.
use Rattle.std.proofs.Common.{◌≡◌, List, [], ◌∷◌, Option, Some, None, true, All, arith, codes}
use Rattle.law_lists.proofs.Booleans.{left_of}
use Rattle.law_lists.proofs.Each.{all_one}
use Rattle.smv_core.specs.Values.{Value, Sizes}
use Rattle.smv_core.specs.FlatOrder.{TextDesign, design_of}
use Rattle.smv_core.specs.Outcome.{State}
use Rattle.smv_core.specs.Sound.{AtEachTime, MeetsBase, Holds, IsRun, instances, map_of, units}
use Rattle.smv_core.specs.FlatMeaning.{FlatState}
use Rattle.smv_core.specs.declared.flat.Design.{Design as FlatDesign}
use Rattle.smv_core.specs.declared.flat.Unit.{Unit as DesignUnit}
use Rattle.smv_core.specs.declared.flat.Unit.TheVariants.{Map}
use Rattle.law_designs.specs.Flattening.{flatten}
use Rattle.law_designs.specs.Definitions.{design_of_flat_text}
use Rattle.law_obligations.specs.Sets.{Has, first, later}
use Rattle.law_obligations.specs.Circular.{always}
use Rattle.law_obligations.specs.Soundness.{at_sizes, is_held, meets_base}
use Rattle.law_obligations.specs.Outlines.{names_of, bases, unit_in}
use Rattle.law_obligations.specs.Checked.{HoldsAlways}
use Rattle.law_sound_texts.specs.WorkedText.{the_signal}
use Rattle.law_sound_texts.specs.Carried.{UnitsHold}
use Rattle.law_sound_texts.specs.WorkedTexts.{agreeing_layers, HoldsInBoth}
use Rattle.law_sound_texts.proofs.Times.{always-gives}
use Rattle.law_sound_texts.proofs.WorkedTexts.{computing}

abbrev d : TextDesign
d = design_of agreeing_layers

abbrev f : FlatDesign
f = design_of_flat_text (flatten agreeing_layers)

each-time : (P Q : Option State → State → Type 0) → ((before : Option State) (s : State) → P before s → Q before s) → (before : Option State) (run : List State) → AtEachTime P before run → AtEachTime Q before run
each-time P Q gives before [] h = tt
each-time P Q gives before (s ∷ run) h = (gives before s h.0, each-time P Q gives (Some s) run h.1)

module _ (sizes : Sizes) where
  -- what the base definition says of the signal, the map says too
  says_same : (before : Option State) (s : State) → MeetsBase d sizes before s → Holds d sizes (map_of (codes "A") the_signal) [] before s
  unfolding computing
  says_same before s h = h 0 the_signal (omega arith) 0 [] (omega arith)

  map_holds : (run : List State) → IsRun d sizes run → AtEachTime (Holds d sizes (map_of (codes "A") the_signal) []) None run
  map_holds [] is = elim is [ ]
  map_holds (s ∷ run) is = each-time (MeetsBase d sizes) (Holds d sizes (map_of (codes "A") the_signal) []) says_same None (s ∷ run) is.1

  text_holds : (run : List State) → IsRun d sizes run → All (λ unit. All (λ vs. AtEachTime (Holds d sizes unit vs) None run) (instances d sizes unit)) (units d)
  unfolding computing
  text_holds run is =
      all_one (λ unit. All (λ vs. AtEachTime (Holds d sizes unit vs) None run) (instances d sizes unit)) (map_of (codes "A") the_signal)
      (all_one (λ vs. AtEachTime (Holds d sizes (map_of (codes "A") the_signal) vs) None run) [] (map_holds run is))

  -- so it is in the design
  flat_same : (fore : Option FlatState) (t : FlatState) → meets_base (at_sizes (names_of f) sizes) (bases f) fore t ≡ true → is_held (at_sizes (names_of f) sizes) (unit_in f (Map 1)) [] fore t ≡ true
  unfolding computing
  flat_same fore t h = left_of _ true (left_of _ true h)

design_holds : HoldsAlways f (unit_in f (Map 1))
unfolding computing
design_holds sizes are run is vs i = by_values vs i
  where
    by_values : (vs : List Value) → Has ([] ∷ []) vs → always (is_held (at_sizes (names_of f) sizes) (unit_in f (Map 1)) vs) None run ≡ true
    by_values _ first = always-gives (meets_base (at_sizes (names_of f) sizes) (bases f)) (is_held (at_sizes (names_of f) sizes) (unit_in f (Map 1)) []) (flat_same sizes) None run is.keeps_base
    by_values vs (later m) = elim m [ ]

design_units : UnitsHold f
unfolding computing
design_units unit m = by_units unit m
  where
    by_units : (unit : DesignUnit) → Has (Map 1 ∷ []) unit → HoldsAlways f (unit_in f unit)
    by_units _ first = design_holds
    by_units unit (later m) = elim m [ ]

pub holds_in_both : HoldsInBoth
holds_in_both = (λ sizes are run is. text_holds sizes run is, design_units)
