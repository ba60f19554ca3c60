-- What a text, a unit and sizes at which it is not refused give the laws of units at given sizes.
use Rattle.std.proofs.Common.{◌≡◌, ℕ, List, length, Bool, true, false, if◌then◌else◌, Option, Some, None, refl, nat_eq}
use Rattle.std.specs.Str.{bytes_eq}
use Rattle.smv_core.specs.Sound.{AreSizes}
use Rattle.smv_core.specs.declared.fault.Fault.{Fault}
use Rattle.smv_core.specs.declared.tree.Text.{Text}
use Rattle.smv_core.specs.declared.flat.Design.{Design}
use Rattle.smv_core.specs.declared.flat.Unit.{Unit as DesignUnit}
use Rattle.law_obligations.specs.Sets.{Has}
use Rattle.law_obligations.specs.Covers.{AreApart}
use Rattle.law_obligations.specs.Outlines.{unit_in}
use Rattle.law_obligations.specs.Units.{units_of}
use Rattle.law_obligations.specs.Scripts.{HaveValues}
use Rattle.law_obligations.proofs.Lookups.{find-some}
use Rattle.law_splits.specs.Leaves.{name_of}
use Rattle.law_sound_texts.proofs.TextSizes.{text_sizes}
use Rattle.law_valid_texts.specs.Joined.{flat_design}
use Rattle.law_valid_texts.specs.Faultless.{IsFaultless}
use Rattle.law_concrete.specs.Laws.{GivenAreSizes}
use Rattle.smv_mentions.specs.FirstFault.{or_else}
use Rattle.law_concrete.specs.Sizes.{sizes_at, undeclared, number_fault, wide_fault, many_fault, width_fault, sizes_fault}
use Rattle.law_sized_texts.specs.Texts.{IsRightText}
use Rattle.law_confirmed.specs.Answers.{unit_called, ArePositive}
use Rattle.law_lists.proofs.Numbers.{nat_eq-is}

-- a text without faults of the passes up to cases is right
pub right-text : (tree : Text) → IsFaultless tree → IsRightText tree
right-text tree f = record { kinds = f.kinds; single = f.single; sets = f.sets; design = f.design }

-- a unit that is called by a name is one of the design
pub called-unit : (d : Design) (name : List ℕ) (unit : DesignUnit) → unit_called d name ≡ Some unit → Has (units_of d) unit
called-unit d name unit e = (find-some (λ unit. bytes_eq (name_of d (unit_in d unit)) name) (units_of d) e).0

none-first : (o p : Option Fault) → or_else o p ≡ None → o ≡ None
none-first None p e = refl
none-first (Some f) p e = absurd (cc (e))

abbrev none_there : Option Fault
none_there = None

-- where it is not refused there are as many sizes as there are set types without one
pub as-many : (d : Design) (unit : DesignUnit) (given : List ℕ) → sizes_fault d unit given ≡ None → length given ≡ undeclared d.sets
as-many d unit given e =
    let cases = none-first (or_else (number_fault d unit given) (or_else (wide_fault d unit given) (many_fault d unit given))) (width_fault d unit given) e in
    let number = none-first (number_fault d unit given) (or_else (wide_fault d unit given) (many_fault d unit given)) cases in
    at (nat_eq (length given) (undeclared d.sets)) refl number
  where
    at : (b : Bool) → nat_eq (length given) (undeclared d.sets) ≡ b → (if b then None else Some (record { number = 34; at = 0 })) ≡ none_there → length given ≡ undeclared d.sets
    at true q e = nat_eq-is (length given) (undeclared d.sets) q
    at false q e = absurd (cc (e))

-- so these are sizes of the text
pub are-sizes : (tree : Text) (given : List ℕ) → GivenAreSizes → AreApart (flat_design tree).sets → HaveValues (flat_design tree) → ArePositive given → length given ≡ undeclared (flat_design tree).sets → AreSizes tree (sizes_at (flat_design tree).sets given)
are-sizes tree given law apart values positive long = text_sizes (sizes_at (flat_design tree).sets given) tree (law (flat_design tree) apart values given positive long)
