-- What a unit is refused for at given sizes stands within the text.
use Rattle.std.proofs.Common.{◌≡◌, ◌≤◌, ◌||◌, ℕ, Bool, true, false, length, List, Option, Some, None, IfSome, subst, arith, ◌⊎◌, inl, inr, nat_eq, nat_lt}
use Rattle.std.specs.Prelude.{if◌then◌else◌}
use Rattle.std.specs.List.{list_any}
use Rattle.smv_core.specs.declared.fault.Fault.{Fault}
use Rattle.smv_core.specs.declared.flat.Design.{Design}
use Rattle.smv_core.specs.declared.flat.Unit.{Unit}
use Rattle.smv_mentions.specs.FirstFault.{or_else}
use Rattle.law_designs.specs.Flattening.{flatten}
use Rattle.law_obligations.specs.Outlines.{unit_in}
use Rattle.law_obligations.specs.Soundness.{params_of}
use Rattle.law_problems.specs.Parts.{place_of_unit}
use Rattle.law_concrete.specs.Concrete.{sized, concrete_cases}
use Rattle.law_concrete.specs.Sizes.{at_unit, case_bits, cases_fault, element_count, many_fault, number_fault, sizes_at, sizes_fault, undeclared, wide_fault, width_fault}
use Rattle.law_valid_texts.specs.Joined.{flat_design}
use Rattle.law_confirmed.specs.Answers.{IsUnitFault, unnamed, unsized}
use Rattle.law_fault_places.specs.FlatPlaces.{DesignIsWithin, DesignsAreWithin, FlattenedTextsAreWithin}
use Rattle.law_fault_places.specs.FaultsOfTexts.{IsSizeFaultWithin, TreesOfTextsAreWithin}
use Rattle.law_fault_places.specs.PassFaults.{IsFaultWithin}
use Rattle.law_fault_places.proofs.PassLaws.{unit-placed}

either-each : (P : Fault → Type 0) (x y : Option Fault) → IfSome x P → IfSome y P → IfSome (or_else x y) P
either-each P None y p q = q
either-each P (Some fault) y p q = p

where-so : (P : Fault → Type 0) (b : Bool) (fault : Fault) → P fault → IfSome (if b then Some fault else None) P
where-so P true fault p = p
where-so P false fault p = tt

where-not : (P : Fault → Type 0) (b : Bool) (fault : Fault) → P fault → IfSome (if b then None else Some fault) P
where-not P true fault p = tt
where-not P false fault p = p

module _ (n : ℕ) where
  abbrev Stands : Fault → Type 0
  Stands fault = IsFaultWithin n fault.number fault.at ⊎ IsSizeFaultWithin n fault.number fault.at

  sizes-within : (d : Design) (unit : Unit) (given : List ℕ) → place_of_unit (unit_in d unit) ≤ n → IfSome (sizes_fault d unit given) Stands
  sizes-within d unit given placed =
      let s = sizes_at d.sets given in
      let counted = where-not Stands (nat_eq (length given) (undeclared d.sets)) (record { number = 34; at = 0 }) (inr (record { lowest = omega arith; highest = omega arith; place = omega arith })) in
      let wide = where-so Stands (list_any (λ f. nat_lt 256 (element_count (sized d s) f)) d.families) (at_unit d unit given 35) (inr (record { lowest = omega arith; highest = omega arith; place = placed })) in
      let many = where-so Stands (nat_lt 8 (length (params_of (sized d s) (unit_in d unit))) || nat_lt 4096 (length (concrete_cases d s unit))) (at_unit d unit given 29)
      (inl (record { lowest = omega arith; highest = omega arith; place = placed })) in
      let wide_cases = where-so Stands (list_any (λ classes. nat_lt 1024 (case_bits d unit given classes)) (concrete_cases d s unit)) (at_unit d unit given 30)
      (inl (record { lowest = omega arith; highest = omega arith; place = placed })) in
      either-each Stands (cases_fault d unit given) (width_fault d unit given)
      (either-each Stands (number_fault d unit given) (or_else (wide_fault d unit given) (many_fault d unit given)) counted (either-each Stands (wide_fault d unit given) (many_fault d unit given) wide many))
      wide_cases

  found : (o : Option Fault) (fault : Fault) → o ≡ Some fault → IfSome o Stands → Stands fault
  found o fault e h = subst (λ (p : Option Fault). IfSome p Stands) e h

pub unit-fault-within : TreesOfTextsAreWithin → FlattenedTextsAreWithin → DesignsAreWithin → (text name given : List ℕ) (number at : ℕ) → IsUnitFault text name given number at →
    IsFaultWithin (length text) number at ⊎ IsSizeFaultWithin (length text) number at
unit-fault-within trees flat designs text name given _ _ (unnamed tree valid none) = inl (record { lowest = omega arith; highest = omega arith; place = omega arith })
unit-fault-within trees flat designs text name given _ _ (unsized tree unit fault valid called is) =
    let n = length text in
    let design : DesignIsWithin n (flat_design tree) = designs n (flatten tree) (flat n tree (trees text tree valid.is_tree.spelled)) in
    found n (sizes_fault (flat_design tree) unit given) fault is (sizes-within n (flat_design tree) unit given (unit-placed n (flat_design tree) design unit))
