-- The definition of a family in a layer, found among the units.
use Rattle.std.proofs.Common.{◌≡◌, ℕ, suc, List, [], ◌∷◌, Option, Some, None, Bool, true, false, cond, refl, sym, ap, ◌∙◌}
use Rattle.std.specs.Prelude.{option_map, option_and_then}
use Rattle.std.specs.List.{slice_get}
use Rattle.smv_core.specs.declared.flat.Design.{Design}
use Rattle.smv_core.specs.declared.flat.Def.{Def}
use Rattle.smv_core.specs.declared.flat.Unit.{Unit}
use Rattle.smv_core.specs.declared.flat.Unit.TheVariants.{Map, Claim}
use Rattle.law_obligations.specs.Outlines.{is_def, is_map, place_of, unit_in, map_in, as_map, base_of, said_by, map_by, map_in_layer}
use Rattle.smv_chosen.specs.Chosen.{if_def, map_of_unit, or_else, first_map}

module _ (d : Design) (family layer : ℕ) where
  -- what the unit at a place among some says
  abbrev said_in : Option Unit → Option Def
  said_in None = None
  said_in (Some unit) = map_in (unit_in d unit)

  abbrev said_at : List Unit → Option ℕ → Option Def
  said_at units None = base_of d family
  said_at units (Some v) = said_in (slice_get units v)

  abbrev none : Option Def
  none = None

  none-either : (b : Bool) → none ≡ cond b none none
  none-either true = refl
  none-either false = refl

  unit-is : (unit : Unit) (b : Bool) → is_map d family layer unit ≡ b → map_of_unit d family layer unit ≡ cond b (map_in (unit_in d unit)) None
  unit-is (Claim k) false e = refl
  unit-is (Claim k) true e = absurd (cc)
  unit-is (Map k) b e = at (slice_get d.defs k) e
    where
      at : (o : Option Def) → is_def family layer o ≡ b → if_def family layer o ≡ cond b (map_in (as_map o)) None
      at None e = none-either b
      at (Some def) e = ap (λ (c : Bool). cond c (Some def) None) e

  -- one unit in front
  one-more : (unit : Unit) (units : List Unit) (o : Option ℕ) → said_at (unit ∷ units) (option_map (λ k. suc k) o) ≡ said_at units o
  one-more unit units None = refl
  one-more unit units (Some v) = refl

  -- the first unit is the map
  first-is : (unit : Unit) (units : List Unit) → is_map d family layer unit ≡ true → map_in (unit_in d unit) ≡ or_else (or_else (map_of_unit d family layer unit) (first_map d family layer units)) (base_of d family)
  first-is (Claim k) units e = absurd (cc)
  first-is (Map k) units e = at (slice_get d.defs k) e
    where
      at : (o : Option Def) → is_def family layer o ≡ true → map_in (as_map o) ≡ or_else (or_else (if_def family layer o) (first_map d family layer units)) (base_of d family)
      at None e = absurd (cc)
      at (Some def) e = sym (ap (λ (c : Bool). or_else (or_else (cond c (Some def) None) (first_map d family layer units)) (base_of d family)) e)

  found-is : (units : List Unit) → said_at units (place_of (is_map d family layer) units) ≡ or_else (first_map d family layer units) (base_of d family)
  found-is [] = refl
  found-is (unit ∷ units) = by (is_map d family layer unit) refl (found-is units)
    where
      by : (b : Bool) → is_map d family layer unit ≡ b → said_at units (place_of (is_map d family layer) units) ≡ or_else (first_map d family layer units) (base_of d family) →
          said_at (unit ∷ units) (cond b (Some 0) (option_map (λ k. suc k) (place_of (is_map d family layer) units))) ≡ or_else (or_else (map_of_unit d family layer unit) (first_map d family layer units)) (base_of d family)
      by true e goes = first-is unit units e
      by false e goes = one-more unit units (place_of (is_map d family layer) units) ∙ (goes ∙ sym (ap (λ (o : Option Def). or_else (or_else o (first_map d family layer units)) (base_of d family)) (unit-is unit false e)))

  -- where it is looked up
  looked : (units : List Unit) (o : Option ℕ) → map_by (record { design = d; units = units }) family o ≡ said_at units o
  looked units None = refl
  looked units (Some v) = at (slice_get units v)
    where
      at : (o : Option Unit) → option_and_then map_in (said_by (record { design = d; units = units }) o) ≡ said_in o
      at None = refl
      at (Some unit) = refl

  pub map-is : (units : List Unit) → map_in_layer (record { design = d; units = units }) family (Some layer) ≡ or_else (first_map d family layer units) (base_of d family)
  map-is units = looked units (place_of (is_map d family layer) units) ∙ found-is units

pub ruleset maps = (map-is)
