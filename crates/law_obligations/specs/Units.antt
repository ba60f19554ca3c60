-- The units of a design, in flat order.
use Rattle.std.specs.Prelude.{ℕ, List, [], ◌∷◌, ◌++◌, map, flat_map, zip, length, Option, Some, None, Bool, false, not, if◌then◌else◌, nat_lt}
use Rattle.smv_core.specs.Values.{numbers_from}
use Rattle.smv_core.specs.declared.flat.Design.{Design}
use Rattle.smv_core.specs.declared.flat.Def.{Def}
use Rattle.smv_core.specs.declared.flat.Unit.{Unit}
use Rattle.smv_core.specs.declared.flat.Unit.TheVariants.{Map, Claim}
use Rattle.smv_core.specs.declared.flat.Leaf.{Leaf}
use Rattle.smv_core.specs.declared.flat.Choice.{Choice}
use Rattle.law_obligations.specs.Outlines.{Script, entries_of, is_in_layer, base_of}

-- the layer of a definition, if there is one, is this
abbrev pub is_base_in : ℕ → Option Def → Bool
is_base_in layer None = false
is_base_in layer (Some def) = is_in_layer layer def.layer

module _ (d : Design) where
  -- a refinement map: the definition of a family in a layer, other than the base definition (SMV language manual)
  abbrev pub is_refinement : ℕ → Option ℕ → Bool
  is_refinement family None = false
  is_refinement family (Some layer) = not (is_base_in layer (base_of d family))

  -- the maps and the claims, each with its place in flat order
  abbrev pub maps : List (ℕ × Unit)
  maps = flat_map (λ (k, def). if is_refinement def.family def.layer then (def.place, Map k) ∷ [] else []) (zip (numbers_from 0 (length d.defs)) d.defs)

  abbrev pub claims : List (ℕ × Unit)
  claims = map (λ (k, claim). (claim.place, Claim k)) (zip (numbers_from 0 (length d.claims)) d.claims)

-- put before the first that stands later
abbrev pub put : ℕ × Unit → List (ℕ × Unit) → List (ℕ × Unit)
put x [] = x ∷ []
put x (y ∷ units) = if nat_lt x.0 y.0 then x ∷ y ∷ units else y ∷ put x units

abbrev pub in_order : List (ℕ × Unit) → List (ℕ × Unit)
in_order [] = []
in_order (x ∷ units) = put x (in_order units)

-- the units of a design
abbrev pub units_of : Design → List Unit
units_of d = map (λ (place, unit). unit) (in_order (maps d ++ claims d))

-- a design with a leaf and a choice for each of its units
abbrev pub script_of : Design → List Leaf → List Choice → Script
script_of d leaves choices = record { design = d; entries = entries_of (units_of d) leaves choices }
