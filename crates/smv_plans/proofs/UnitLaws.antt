-- The maps and claims of a design, one after the other.
use Rattle.std.proofs.Common.{◌≡◌, ℕ, ◌+◌, List, [], ◌∷◌, ◌++◌, map, length, cond, refl, ap, ◌∙◌}
use Rattle.std.specs.Prelude.{flat_map, zip}
use Rattle.smv_core.specs.Values.{numbers_from}
use Rattle.smv_core.specs.declared.flat.Def.{Def}
use Rattle.smv_core.specs.declared.flat.Claim.{Claim}
use Rattle.smv_core.specs.declared.flat.Design.{Design}
use Rattle.smv_core.specs.declared.flat.Unit.{Unit}
use Rattle.smv_core.specs.declared.flat.Unit.TheVariants as unit
use Rattle.law_obligations.specs.Units.{is_refinement, maps, in_order, units_of}
use Rattle.smv_plans.specs.Units.{maps_from, claims_from}

maps-from : (d : Design) (first : ℕ) (defs : List Def) →
    maps_from d first defs ≡ flat_map (λ (k, def). cond (is_refinement d def.family def.layer) ((def.place, unit.Map k) ∷ []) []) (zip (numbers_from first (length defs)) defs)
maps-from d first [] = refl
maps-from d first (def ∷ defs) = ap (λ l. cond (is_refinement d def.family def.layer) ((def.place, unit.Map first) ∷ []) [] ++ l) (maps-from d (first + 1) defs)

claims-from : (first : ℕ) (all : List Claim) → claims_from first all ≡ map (λ (k, claim). (claim.place, unit.Claim k)) (zip (numbers_from first (length all)) all)
claims-from first [] = refl
claims-from first (claim ∷ all) = ap (λ l. (claim.place, unit.Claim first) ∷ l) (claims-from (first + 1) all)

pub units-are : (d : Design) → map (λ (x : ℕ × Unit). x.1) (in_order (maps_from d 0 d.defs ++ claims_from 0 d.claims)) ≡ units_of d
units-are d =
    ap (λ l. map (λ (x : ℕ × Unit). x.1) (in_order (l ++ claims_from 0 d.claims))) (maps-from d 0 d.defs)
    ∙ ap (λ l. map (λ (x : ℕ × Unit). x.1) (in_order (maps d ++ l))) (claims-from 0 d.claims)
