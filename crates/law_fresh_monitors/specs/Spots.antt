-- Where the claims of a text stand whose formulas are no expressions.
use Rattle.std.specs.Prelude.{◌≡◌, ℕ, List, [], ◌∷◌, ◌++◌, map, flat_map, Option, Some, None, false, nat_eq}
use Rattle.std.specs.List.{AllByRecursion, list_any}
use Rattle.smv_core.specs.FlatOrder.{modules}
use Rattle.smv_core.specs.declared.tree.Expr.{Number}
use Rattle.smv_core.specs.declared.tree.Item.{Item, Forall', Block', Claim, Row_of-Item, end_of-Item, more_of-Item}
use Rattle.law_formulas.specs.Formulas.{Formula, FormulaText, at_place}
use Rattle.law_formulas.specs.Monitors.{Around, names_around}
use Rattle.law_formula_trees.specs.Behind.{AreApart}

-- an offset with the binders around a claim, where there is a formula
abbrev pub spot_at : ℕ → Around → Option Formula → List (ℕ × Around)
spot_at at around None = []
spot_at at around (Some f) = (at, around) ∷ []

-- the list has the formulas
module _ (formulas : List (ℕ × Formula)) where
  abbrev mutual
    -- the offsets of the formulas of an item, each with the binders around its claim
    pub spots_in : Around → Item → List (ℕ × Around)
    spots_in around (Forall' var over shape (more_of-Item body end_of-Item) at) = spots_in (around ++ (var, over) ∷ []) body
    spots_in around (Block' shape items) = spots_among around items
    spots_in around (Claim name vars (Number value at) place) = spot_at at around (at_place formulas at)
    spots_in around _ = []

    pub spots_among : {m : _} → Around → Row_of-Item m → List (ℕ × Around)
    spots_among around end_of-Item = []
    spots_among around (more_of-Item item rest) = spots_in around item ++ spots_among around rest

-- those of the modules of a text
abbrev pub spots : FormulaText → List (ℕ × Around)
spots ft = flat_map (λ entry. flat_map (spots_in ft.formulas []) entry.1.items) (modules ft.text.tops)

-- no number stands twice
abbrev pub NoneTwice : List ℕ → Type 0
NoneTwice [] = Unit {0}
NoneTwice (n ∷ ns) = (list_any (nat_eq n) ns ≡ false) × NoneTwice ns

-- no two stand at one offset, and no two binders around one have the same name
pub record SpotsAreApart (ft : FormulaText) : Type 0 where
  pub places : NoneTwice (map (λ spot. spot.0) (spots ft))
  pub binders : AllByRecursion (λ spot. AreApart (names_around spot.1)) (spots ft)
