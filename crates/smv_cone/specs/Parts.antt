-- A case of a leaf as a search looks at it.
use Rattle.std.specs.Prelude.{◌≡◌, ℕ, List, [], ◌∷◌, map, slice_get, unwrap_or, Bool, true, false, if◌then◌else◌}
use Rattle.std.specs.List.{list_all}
use Rattle.smv_core.specs.declared.flat.Simple.{Simple}
use Rattle.smv_core.specs.declared.flat.Class.{Class}
use Rattle.smv_core.specs.declared.flat.Class.TheVariants.{Number, Named, Rest}
use Rattle.smv_core.specs.declared.flat.Element.{Element}
use Rattle.smv_core.specs.declared.flat.Unit.TheVariants.{Claim}
use Rattle.law_obligations.specs.Places.{Place}
use Rattle.law_obligations.specs.Outlines.{Entry, Outline}
use Rattle.law_obligations.specs.Units.{units_of}
use Rattle.law_problems.specs.Parts.{outlined, IsPart, IsCaseOf}
use Rattle.smv_cases.specs.Types.{types_of}
use Rattle.law_obligations.specs.Cones.{AbsElement, first_elements, next_elements, cone}
use Rattle.smv_problem.specs.Written.{written_class}
use Rattle.smv_spots.specs.declared.spots.Spot.{Spot}
use Rattle.smv_reads.specs.Views.{IsView, world_of, places, spot_in}
use Rattle.smv_chosen_table.specs.Tables.{IsTable}
use Rattle.smv_cone.specs.declared.parts.Part.{Part}

-- where these classes of these types lie
abbrev pub spots_in : List Simple → List Class → List Spot
spots_in (t ∷ types) (c ∷ classes) = spot_in t c ∷ spots_in types classes
spots_in _ _ = []

-- a number or a class
abbrev pub is_class : Class → Bool
is_class (Number k) = true
is_class (Named k) = true
is_class (Rest g) = false

-- the element of a family with these indexes, if they are numbers and classes
abbrev pub own_in : ℕ → List Class → List Element
own_in family indexes = if list_all is_class indexes then record { family = family; indexes = indexes } ∷ [] else []

module _ (p : Part) where
  abbrev pub outline_of : Outline
  outline_of = record { design = p.view.design.now; units = p.units.now }

  abbrev pub entry_of : Entry
  entry_of = record { unit = unwrap_or (slice_get p.units.now p.leaf.now.unit) (Claim 0); leaf = p.leaf.now; choice = p.choice.now }

  -- where the leaf's parameters lie
  abbrev pub params_of : List Place
  params_of = places p.view p.params.now

  -- with what the cone begins, what follows an element, and the cone
  abbrev pub firsts : List AbsElement
  firsts = first_elements (world_of p.view) outline_of entry_of params_of

  abbrev pub nexts : AbsElement → List AbsElement
  nexts x = next_elements (world_of p.view) outline_of entry_of params_of x

  abbrev pub cone_of : List AbsElement
  cone_of = cone (world_of p.view) outline_of entry_of params_of

-- the units are those of the design, the parameters lie where their classes are, and the table has what the leaf's proof uses
pub record IsPartView (p : Part) : Type 0 where
  pub is_view : IsView p.view
  pub all_units : p.units.now ≡ units_of p.view.design.now
  pub are_written : map written_class (params_of p) ≡ p.classes.now
  pub is_table : IsTable (outline_of p) p.choice.now.picks p.table.now

-- a case of a leaf as the passes give it, and all that is looked up of it
pub record IsPartOf (p : Part) : Type 0 where
  pub units : p.units.now ≡ units_of p.view.design.now
  pub is_part : IsPart p.view.design.now p.leaf.now p.choice.now
  pub is_case : IsCaseOf p.view.design.now p.leaf.now p.choice.now p.classes.now
  pub forms : p.view.types.now ≡ types_of p.view.design.now.sets p.leaf.now.params p.choice.now.keeps p.classes.now
  pub spots : p.params.now ≡ spots_in (map (λ q. q.over) p.leaf.now.params) p.classes.now
  pub is_table : IsTable (outlined p.view.design.now) p.choice.now.picks p.table.now
