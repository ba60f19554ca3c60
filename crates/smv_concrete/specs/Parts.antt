-- A case of a unit alone as the search for its cone looks at it.
use Rattle.std.specs.Prelude.{◌≡◌, ℕ, List, [], map}
use Rattle.law_obligations.specs.Outlines.{names_of, unit_in}
use Rattle.law_obligations.specs.Sets.{Has}
use Rattle.law_obligations.specs.Soundness.{params_of}
use Rattle.law_obligations.specs.Units.{units_of}
use Rattle.law_concrete.specs.Concrete.{concrete_cases}
use Rattle.law_concrete.specs.Sizes.{sizes_at}
use Rattle.smv_chosen_table.specs.Tables.{AreBaseDefs}
use Rattle.smv_cone.specs.declared.parts.Part.{Part}
use Rattle.smv_cone.specs.Parts.{entry_of, spots_in}
use Rattle.smv_concrete.specs.Subjects.{nothing_used, whole_types}

-- the unit has these parameters and no guards, nothing is used, and the case is one of its cases at these sizes
pub record IsLone (given : List ℕ) (p : Part) : Type 0 where
  pub units : p.units.now ≡ units_of p.view.design.now
  pub params : map (λ q. q.over) p.leaf.now.params ≡ params_of (names_of p.view.design.now) (unit_in p.view.design.now (entry_of p).unit)
  pub guards : p.leaf.now.guards ≡ []
  pub choice : p.choice.now ≡ nothing_used
  pub types : p.view.types.now ≡ whole_types p.view.design.now.sets given
  pub spots : p.params.now ≡ spots_in (map (λ q. q.over) p.leaf.now.params) p.classes.now
  pub is_case : Has (concrete_cases p.view.design.now (sizes_at p.view.design.now.sets given) (entry_of p).unit) p.classes.now
  pub table : AreBaseDefs p.view.design.now p.table.now
