-- The problem of a unit at given sizes: every set type has its values as classes, every family has its base definition, and nothing is assumed.
use Rattle.std.specs.Prelude.{◌+◌, ◌-◌, List, [], map, flat_map, slice_get, option_to_list, Option, Some, None, false, true}
use Rattle.smv_core.specs.Values.{Sizes, numbers_from}
use Rattle.smv_core.specs.FlatMeaning.{Numbered}
use Rattle.smv_core.specs.declared.flat.Simple.{Simple}
use Rattle.smv_core.specs.declared.flat.Simple.TheVariants.{Range, Enum, Set}
use Rattle.smv_core.specs.declared.flat.SetInfo.{SetInfo}
use Rattle.smv_core.specs.declared.flat.Design.{Design}
use Rattle.smv_core.specs.declared.flat.Unit.{Unit}
use Rattle.smv_core.specs.declared.flat.Class.{Class}
use Rattle.smv_core.specs.declared.flat.Class.TheVariants as class
use Rattle.law_obligations.specs.Sets.{one_of_each}
use Rattle.law_obligations.specs.Places.{Place}
use Rattle.law_obligations.specs.Cases.{Parameter}
use Rattle.law_obligations.specs.Covers.{places_at}
use Rattle.law_obligations.specs.Obligations.{Demanded, defined, AbstractProblem}
use Rattle.law_obligations.specs.Soundness.{at_sizes, params_of, said_at}
use Rattle.law_obligations.specs.Outlines.{Entry, Outline, names_of, base_of, unit_in}
use Rattle.law_obligations.specs.Units.{units_of}
use Rattle.law_obligations.specs.Cones.{AbsElement, cone, kept}
use Rattle.law_obligations.specs.Readings.{PosedCase}
use Rattle.law_exact.specs.Exact.{whole_world}

-- a design with its units
abbrev pub outlined : Design → Outline
outlined d = record { design = d; units = units_of d }

-- a unit that is neither split nor uses anything: every family has its base definition
abbrev pub alone : Unit → Entry
alone unit = record {
  unit = unit;
  leaf = record { unit = 0; name = []; params = []; guards = [] };
  choice = record { picks = []; claims = []; itself = false; keeps = [] };
}

-- the classes of a parameter's type: the numbers of a range, and the values of a set type
abbrev pub values_of_set : Sizes → Option SetInfo → List Class
values_of_set sizes None = []
values_of_set sizes (Some info) = map class.Named (numbers_from 0 (sizes info.name))

abbrev pub classes_of_type : Numbered → Simple → List Class
classes_of_type n (Range low high) = map class.Number (numbers_from low (high + 1 - low))
classes_of_type n (Enum list) = []
classes_of_type n (Set set) = values_of_set n.sizes (slice_get n.sets set)

-- a parameter of this type
abbrev pub parameter : Simple → Parameter
parameter t = record { over = t; listed = true }

module _ (d : Design) (sizes : Sizes) where
  abbrev pub sized : Numbered
  sized = at_sizes (names_of d) sizes

  -- the cases of a unit: each parameter has any of its values, in lexicographic order
  abbrev pub concrete_cases : Unit → List (List Class)
  concrete_cases unit = one_of_each (map (classes_of_type sized) (params_of sized (unit_in d unit)))

  -- where the parameters stand in a case
  abbrev pub concrete_places : Unit → List Class → List Place
  concrete_places unit classes = places_at sized (map parameter (params_of sized (unit_in d unit))) classes

  -- the base definition of each element
  abbrev pub base_demands : List AbsElement → List Demanded
  base_demands elements = flat_map (λ x. map (λ def. defined def x.indexes) (option_to_list (base_of d x.family))) elements

  -- the elements that the unit at these places and base definitions read
  abbrev pub concrete_cone : Unit → List Place → List AbsElement
  concrete_cone unit params = cone (whole_world sized) (outlined d) (alone unit) params

  -- the problem of a unit whose parameters stand at these places
  abbrev pub problem_at : Unit → List Place → AbstractProblem
  problem_at unit params = record {
    world = whole_world sized;
    kept = kept (concrete_cone unit params);
    now = base_demands (concrete_cone unit params);
    before = [];
    target = said_at (unit_in d unit) params;
    guards = [];
    params = params;
  }

  -- the problem of a case
  abbrev pub concrete : Unit → List Class → AbstractProblem
  concrete unit classes = problem_at unit (concrete_places unit classes)

  -- and the problem with the elements of its cone
  abbrev pub concrete_case : Unit → List Class → PosedCase
  concrete_case unit classes = record { problem = concrete unit classes; elements = concrete_cone unit (concrete_places unit classes) }
