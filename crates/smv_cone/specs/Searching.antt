-- What a search for a cone has found, as elements are written.
use Rattle.std.specs.Prelude.{◌≡◌, ◌<◌, ◌≤◌, ℕ, List, map, flat_map, option_to_list, Option, Some, None, false}
use Rattle.smv_core.specs.declared.flat.Element.{Element}
use Rattle.law_obligations.specs.Sets.{Has}
use Rattle.law_obligations.specs.Reached.{IsLeast}
use Rattle.law_obligations.specs.Outlines.{chosen}
use Rattle.law_obligations.specs.Cones.{AbsElement, elements_of_def}
use Rattle.law_obligations.specs.Readings.{bits_of_all}
use Rattle.law_problems.specs.Search.{IsSearch}
use Rattle.smv_problem.specs.WellFormed.{AreApartElements}
use Rattle.smv_problem.specs.Written.{written_element}
use Rattle.smv_elements.specs.Elements.{is_full}
use Rattle.smv_spots.specs.declared.spots.Spot.{Spot}
use Rattle.smv_reads.specs.Views.{world_of, places}
use Rattle.smv_cone.specs.declared.parts.Part.{Part}
use Rattle.smv_cone.specs.Parts.{outline_of, firsts, nexts, cone_of}

-- what the chosen definition of a family reads for the element with these indexes
unfoldable pub read_next : Part → ℕ → List Spot → List Element
read_next p family own = map written_element (flat_map (elements_of_def (world_of p.view) (places p.view own)) (option_to_list (chosen (outline_of p) p.choice.now.picks family)))

-- the cone is the least set that has the first elements and what follows each of its own
abbrev pub HasLeast : Part → Type 0
HasLeast p = IsLeast (nexts p) (firsts p) (cone_of p)

-- what is found are elements of the cone, each once; while there are few, the search has gone on from the first of them, so many
pub record HasFound (p : Part) (found : List Element) (turn : ℕ) : Type 0 where
  pub all : List AbsElement
  pub are_written : map written_element all ≡ found
  pub are_apart : AreApartElements all
  pub within : (x : AbsElement) → Has all x → Has (cone_of p) x
  pub is_search : is_full found ≡ false → IsSearch (nexts p) (firsts p) (cone_of p) all turn

-- the cone as it is written, where it has few bits, and none where it has too many
abbrev pub IsConeOf : Part → Option (List Element) → Type 0
IsConeOf p (Some elements) = (elements ≡ map written_element (cone_of p)) × (bits_of_all (world_of p.view) (cone_of p) ≤ 1024)
IsConeOf p None = 1024 < bits_of_all (world_of p.view) (cone_of p)
