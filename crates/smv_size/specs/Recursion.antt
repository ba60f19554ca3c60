-- A module that contains itself, found in the graph of the modules and their instances.
use Rattle.std.specs.Prelude.{ℕ, List, [], map, flat_map, fold, length, Option, Some, None, Bool, false, nat_le, option_map}
use Rattle.std.specs.List.{filter_map}
use Rattle.name_index.specs.Position.{position}
use Rattle.graphs.specs.Graph.{reaches}
use Rattle.smv_core.specs.Values.{Name}
use Rattle.smv_core.specs.declared.fault.Fault.{Fault}
use Rattle.smv_core.specs.declared.tree.Word.{Word}
use Rattle.smv_core.specs.declared.tree.Text.{Text}
use Rattle.smv_mentions.specs.Mentions.{Mention, instantiates, first_place}
use Rattle.smv_mentions.specs.Scopes.{pieces}
use Rattle.smv_mentions.specs.NameFaults.{used_in, recursive_in, place_if}
use Rattle.smv_mentions.specs.FirstFault.{first_of, faults_at}

-- the first fault of a module that contains itself, at an instance from whose module its own is reached
abbrev pub first_recursion : Text → Option Fault
first_recursion text = first_of (faults_at (10, flat_map (recursive_in (pieces text)) (pieces text)))

-- the fault at a place
abbrev pub recursion_at : Option ℕ → Option Fault
recursion_at at = option_map (λ (at : ℕ). record { number = 10; at = at }) at

-- the least of a place and others
abbrev pub least_from : Option ℕ → List ℕ → Option ℕ
least_from first places = fold (λ (least : Option ℕ) at. Some (first_place at least)) first places

-- a top: its name, its formals where it is a module, and what it says about names
abbrev pub Told : Type 0
Told = Word × Option (List Word) × List Mention

-- the names of the tops
abbrev pub names_told : List Told → List Name
names_told tops = map (λ (top : Told). top.0.name) tops

-- the tops of which a module has instances, each by the first place of its name
abbrev pub places_used : List Name → Told → List ℕ
places_used names (word, None, mentions) = []
places_used names (word, Some formals, mentions) = filter_map (position names) (used_in mentions)

-- an edge from each module to those of its instances
abbrev pub module_graph : List Name → List Told → List (List ℕ)
module_graph names tops = map (places_used names) tops

-- a top is reached from the module of an instance, where both are declared
abbrev pub leads_back : List (List ℕ) → Option ℕ → Option ℕ → Bool
leads_back graph (Some target) (Some start) = reaches graph (length graph) target start
leads_back graph _ _ = false

module _ (names : List Name) (graph : List (List ℕ)) where
  -- an instance from whose module this top is reached
  abbrev pub recursive_at : Option ℕ → Mention → List ℕ
  recursive_at target (instantiates word args) = place_if (leads_back graph target (position names word.name)) word.at
  recursive_at target _ = []

  -- all such instances of a top
  abbrev pub recursive_told : Told → List ℕ
  recursive_told top = flat_map (recursive_at (position names top.0.name)) top.2

-- the least place of an instance on a cycle
abbrev pub least_recursive : List Told → Option ℕ
least_recursive tops = least_from None (flat_map (recursive_told (names_told tops) (module_graph (names_told tops) tops)) tops)

-- a place that is at most another
abbrev pub is_at_most : Option ℕ → ℕ → Bool
is_at_most None at = false
is_at_most (Some first) at = nat_le first at
