-- The laws: what the crate's public functions say.
use Rattle.std.specs.Prelude.{◌≡◌, ℕ, ◌<◌, List, length, slice_index, slice_index_or, Option, Some, Bool, true, false, not, ◌||◌, nat_eq, nat_lt}
use Rattle.smv_core.specs.declared.flat.Def.{Def}
use Rattle.smv_core.specs.declared.flat.Family.{Family}
use Rattle.law_obligations.specs.Sets.{Has}
use Rattle.law_obligations.specs.Outlines.{Entry, Outline, unit_in}
use Rattle.law_obligations.specs.Times.{is_member, families_at_once, first_families, next_families, same_time, has_edge, time_of, unit_time}
use Rattle.graph_search.specs.Reverse.{IsGraph}
use Rattle.graph_components.specs.Components.{AreComponents}
use Rattle.law_use_times.specs.Found.{nodes_of, IsFound}

-- with what a same-time set begins are such numbers
abbrev pub FirstAreNodes : Type 0
FirstAreNodes = (o : Outline) (u : ℕ) (entry : Entry) (x : ℕ) → Has (first_families o u entry) x → x < nodes_of o.design (unit_in o.design entry.unit)

-- what a definition reads at once are families
abbrev pub ReadsAreFamilies : Type 0
ReadsAreFamilies = (families : List Family) (def : Option Def) (x : ℕ) → Has (families_at_once families def) x → x < length families

-- what is found along the reads of chosen definitions is the same-time set
abbrev pub FoundIsSameTime : Type 0
FoundIsSameTime = (o : Outline) (u : ℕ) (entry : Entry) (marks : List Bool) → IsFound (next_families o entry) (first_families o u entry) marks →
    (x : ℕ) → slice_index_or marks x false ≡ is_member (same_time o u entry) x

-- a use is now unless the used unit stands later and is of the component of the unit that uses it
abbrev pub NowByLabels : Type 0
NowByLabels = (edges : List (List ℕ)) (u v : ℕ) (labels : List ℕ) → IsGraph edges → AreComponents edges labels → has_edge edges u v ≡ true →
    unit_time edges u (Some v) ≡ time_of (not (nat_eq (slice_index labels v) (slice_index labels u)) || nat_lt v u)
