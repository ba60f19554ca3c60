-- The first assignment of each definition.
use Rattle.std.specs.Prelude.{◌≡◌, List, map, Bool, ◌&&◌, nat_eq}
use Rattle.std.specs.List.{list_any}
use Rattle.std.specs.HashSet.{HashSet, contains_by}
use Rattle.law_designs.specs.Flattening.{different}
use Rattle.law_designs.specs.WholeText.{is_one_layer}
use Rattle.law_designs.specs.Definitions.{Head, same_definition}
use Rattle.smv_design.specs.declared.owners.Owner.{Owner}
use Rattle.smv_design.specs.declared.firsts.Gathered.{Gathered}
use Rattle.smv_design.specs.Acts.{head_of}
use Rattle.smv_design.specs.Groups.{same_owner}

-- whether an owner is noted
abbrev pub has : {S : Type 0} → HashSet Owner S → Owner → Bool
has owners owner = contains_by (same_owner owner) owners

-- whether the assignment is one of the owner's
abbrev pub owns : Owner → Head → Bool
owns owner h = is_one_layer h.layer owner.layer && nat_eq h.family owner.family

-- what was gathered of these assignments: the first of each definition, and their owners
abbrev pub IsGathered : Gathered → List Head → Type 0
IsGathered gathered met = (map head_of gathered.heads.items ≡ different same_definition met) × ((owner : Owner) → has gathered.owners owner ≡ list_any (owns owner) met)
