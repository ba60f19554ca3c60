-- What is known of an index, as the index of the definitions.
use Rattle.std.specs.Prelude.{ℕ, List, [], ◌∷◌, Option, option_map}
use Rattle.smv_core.specs.Values.{Outcome, number}
use Rattle.smv_core.specs.Assignments.{Index, fixed, bare, computed, add_fixed}
use Rattle.smv_core.specs.FlatMeaning.{flat_index}
use Rattle.smv_core.specs.declared.flat.FlatSigned.{FlatSigned, out-FlatSigned}
use Rattle.smv_indexes.specs.declared.Index.{Index as Known}
use Rattle.smv_indexes.specs.declared.Index.TheVariants.{Fixed, Bare, Computed}

-- a number, or none where it is Undefined
abbrev pub outcome_of : Option ℕ → Outcome
outcome_of value = option_map number value

abbrev pub index_of : Known → Index
index_of (Fixed value) = fixed (outcome_of value)
index_of (Bare var) = bare var
index_of Computed = computed

-- a sum from the left
abbrev pub added_all : Index → List FlatSigned → Index
added_all i [] = i
added_all i (s ∷ more) = added_all (add_fixed (out-FlatSigned s).minus i (flat_index (out-FlatSigned s).of)) more
