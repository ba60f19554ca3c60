-- The parts of choices and of faults of uses as the code finds them: one use, one reference and one parameter after the other.
use Rattle.std.specs.Prelude.{ℕ, ◌+◌, List, [], ◌∷◌, ◌++◌, map, flat_map, filter, length, not, is_none, is_some, option_and_then, slice_get, Option, Some, None, Bool, true, false, ◌&&◌, ◌||◌, if◌then◌else◌}
use Rattle.std.specs.List.{list_any, list_all}
use Rattle.std.specs.Str.{bytes_eq}
use Rattle.smv_core.specs.Values.{Name}
use Rattle.smv_core.specs.declared.tree.Word.{Word}
use Rattle.smv_core.specs.declared.tree.Ref.{Ref}
use Rattle.smv_core.specs.declared.tree.Use.{Use}
use Rattle.smv_core.specs.declared.tree.Use.TheVariants.{Plain, Early, Keep}
use Rattle.smv_core.specs.declared.flat.Param.{Param}
use Rattle.smv_core.specs.declared.flat.Design.{Design}
use Rattle.smv_core.specs.declared.flat.Def.{Def}
use Rattle.smv_core.specs.declared.flat.Unit.{Unit as FlatUnit}
use Rattle.smv_core.specs.declared.flat.Leaf.{Leaf}
use Rattle.smv_core.specs.declared.flat.Choice.{Choice}
use Rattle.smv_core.specs.declared.flat.Keep.{Keep as FlatKeep}
use Rattle.smv_core.specs.declared.flat.Pick.{Pick}
use Rattle.smv_core.specs.declared.flat.Assumed.{Assumed}
use Rattle.law_obligations.specs.Cases.{is_set}
use Rattle.smv_mentions.specs.NameFaults.{place_if}
use Rattle.smv_mentions.specs.Scopes.{first_of_places}
use Rattle.smv_first_fault.specs.Firsts.{least}
use Rattle.law_splits.specs.Leaves.{with_name}
use Rattle.law_splits.specs.SplitFaults.{names_one, doubled, miscounted, same_type}
use Rattle.name_index.specs.Position.{position}
use Rattle.smv_references.specs.Again.{Key, same_key, again}
use Rattle.law_uses.specs.declared.meaning.Meaning.{Meaning}
use Rattle.law_uses.specs.declared.meaning.Meaning.TheVariants.{Definition, Claim}
use Rattle.law_uses.specs.Uses.{meaning_of}
use Rattle.law_uses.specs.Choices.{own_map, is_own}
use Rattle.law_uses.specs.UseFaults.{leaf_named}
use Rattle.smv_choices.specs.declared.keeps.Kept.{Kept}

-- ---- uses

-- the choice of a definition, or the assumed claim, by what a reference means, where it stands and whether it is in parentheses
abbrev pub picks_meant : Option Meaning → ℕ → Bool → List (ℕ × Pick)
picks_meant (Some (Definition family layer)) at early = (at, record { family = family; layer = layer; early = early }) ∷ []
picks_meant _ at early = []

abbrev pub claims_meant : Option Meaning → ℕ → Bool → List (ℕ × Assumed)
claims_meant (Some (Claim k)) at early = (at, record { claim = k; early = early }) ∷ []
claims_meant _ at early = []

module _ (d : Design) where
  -- those of a reference
  abbrev pub picks_of : Ref → Bool → List (ℕ × Pick)
  picks_of of early = picks_meant (meaning_of d of) of.at early

  abbrev pub claims_of : Ref → Bool → List (ℕ × Assumed)
  claims_of of early = claims_meant (meaning_of d of) of.at early

  abbrev pub unknown_of : Ref → List ℕ
  unknown_of of = place_if (is_none (meaning_of d of)) of.at

  -- those of a use
  abbrev pub picks_by : Use → List (ℕ × Pick)
  picks_by (Plain of) = picks_of of false
  picks_by (Early of) = picks_of of true
  picks_by (Keep set names at) = []

  abbrev pub claims_by : Use → List (ℕ × Assumed)
  claims_by (Plain of) = claims_of of false
  claims_by (Early of) = claims_of of true
  claims_by (Keep set names at) = []

  abbrev pub unknown_by : Use → List ℕ
  unknown_by (Plain of) = unknown_of of
  unknown_by (Early of) = unknown_of of
  unknown_by (Keep set names at) = []

-- ---- references after `prove`

-- what stands at a place, if there is one
abbrev pub at_place : {X : Type 0} → List X → Option ℕ → Option X
at_place xs place = option_and_then (slice_get xs) place

-- a reference with the leaf that it names, or its place where it names none
abbrev pub proved_as : Ref → Option Leaf → List (Ref × Leaf)
proved_as of None = []
proved_as of (Some leaf) = (of, leaf) ∷ []

abbrev pub unknown_as : Ref → Option Leaf → List ℕ
unknown_as of None = of.at ∷ []
unknown_as of (Some leaf) = []

abbrev pub proved_one : List Leaf → Ref → List (Ref × Leaf)
proved_one leaves of = proved_as of (leaf_named leaves of)

abbrev pub unknown_one : List Leaf → Ref → List ℕ
unknown_one leaves of = unknown_as of (leaf_named leaves of)

-- ---- the parameters that stay

-- the names in the braces of a use, with the number of the set type before them
abbrev pub kept_as : List Word → Option ℕ → List Kept
kept_as names None = []
kept_as names (Some set) = record { set = set; names = map (λ word. word.name) names } ∷ []

abbrev pub kept_one : List Name → Use → List Kept
kept_one sets (Keep set names at) = kept_as names (position sets set.name)
kept_one sets _ = []

-- the numbers of the parameters among these names, where the first has this number
abbrev pub kept_from : ℕ → List Word → List Name → List ℕ
kept_from k [] names = []
kept_from k (word ∷ brackets) names = (if is_some (position names word.name) then k ∷ [] else []) ++ kept_from (k + 1) brackets names

-- what braces keep by the brackets of a reference
abbrev pub keep_with : Ref → Kept → FlatKeep
keep_with of kept = record { set = kept.set; params = kept_from 0 of.names kept.names }

-- ---- choices

-- picks or claims without their places
abbrev pub without_places : {X : Type 0} → List (ℕ × X) → List X
without_places xs = map (λ (at, x). x) xs

-- the choice of a leaf with this map of its own, of these choices, claims and parameters
abbrev pub choice_with : Option Def → List Pick → List Assumed → List FlatKeep → Choice
choice_with own picks claims keeps = record { picks = filter (λ p. not (is_own own p)) picks; claims = claims; itself = list_any (is_own own) picks; keeps = keeps }

-- ---- what is said twice

-- the first of some places, if there is one
abbrev pub first_among : List (Option ℕ) → Option ℕ
first_among [] = None
first_among (place ∷ more) = first_of_places place (first_among more)

-- the keys by which what is said twice is found: of a map, of a choice besides the leaf's own map, of a claim, and the name of a set type with braces
abbrev pub map_key : ℕ → Pick → List (ℕ × Key)
map_key at p = if is_some p.layer then (at, (p.family, p.layer)) ∷ [] else []

abbrev pub map_keys : List (ℕ × Pick) → List (ℕ × Key)
map_keys picks = flat_map (λ (at, p). map_key at p) picks

abbrev pub family_key : Option Def → ℕ → Pick → List (ℕ × Key)
family_key own at p = if not (is_own own p) then (at, (p.family, None)) ∷ [] else []

abbrev pub family_keys : Option Def → List (ℕ × Pick) → List (ℕ × Key)
family_keys own picks = flat_map (λ (at, p). family_key own at p) picks

abbrev pub claim_keys : List (ℕ × Assumed) → List (ℕ × Key)
claim_keys claims = map (λ (at, used). (at, (used.claim, None))) claims

abbrev pub set_key : List Name → Use → List (ℕ × Name)
set_key sets (Keep set names at) = if is_some (position sets set.name) then (set.at, set.name) ∷ [] else []
set_key sets _ = []

abbrev pub set_keys : List Name → List Use → List (ℕ × Name)
set_keys sets uses = flat_map (set_key sets) uses

-- the first of two choices of one family for a leaf with this map of its own, and for each of some leaves
abbrev pub chosen_again : Option Def → List (ℕ × Pick) → Option ℕ
chosen_again own picks = least (again same_key [] (family_keys own picks))

abbrev pub chosen_for_each : Design → List FlatUnit → List (ℕ × Pick) → List (Ref × Leaf) → Option ℕ
chosen_for_each d units picks proved = first_among (map (λ (of, leaf). chosen_again (own_map d units leaf) picks) proved)

-- ---- what does not fit

-- by these brackets the word is one of these parameters, over the set type
abbrev pub is_param_in : ℕ → List Word → List Param → Word → Bool
is_param_in set (name ∷ brackets) (p ∷ params) word = bytes_eq name.name word.name && is_set set p.over || is_param_in set brackets params word
is_param_in set _ _ word = false

-- and so it is for each leaf that is proved
abbrev pub fits : ℕ → List (Ref × Leaf) → Word → Bool
fits set proved word = list_all (λ (of, leaf). is_param_in set of.names leaf.params word) proved

-- the same of a name, wherever it stands
abbrev pub fits_name : ℕ → List (Ref × Leaf) → Name → Bool
fits_name set proved name = fits set proved (record { name = name; at = 0 })

-- the first misfit in the braces of a set type of this number, and in a use
abbrev pub names_misfit : List (Ref × Leaf) → List Word → ℕ → Option ℕ → Option ℕ
names_misfit proved names at None = Some at
names_misfit proved names at (Some set) = least (flat_map (λ (word : Word). place_if (not (fits set proved word)) word.at) names)

abbrev pub braces_misfit : List Name → List (Ref × Leaf) → Use → Option ℕ
braces_misfit sets proved (Keep set names at) = names_misfit proved names set.at (position sets set.name)
braces_misfit sets proved _ = None

-- the names of the set types of a design
abbrev pub sets_of : Design → List Name
sets_of d = map (λ info. info.name) d.sets

-- a name of another type than its parameter
abbrev pub other_type : List Param → Word → Param → List ℕ
other_type bound word p = place_if (list_any (λ b. not (same_type b.over p.over)) (with_name bound word)) word.at

abbrev pub other_types_in : List Param → List Word → List Param → List ℕ
other_types_in bound (word ∷ words) (p ∷ params) = other_type bound word p ++ other_types_in bound words params
other_types_in bound _ _ = []

-- the first misfit in the brackets of a reference to a leaf
abbrev pub misnamed : List Param → Ref × Leaf → Option ℕ
misnamed bound (of, leaf) =
    first_of_places
    (first_of_places (least (miscounted (length leaf.params) of.names)) (least (flat_map (λ (word : Word). place_if (not (names_one bound word)) word.at) of.names)))
    (first_of_places (least (doubled of.names)) (least (other_types_in bound of.names leaf.params)))
