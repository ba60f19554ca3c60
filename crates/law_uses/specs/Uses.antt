-- What the references of a `using` name: definitions, claims and set types of the design, by their numbers.
use Rattle.std.specs.Prelude.{ℕ, List, [], ◌∷◌, map, flat_map, Option, Some, None, option_map, Bool, true, false, if◌then◌else◌}
use Rattle.std.specs.List.{list_any, join_with_byte}
use Rattle.smv_core.specs.Values.{Name}
use Rattle.smv_core.specs.declared.tree.Word.{Word}
use Rattle.smv_core.specs.declared.tree.Ref.{Ref}
use Rattle.smv_core.specs.declared.tree.Use.{Use}
use Rattle.smv_core.specs.declared.tree.Use.TheVariants.{Plain, Early, Keep}
use Rattle.smv_core.specs.declared.flat.Design.{Design}
use Rattle.smv_core.specs.declared.flat.Pick.{Pick}
use Rattle.smv_core.specs.declared.flat.Assumed.{Assumed}
use Rattle.name_index.specs.Position.{position}
use Rattle.law_uses.specs.declared.meaning.Meaning.{Meaning}
use Rattle.law_uses.specs.declared.meaning.Meaning.TheVariants.{Definition, Claim}
use Rattle.law_obligations.specs.Outlines.{is_def}

-- ---- names

-- the path of a reference, as it is written
abbrev pub path_of : Ref → Name
path_of of = join_with_byte 46 (map (λ word. word.name) of.path)

module _ (d : Design) where
  -- the number of the family, the claim, the layer and the set type of this name
  abbrev pub family_named : Name → Option ℕ
  family_named name = position (map (λ family. family.name) d.families) name

  abbrev pub claim_named : Name → Option ℕ
  claim_named name = position (map (λ claim. claim.name) d.claims) name

  abbrev pub layer_named : Name → Option ℕ
  layer_named name = position d.layers name

  abbrev pub set_named : Name → Option ℕ
  set_named name = position (map (λ info. info.name) d.sets) name

-- ---- what is used

module _ (d : Design) where
  -- the layer defines the family
  abbrev pub is_defined_in : ℕ → ℕ → Bool
  is_defined_in layer family = list_any (λ def. is_def family layer (Some def)) d.defs

  -- `y//L`, where the layer L defines the family y
  abbrev pub definition_in : Option ℕ → Option ℕ → Option Meaning
  definition_in (Some family) (Some layer) = if is_defined_in layer family then Some (Definition family (Some layer)) else None
  definition_in _ _ = None

  -- what stands before `//` by what stands behind: a claim where there is no layer
  abbrev pub meaning_in : Name → Option Word → Option Meaning
  meaning_in path None = option_map Claim (claim_named d path)
  meaning_in path (Some layer) = definition_in (family_named d path) (layer_named d layer.name)

  -- what a reference before `prove` means: `y//free` leaves the family y free (SMV language manual)
  abbrev pub meaning_of : Ref → Option Meaning
  meaning_of of = if of.free then option_map (λ family. Definition family None) (family_named d (path_of of)) else meaning_in (path_of of) of.layer

-- a use of a definition or a claim: its reference, and whether it stands in parentheses
pub record Used : Type 0 where
  pub of : Ref
  pub early : Bool

abbrev pub used_by : Use → List Used
used_by (Plain of) = record { of = of; early = false } ∷ []
used_by (Early of) = record { of = of; early = true } ∷ []
used_by (Keep set names at) = []

abbrev pub used_in : List Use → List Used
used_in uses = flat_map used_by uses

-- `T->{..}`: the name of a set type, and the names in the braces
pub record Braces : Type 0 where
  pub set : Word
  pub names : List Word

abbrev pub braces_by : Use → List Braces
braces_by (Keep set names at) = record { set = set; names = names } ∷ []
braces_by _ = []

abbrev pub braces_in : List Use → List Braces
braces_in uses = flat_map braces_by uses

-- the definition that a use chooses, at its place, and the claim that it assumes
abbrev pub pick_by : Used → Option Meaning → List (ℕ × Pick)
pick_by used (Some (Definition family layer)) = (used.of.at, record { family = family; layer = layer; early = used.early }) ∷ []
pick_by used _ = []

abbrev pub assumed_by : Used → Option Meaning → List (ℕ × Assumed)
assumed_by used (Some (Claim k)) = (used.of.at, record { claim = k; early = used.early }) ∷ []
assumed_by used _ = []

module _ (d : Design) where
  -- the choices of definitions of some uses, and the claims that they assume, in their order
  abbrev pub picks_in : List Use → List (ℕ × Pick)
  picks_in uses = flat_map (λ used. pick_by used (meaning_of d used.of)) (used_in uses)

  abbrev pub assumed_in : List Use → List (ℕ × Assumed)
  assumed_in uses = flat_map (λ used. assumed_by used (meaning_of d used.of)) (used_in uses)
