-- What the tables of the code hold.
use Rattle.std.specs.Prelude.{◌≡◌, ℕ, map, Bool, ◌&&◌, nat_eq}
use Rattle.std.specs.HashSet.{HashSet, contains}
use Rattle.law_uses.specs.Uses.{is_defined_in}
use Rattle.smv_choices.specs.declared.tables.Tables.{Tables}

abbrev pub same_pair : ℕ × ℕ → ℕ × ℕ → Bool
same_pair x y = nat_eq x.0 y.0 && nat_eq x.1 y.1

-- a family and a layer are among those noted
abbrev pub is_noted : {S : Type 0} → HashSet (ℕ × ℕ) S → ℕ × ℕ → Bool
is_noted seen pair = contains same_pair seen pair

-- a unit is among those noted
abbrev pub is_seen : {S : Type 0} → HashSet ℕ S → ℕ → Bool
is_seen seen unit = contains nat_eq seen unit

-- the names of the design's families, claims, layers and set types, and which layers define which families
pub record AreTables (tables : Tables) : Type 0 where
  pub families : tables.families ≡ map (λ family. family.name) tables.design.now.families
  pub claims : tables.claims ≡ map (λ claim. claim.name) tables.design.now.claims
  pub layers : tables.layers ≡ tables.design.now.layers
  pub sets : tables.sets ≡ map (λ info. info.name) tables.design.now.sets
  pub defined : (family layer : ℕ) → is_noted tables.defined (family, layer) ≡ is_defined_in tables.design.now layer family
