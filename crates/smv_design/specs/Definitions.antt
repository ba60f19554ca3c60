-- Definitions, made of what is said of their owners.
use Rattle.std.specs.Prelude.{◌≡◌, List, [], ◌∷◌, map, filter, false}
use Rattle.std.specs.List.{list_any}
use Rattle.smv_core.specs.declared.tree.Kind.TheVariants.{Comb, Init, Next}
use Rattle.smv_core.specs.declared.flat.Def.{Def}
use Rattle.law_designs.specs.WholeText.{is_one_layer}
use Rattle.law_designs.specs.Standing.{Statement}
use Rattle.law_designs.specs.Definitions.{Head, same_definition, joined, part_of}
use Rattle.smv_design.specs.declared.acts.Act.{Act}
use Rattle.smv_design.specs.declared.heads.Noted.{Noted}
use Rattle.smv_design.specs.declared.owners.Owner.{Owner}
use Rattle.smv_design.specs.declared.definitions.Said.{Said}
use Rattle.smv_design.specs.Acts.{head_of}
use Rattle.smv_design.specs.Groups.{used, held}
use Rattle.smv_design.specs.Told.{told_by}

abbrev pub owner_of : Noted → Owner
owner_of h = record { layer = h.layer; family = h.family }

-- ---- what is said

-- the same is said of an owner
abbrev pub IsSame : Said → Said → Owner → Type 0
IsSame a b owner = (used b.init owner ≡ used a.init owner) × (used b.next owner ≡ used a.next owner) × (used b.comb owner ≡ used a.comb owner)

-- what these statements say
abbrev pub IsSaid : Said → List Act → Type 0
IsSaid said acts = (owner : Owner) → ((held said.init owner).first ≡ told_by Init owner acts) × ((held said.next owner).first ≡ told_by Next owner acts) × ((held said.comb owner).first ≡ told_by Comb owner acts)

-- ---- definitions

-- the definition whose first assignment is this one, by what is said
abbrev pub def_from : Said → Noted → Def
def_from said h = record {
  family = h.family;
  layer = h.layer;
  init = joined (held said.init (owner_of h)).first;
  next = joined (held said.next (owner_of h)).first;
  comb = joined (held said.comb (owner_of h)).first;
  place = h.place;
  at = h.at;
}

-- the definition of these statements whose first assignment is this one
abbrev pub def_among : List Statement → Head → Def
def_among statements head =
    let set = filter (λ (s : Statement). is_one_layer head.layer s.layer) statements in
    record {
      family = head.family;
      layer = head.layer;
      init = part_of Init head.family set;
      next = part_of Next head.family set;
      comb = part_of Comb head.family set;
      place = head.place;
      at = head.at;
    }

-- no assignment is one of the definition of another one before it
abbrev pub AreApart : List Noted → Type 0
AreApart [] = Unit {0}
AreApart (h ∷ hs) = (list_any (same_definition (head_of h)) (map head_of hs) ≡ false) × AreApart hs

-- what is said gives these definitions
abbrev pub AreSaid : Said → List Statement → List Noted → Type 0
AreSaid said statements [] = Unit {0}
AreSaid said statements (h ∷ hs) = (def_from said h ≡ def_among statements (head_of h)) × AreSaid said statements hs
