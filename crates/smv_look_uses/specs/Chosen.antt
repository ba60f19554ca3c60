-- Where what is said twice by a `using` is said first: the other place of a fault 27.
use Rattle.std.specs.Prelude.{ℕ, List, [], ◌∷◌, ◌++◌, map, flat_map, Option, Bool, if◌then◌else◌, nat_eq}
use Rattle.std.specs.Str.{bytes_eq}
use Rattle.smv_core.specs.declared.tree.Text.{Text}
use Rattle.smv_core.specs.declared.flat.Design.{Design}
use Rattle.smv_core.specs.declared.flat.Unit.{Unit as FlatUnit}
use Rattle.smv_mentions.specs.NameFaults.{place_if}
use Rattle.smv_first_fault.specs.Firsts.{least}
use Rattle.law_designs.specs.Flattening.{flatten}
use Rattle.law_designs.specs.Definitions.{design_of_flat_text}
use Rattle.law_obligations.specs.Units.{units_of}
use Rattle.law_splits.specs.Leaves.{leaves_of}
use Rattle.law_uses.specs.Choices.{own_map}
use Rattle.smv_references.specs.Again.{same_key}
use Rattle.smv_choices.specs.Parts.{map_keys, family_keys, claim_keys, set_keys, sets_of}
use Rattle.smv_choices.specs.Readings.{Said, reading_in, leaf_keys}

module _ (at : ℕ) where
  -- the places of those keys, among some and those of a list, that stand before one at the place and are the same
  abbrev pub same_before : {K : Type 0} → (K → K → Bool) → List (ℕ × K) → List (ℕ × K) → List ℕ
  same_before same before [] = []
  same_before same before (x ∷ more) = (if nat_eq x.0 at then flat_map (λ y. place_if (same y.1 x.1) y.0) before else []) ++ same_before same (before ++ x ∷ []) more

  -- in a `using`: a map used twice; two choices of one family, for a leaf that is proved, besides its own map; a claim used twice; braces twice for one set type
  abbrev pub said_before : Design → List FlatUnit → Said → List ℕ
  said_before d units x =
      same_before same_key [] (map_keys x.picks)
      ++ flat_map (λ (of, leaf). same_before same_key [] (family_keys (own_map d units leaf) x.picks)) x.proved
      ++ same_before same_key [] (claim_keys x.claims)
      ++ same_before bytes_eq [] (set_keys (sets_of d) x.using.uses)

  -- in all of them: a leaf proved twice, and those
  abbrev pub all_before : Design → List FlatUnit → List Said → List ℕ
  all_before d units all = same_before bytes_eq [] (flat_map leaf_keys all) ++ flat_map (said_before d units) all

-- the design of a text, and what each `using` of a design says
abbrev pub design_in : Text → Design
design_in text = design_of_flat_text (flatten text)

abbrev pub said_in : Design → List Said
said_in d = map (reading_in d (leaves_of d)) d.uses

-- where that is said first which is said again at a place of a text
abbrev pub chosen_first : Text → ℕ → Option ℕ
chosen_first text at = least (all_before at (design_in text) (units_of (design_in text)) (said_in (design_in text)))
