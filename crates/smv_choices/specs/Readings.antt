-- What each `using` uses and proves, as the code reads it once, and what follows from that: the first fault of uses, and the choices.
use Rattle.std.specs.Prelude.{ℕ, List, [], map, flat_map, find, Option, Some, None, Bool}
use Rattle.std.specs.Str.{bytes_eq}
use Rattle.smv_core.specs.Values.{Name}
use Rattle.smv_core.specs.declared.fault.Fault.{Fault}
use Rattle.smv_core.specs.declared.tree.Ref.{Ref}
use Rattle.smv_core.specs.declared.flat.Design.{Design}
use Rattle.smv_core.specs.declared.flat.FlatUsing.{FlatUsing}
use Rattle.smv_core.specs.declared.flat.Unit.{Unit as FlatUnit}
use Rattle.smv_core.specs.declared.flat.Leaf.{Leaf}
use Rattle.smv_core.specs.declared.flat.Choice.{Choice}
use Rattle.smv_core.specs.declared.flat.Pick.{Pick}
use Rattle.smv_core.specs.declared.flat.Assumed.{Assumed}
use Rattle.smv_mentions.specs.Scopes.{first_of_places}
use Rattle.smv_first_fault.specs.Firsts.{least, fault_at, earlier_of}
use Rattle.law_splits.specs.Leaves.{named_by}
use Rattle.smv_references.specs.Again.{same_key, again}
use Rattle.law_uses.specs.Choices.{own_map, nothing_used}
use Rattle.smv_choices.specs.declared.keeps.Kept.{Kept}
use Rattle.smv_choices.specs.declared.readings.Proved.{Proved}
use Rattle.smv_choices.specs.declared.readings.Reading.{Reading}
use Rattle.smv_choices.specs.declared.proofs_of.Proof.{Proof}
use Rattle.smv_choices.specs.Parts.{picks_by, claims_by, unknown_by, proved_one, unknown_one, without_places, kept_one, keep_with, choice_with, first_among, map_keys, claim_keys, set_keys, chosen_for_each, braces_misfit, misnamed, sets_of}

-- a `using` with the choices and claims of its uses, the first place of one that means nothing, the references to leaves that it proves, the first place of
-- a reference to none, and the names in its braces
pub record Said : Type 0 where
  pub using : FlatUsing
  pub picks : List (ℕ × Pick)
  pub claims : List (ℕ × Assumed)
  pub unknown : Option ℕ
  pub proved : List (Ref × Leaf)
  pub no_leaf : Option ℕ
  pub kept : List Kept

abbrev pub pair_of : Proved → Ref × Leaf
pair_of x = (x.of.now, x.leaf.now)

-- what is held, and what is to be held
abbrev pub reading : Reading → Said
reading x = record { using = x.using.now; picks = x.found.picks; claims = x.found.claims; unknown = x.found.unknown; proved = map pair_of x.proved.leaves.items; no_leaf = x.proved.no_leaf; kept = x.kept.items }

abbrev pub reading_in : Design → List Leaf → FlatUsing → Said
reading_in d leaves using = record {
  using = using;
  picks = flat_map (picks_by d) using.uses;
  claims = flat_map (claims_by d) using.uses;
  unknown = least (flat_map (unknown_by d) using.uses);
  proved = flat_map (proved_one leaves) using.proves;
  no_leaf = least (flat_map (unknown_one leaves) using.proves);
  kept = flat_map (kept_one (sets_of d)) using.uses;
}

-- ---- faults

-- the first place of fault 26
abbrev pub unknown_in : Said → Option ℕ
unknown_in x = first_of_places x.unknown x.no_leaf

-- the name of a leaf that is proved, at its reference
abbrev pub leaf_key : Ref × Leaf → ℕ × Name
leaf_key (of, leaf) = (of.at, leaf.name)

abbrev pub leaf_keys : Said → List (ℕ × Name)
leaf_keys x = map leaf_key x.proved

-- the first place of fault 27, besides leaves that others prove too, and of fault 28
abbrev pub twice_in : Design → List FlatUnit → Said → Option ℕ
twice_in d units x =
    first_of_places
    (first_of_places (least (again same_key [] (map_keys x.picks))) (chosen_for_each d units x.picks x.proved))
    (first_of_places (least (again same_key [] (claim_keys x.claims))) (least (again bytes_eq [] (set_keys (sets_of d) x.using.uses))))

abbrev pub misfit_in : Design → Said → Option ℕ
misfit_in d x = first_of_places (first_among (map (braces_misfit (sets_of d) x.proved) x.using.uses)) (first_among (map (misnamed x.using.bound) x.proved))

abbrev pub first_fault : Design → List FlatUnit → List Said → Option Fault
first_fault d units all =
    earlier_of (fault_at 26 (first_among (map unknown_in all)))
    (earlier_of (fault_at 27 (first_of_places (least (again bytes_eq [] (flat_map leaf_keys all))) (first_among (map (twice_in d units) all)))) (fault_at 28 (first_among (map (misfit_in d) all))))

-- ---- choices

-- a `using`, with a reference after its `prove`
pub record Proving : Type 0 where
  pub by : Said
  pub of : Ref

abbrev pub proof_held : Proof → Proving
proof_held p = record { by = reading p.by.now; of = p.of.now }

abbrev pub proofs_with : Said → List Proving
proofs_with x = map (λ of. record { by = x; of = of }) x.using.proves

abbrev pub proofs : List Said → List Proving
proofs all = flat_map proofs_with all

-- it names the leaf
abbrev pub names_held : Leaf → Proving → Bool
names_held leaf p = bytes_eq (named_by p.of) leaf.name

module _ (d : Design) (units : List FlatUnit) where
  abbrev pub choice_held : Leaf → Option Proving → Choice
  choice_held leaf None = nothing_used
  choice_held leaf (Some p) = choice_with (own_map d units leaf) (without_places p.by.picks) (without_places p.by.claims) (map (keep_with p.of) p.by.kept)

  abbrev pub choice_of : List Proving → Leaf → Choice
  choice_of all leaf = choice_held leaf (find (names_held leaf) all)
