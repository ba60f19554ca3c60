-- Sets of an old proof, found by the unit and the number of their case.
use Rattle.std.specs.Prelude.{◌≡◌, ℕ, List, Bool, true, ◌&&◌, nat_eq, Option, Some, None, if◌then◌else◌, option_copied}
use Rattle.std.specs.List.{list_all}
use Rattle.std.specs.Str.{bytes_eq}
use Rattle.std.specs.HashMap.{HashMap, get_by}
use Rattle.std.proofs.Common.{Bor}
use Rattle.smv_proof.specs.declared.proof.KeptSet.{KeptSet}
use Rattle.smv_proof.specs.Documents.{is_set}
use Rattle.law_checked_proofs.specs.Cases.{UnitCase}
use Rattle.law_checked_proofs.specs.Resumed.{old_set}
use Rattle.smv_kept_cases.specs.declared.old_sets.OldSets.{OldSets}

-- the name of a unit and the number of a case
abbrev pub Key : Type 0
Key = Bor (List ℕ) × ℕ

-- the key is of this unit and number
abbrev pub is_key : List ℕ → ℕ → Key → Bool
is_key unit number key = bytes_eq unit key.0.now && nat_eq number key.1

-- the set that is noted of a unit and a number
abbrev pub noted : {S : Type 0} → HashMap Key (Bor KeptSet) S → List ℕ → ℕ → Option KeptSet
noted first unit number = option_copied (get_by (is_key unit number) first)

-- a set that was found, or else this one where it is looked for
abbrev pub found_or : Option KeptSet → Bool → KeptSet → Option KeptSet
found_or (Some found) is_it set = Some found
found_or None is_it set = if is_it then Some set else None

-- of each case the first of these sets is noted
abbrev pub AreFirst : {S : Type 0} → List KeptSet → HashMap Key (Bor KeptSet) S → Type 0
AreFirst sets first = (c : UnitCase) → noted first c.unit c.number ≡ old_set c sets

-- sets of a document, of each case the first noted
pub record IsOld (old : OldSets) : Type 0 where
  pub are_sets : list_all is_set old.sets.now ≡ true
  pub are_first : AreFirst old.sets.now old.first
