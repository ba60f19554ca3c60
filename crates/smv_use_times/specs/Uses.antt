-- Uses before their times are known: settled, or open, with the unit that is used.
use Rattle.std.specs.Prelude.{ℕ, suc, List, [], ◌∷◌, map, is_none, Option, Some, None, Bool, false, not, ◌&&◌, if◌then◌else◌, slice_index_or}
use Rattle.smv_core.specs.declared.flat.Pick.{Pick}
use Rattle.smv_core.specs.declared.flat.Assumed.{Assumed}
use Rattle.smv_core.specs.declared.flat.Timing.TheVariants.{Now, Before}
use Rattle.law_obligations.specs.Outlines.{Entry, Outline, claim_unit, picked_unit}
use Rattle.law_obligations.specs.Times.{is_member, same_time}
use Rattle.smv_use_times.specs.declared.uses.Use.{Use}
use Rattle.smv_use_times.specs.declared.uses.Use.TheVariants.{Settled, Open}
use Rattle.smv_use_times.specs.declared.uses.LeafUses.{LeafUses}

-- the uses of a leaf: of definitions and of claims
pub record Uses : Type 0 where
  pub picks : List Use
  pub claims : List Use

abbrev pub held : LeafUses → Uses
held uses = record { picks = uses.picks.items; claims = uses.claims.items }

-- of what is no unit it is now
abbrev pub use_of : Option ℕ → Use
use_of None = Settled Now
use_of (Some unit) = Open unit

-- what is marked, as a test
abbrev pub marked : List Bool → ℕ → Bool
marked marks x = slice_index_or marks x false

-- the time of a pick depends on the same-time set
abbrev pub asks : Pick → Bool
asks p = not (is_none p.layer) && not p.early

module _ (o : Outline) where
  -- a pick, where this is the same-time set: of `free` it is now, and before in parentheses or outside the set
  abbrev pub pick_use : (ℕ → Bool) → Pick → Use
  pick_use among p = if is_none p.layer then Settled Now else if not p.early && among p.family then use_of (picked_unit o p) else Settled Before

  abbrev pub claim_use : Assumed → Use
  claim_use used = if used.early then Settled Before else use_of (claim_unit o used.claim)

  abbrev pub uses_of : ℕ → Entry → Uses
  uses_of u entry = record { picks = map (pick_use (is_member (same_time o u entry))) entry.choice.picks; claims = map claim_use entry.choice.claims }

  -- those of each unit from a place on
  abbrev pub uses_from : ℕ → List Entry → List Uses
  uses_from u [] = []
  uses_from u (entry ∷ entries) = uses_of u entry ∷ uses_from (suc u) entries
