-- The times of uses: which uses of a proof are now and which before.
use Rattle.std.specs.Prelude.{ℕ, suc, List, [], ◌∷◌, ◌++◌, map, flat_map, filter, length, get_or, slice_get, is_none, Option, Some, None, option_to_list, Bool, true, false, not, ◌&&◌, ◌||◌, if◌then◌else◌, nat_eq}
use Rattle.std.specs.List.{list_any}
use Rattle.smv_core.specs.Values.{number}
use Rattle.smv_core.specs.declared.flat.Family.{Family}
use Rattle.smv_core.specs.declared.flat.Def.{Def}
use Rattle.smv_core.specs.declared.flat.Pick.{Pick}
use Rattle.smv_core.specs.declared.flat.Assumed.{Assumed}
use Rattle.smv_core.specs.declared.flat.Timing.{Timing}
use Rattle.smv_core.specs.declared.flat.Timing.TheVariants.{Now, Before}
use Rattle.smv_core.specs.declared.flat.Timed.{Timed}
use Rattle.smv_core.specs.declared.flat.FlatExpr.{FlatExpr}
use Rattle.smv_core.specs.declared.flat.DefBody.{DefBody}
use Rattle.law_obligations.specs.Places.{named}
use Rattle.law_obligations.specs.Soundness.{FlatUnit, map_of, claim_of}
use Rattle.law_obligations.specs.Uses.{is_now}
use Rattle.law_obligations.specs.Reached.{reached}
use Rattle.law_obligations.specs.Reads.{reads, part_reads}
use Rattle.law_obligations.specs.Outlines.{Entry, Outline, Script, outline_of, unit_in, claim_unit, picked_unit, assumed, chosen}

-- a number among these
abbrev pub is_member : List ℕ → ℕ → Bool
is_member ks k = list_any (nat_eq k) ks

-- a family that is there
abbrev pub if_there : ℕ → Option Family → List ℕ
if_there family None = []
if_there family (Some f) = family ∷ []

module _ (families : List Family) where
  -- the families that an expression reads; each variable takes one place, as no family depends on it
  abbrev pub families_read : FlatExpr → List ℕ
  families_read e = reads (λ over. named (number 0) ∷ []) (λ family indexes b. if_there family (slice_get families family)) e []

  -- those that a part of a definition reads
  abbrev pub families_of_part : DefBody → List ℕ
  families_of_part part =
      part_reads (λ over. named (number 0) ∷ []) (λ left b. true) (λ over. named (number 0) ∷ []) (λ family indexes b. if_there family (slice_get families family)) part []

  -- those that a definition reads at the time of the value that it gives: in its parts `init` and `:=`
  abbrev pub families_at_once : Option Def → List ℕ
  families_at_once None = []
  families_at_once (Some def) = families_of_part def.init ++ families_of_part def.comb

-- this unit
abbrev pub is_unit : ℕ → Option ℕ → Bool
is_unit u None = false
is_unit u (Some v) = nat_eq v u

-- a use is open to be now: outside parentheses, of a family of the same-time set, and not of the unit itself
abbrev pub is_open_pick : List ℕ → Pick → Bool
is_open_pick families p = not p.early && is_member families p.family

abbrev pub other_units : ℕ → List (Option ℕ) → List ℕ
other_units u units = filter (λ v. not (nat_eq v u)) (flat_map option_to_list units)

module _ (o : Outline) where
  -- a claim that is used outside parentheses, other than the unit itself, is read at once
  abbrev pub families_assumed : ℕ → Assumed → List ℕ
  families_assumed u used = if used.early || is_unit u (claim_unit o used.claim) then [] else flat_map (λ claim. families_read o.design.families claim.body) (option_to_list (assumed o used))

  -- of a map its family and what it reads at once, of a claim what it reads
  abbrev pub families_of_unit : FlatUnit → List ℕ
  families_of_unit (map_of def) = def.family ∷ families_at_once o.design.families (Some def)
  families_of_unit (claim_of claim) = families_read o.design.families claim.body

  -- with what the same-time set begins: the unit, and what the guards and the assumed claims read
  abbrev pub first_families : ℕ → Entry → List ℕ
  first_families u entry =
      families_of_unit (unit_in o.design entry.unit) ++ flat_map (λ g. families_read o.design.families g.expr) entry.leaf.guards ++ flat_map (families_assumed u) entry.choice.claims

  -- what the chosen definition of a family reads at once
  abbrev pub next_families : Entry → ℕ → List ℕ
  next_families entry family = families_at_once o.design.families (chosen o entry.choice.picks family)

  -- the same-time set of a leaf
  abbrev pub same_time : ℕ → Entry → List ℕ
  same_time u entry = reached nat_eq (next_families entry) (length o.design.families) (first_families u entry)

  -- the units that the open uses of a leaf name
  abbrev pub open_uses : ℕ → Entry → List ℕ
  open_uses u entry = other_units u
      (map (picked_unit o) (filter (is_open_pick (same_time u entry)) entry.choice.picks) ++ map (λ used. claim_unit o used.claim) (filter (λ used. not used.early) entry.choice.claims))

  -- the graph of the open uses: for each unit from a place on the units that its leaf names
  abbrev pub graph_from : ℕ → List Entry → List (List ℕ)
  graph_from u [] = []
  graph_from u (entry ∷ entries) = open_uses u entry ∷ graph_from (suc u) entries

abbrev pub graph : Script → List (List ℕ)
graph s = graph_from (outline_of s) 0 s.entries

-- an edge of a graph
abbrev pub has_edge : List (List ℕ) → ℕ → ℕ → Bool
has_edge edges u v = is_member (get_or edges u []) v

-- the time of an open use: now unless it lies on a cycle and the used unit stands later (this choice between now and before is this project's)
abbrev pub time_of : Bool → Timing
time_of true = Now
time_of false = Before

abbrev pub unit_time : List (List ℕ) → ℕ → Option ℕ → Timing
unit_time edges u None = Now
unit_time edges u (Some v) = time_of (is_now (has_edge edges) (length edges) u v)

module _ (o : Outline) (edges : List (List ℕ)) (u : ℕ) where
  -- the time of a pick: of `free` always now, of a use that is not open before
  abbrev pub pick_time : List ℕ → Pick → Timing
  pick_time families p =
      if is_none p.layer then Now
      else if is_open_pick families p then unit_time edges u (picked_unit o p)
      else Before

  -- the time of an assumed claim
  abbrev pub claim_time : Assumed → Timing
  claim_time used = if used.early then Before else unit_time edges u (claim_unit o used.claim)

  -- the times of the uses of a leaf
  abbrev pub timed : Entry → Timed
  timed entry = let families = same_time o u entry in
      record { picks = map (pick_time families) entry.choice.picks; claims = map claim_time entry.choice.claims }

-- the times of the uses of each leaf
abbrev pub timed_from : Script → ℕ → List Entry → List Timed
timed_from s u [] = []
timed_from s u (entry ∷ entries) = timed (outline_of s) (graph s) u entry ∷ timed_from s (suc u) entries

abbrev pub all_timed : Script → List Timed
all_timed s = timed_from s 0 s.entries
