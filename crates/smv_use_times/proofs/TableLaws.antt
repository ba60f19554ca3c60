-- What the tables have at a number.
use Rattle.std.proofs.Common.{◌≡◌, ℕ, zero, suc, List, [], ◌∷◌, ◌++◌, map, refl, ap, sym, ◌∙◌, Option, Some, None, option_to_list, option_and_then, Result, Ok, Err, OnOk}
use Rattle.std.specs.List.{flat_map, slice_get}
use Rattle.std.proofs.lemmas.List.{append-nil, append_assoc}
use Rattle.smv_core.specs.declared.flat.Family.{Family}
use Rattle.smv_core.specs.declared.flat.Def.{Def}
use Rattle.smv_core.specs.declared.flat.Claim.{Claim as FlatClaim}
use Rattle.smv_core.specs.declared.flat.Guard.{Guard}
use Rattle.smv_core.specs.declared.flat.Assumed.{Assumed}
use Rattle.smv_core.specs.declared.flat.Unit.TheVariants.{Map, Claim}
use Rattle.law_obligations.specs.Outlines.{Entry, Outline, as_map, as_claim, claim_in, claim_by, said_by, unit_in}
use Rattle.law_obligations.specs.Times.{families_read, families_at_once, families_of_unit, families_assumed, first_families}
use Rattle.graph_search.specs.Walks.{list_at}
use Rattle.smv_unit_tables.specs.Reads.{read_in, part_reads, def_reads, claim_reads}

module _ (fs : List Family) where
  at-def : (defs : List Def) (k : ℕ) → list_at (map (def_reads fs) defs) (Some k) ≡ families_at_once fs (slice_get defs k)
  unfolding part_reads
  at-def [] k = refl
  at-def (def ∷ defs) zero = refl
  at-def (def ∷ defs) (suc k) = at-def defs k

  pub def_list : (table : List (List ℕ)) (defs : List Def) (k : ℕ) → table ≡ map (def_reads fs) defs → list_at table (Some k) ≡ families_at_once fs (slice_get defs k)
  def_list table defs k e = ap (λ t. list_at t (Some k)) e ∙ at-def defs k

  -- what a claim reads, where it is there
  abbrev reads_if : Option FlatClaim → List ℕ
  reads_if None = []
  reads_if (Some claim) = families_read fs claim.body

  at-claim : (claims : List FlatClaim) (k : ℕ) → list_at (map (claim_reads fs) claims) (Some k) ≡ reads_if (slice_get claims k)
  unfolding read_in
  at-claim [] k = refl
  at-claim (claim ∷ claims) zero = refl
  at-claim (claim ∷ claims) (suc k) = at-claim claims k

  claim_list : (table : List (List ℕ)) (claims : List FlatClaim) (k : ℕ) → table ≡ map (claim_reads fs) claims → list_at table (Some k) ≡ reads_if (slice_get claims k)
  claim_list table claims k e = ap (λ t. list_at t (Some k)) e ∙ at-claim claims k

  pub guards_read : (guards : List Guard) → flat_map (λ guard. read_in fs guard.expr) guards ≡ flat_map (λ guard. families_read fs guard.expr) guards
  unfolding read_in
  guards_read guards = refl

module _ (o : Outline) where
  abbrev fs : List Family
  fs = o.design.families

  unit-claim : (c : Option FlatClaim) → reads_if fs c ≡ families_of_unit o (as_claim c)
  unit-claim None = refl
  unit-claim (Some claim) = refl

  -- a unit that is a claim
  pub claim_unit_list : (table : List (List ℕ)) (k : ℕ) → table ≡ map (claim_reads fs) o.design.claims → list_at table (Some k) ≡ families_of_unit o (unit_in o.design (Claim k))
  claim_unit_list table k e = claim_list fs table o.design.claims k e ∙ unit-claim (slice_get o.design.claims k)

  -- a claim that is assumed
  assumed-claim : (c : Option FlatClaim) → reads_if fs c ≡ flat_map (λ claim. families_read fs claim.body) (option_to_list (claim_in (as_claim c)))
  assumed-claim None = refl
  assumed-claim (Some claim) = sym (append-nil _)

  pub assumed_list : (table : List (List ℕ)) (k : ℕ) → table ≡ map (claim_reads fs) o.design.claims →
      list_at table (Some k) ≡ flat_map (λ claim. families_read fs claim.body) (option_to_list (claim_in (unit_in o.design (Claim k))))
  assumed_list table k e = claim_list fs table o.design.claims k e ∙ assumed-claim (slice_get o.design.claims k)

  -- a unit that is a map
  pub map_added : (table : List (List ℕ)) → table ≡ map (def_reads fs) o.design.defs → (k : ℕ) (found : Def) → slice_get o.design.defs k ≡ Some found →
      (old one new : List ℕ) → one ≡ old ++ found.family ∷ [] → new ≡ one ++ list_at table (Some k) → new ≡ old ++ families_of_unit o (unit_in o.design (Map k))
  map_added table e k found is old one new p q =
      q ∙ ap (λ l. l ++ list_at table (Some k)) p ∙ append_assoc old (found.family ∷ []) (list_at table (Some k))
      ∙ ap (λ l. old ++ found.family ∷ l) (def_list fs table o.design.defs k e ∙ ap (families_at_once fs) is)
      ∙ ap (λ d. old ++ families_of_unit o (as_map d)) (sym is)

  pub no_map : (k : ℕ) → slice_get o.design.defs k ≡ None → (old : List ℕ) → old ≡ old ++ families_of_unit o (unit_in o.design (Map k))
  no_map k is old = sym (ap (λ d. old ++ families_of_unit o (as_map d)) is ∙ append-nil old)

  -- the claim at a place
  pub claim_at : (table : List (List ℕ)) (place k : ℕ) → slice_get o.units place ≡ Some (Claim k) → table ≡ map (claim_reads fs) o.design.claims →
      list_at table (Some k) ≡ flat_map (λ claim. families_read fs claim.body) (option_to_list (claim_by o (Some place)))
  claim_at table place k is e = assumed_list table k e ∙ ap (λ u. flat_map (λ (claim : FlatClaim). families_read fs claim.body) (option_to_list (option_and_then claim_in (said_by o u)))) (sym is)

  -- with what a same-time set begins
  pub first_made : (u : ℕ) (entry : Entry) (families : List Family) (guards : List Guard) (claims : List Assumed) (none one two three : List ℕ) → none ≡ [] → families ≡ fs → guards ≡ entry.leaf.guards → claims ≡ entry.choice.claims →
      one ≡ none ++ families_of_unit o (unit_in o.design entry.unit) → two ≡ one ++ flat_map (λ guard. read_in families guard.expr) guards → three ≡ two ++ flat_map (families_assumed o u) claims → three ≡ first_families o u entry
  first_made u entry families guards claims none one two three n f g c p q r =
      r ∙ ap (λ l. two ++ flat_map (families_assumed o u) l) c
      ∙ ap (λ l. l ++ flat_map (families_assumed o u) entry.choice.claims)
      (q ∙ ap (λ l. one ++ flat_map (λ (guard : Guard). read_in l guard.expr) guards) f ∙ ap (λ l. one ++ flat_map (λ (guard : Guard). read_in fs guard.expr) l) g
      ∙ ap (λ l. one ++ l) (guards_read fs entry.leaf.guards)
      ∙ ap (λ l. l ++ flat_map (λ (guard : Guard). families_read fs guard.expr) entry.leaf.guards) (p ∙ ap (λ l. l ++ families_of_unit o (unit_in o.design entry.unit)) n))

-- what follows from what a call says of its value
pub on_ok : {T E : Type 0} (r : Result T E) (A B : Type 0) → OnOk r A → (A → B) → OnOk r B
on_ok (Ok x) A B h f = f h
on_ok (Err e) A B h f = h
