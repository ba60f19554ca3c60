-- Uses of leaves: that they give the graph of open uses and the times, and one leaf more.
use Rattle.std.proofs.Common.{◌≡◌, ℕ, zero, suc, ◌+◌, ◌<◌, List, [], ◌∷◌, ◌++◌, map, filter, length, drop, get_or, Bool, true, false, cond, not, ◌&&◌, if◌then◌else◌, refl, ap, sym, ◌∙◌, inl, inr, Option, Some, None, is_none, option_to_list, nat_eq, arith, add-one, drop-cons}
use Rattle.std.specs.List.{flat_map, Contains}
use Rattle.std.proofs.lemmas.List.{append_assoc, map-append}
use Rattle.std.proofs.lemmas.Option.{slice_get_within}
use Rattle.smv_core.specs.declared.flat.Pick.{Pick}
use Rattle.smv_core.specs.declared.flat.Assumed.{Assumed}
use Rattle.smv_core.specs.declared.flat.Unit.{Unit}
use Rattle.smv_core.specs.declared.flat.Leaf.{Leaf}
use Rattle.smv_core.specs.declared.flat.Choice.{Choice}
use Rattle.smv_core.specs.declared.flat.Timed.{Timed}
use Rattle.smv_core.specs.declared.flat.Timing.{Timing}
use Rattle.smv_core.specs.declared.flat.Timing.TheVariants.{Now, Before}
use Rattle.law_obligations.specs.Sets.{Has}
use Rattle.law_obligations.proofs.Members.{Has-cases, Has-from_map}
use Rattle.law_obligations.proofs.OneOfEach.{Has-from_flat_map}
use Rattle.law_obligations.specs.Outlines.{Entry, Outline, entries_of, is_map, is_claim, claim_unit, unit_in_layer, picked_unit}
use Rattle.law_obligations.specs.Times.{is_member, is_open_pick, same_time, other_units, open_uses, graph_from, unit_time, pick_time, claim_time, timed}
use Rattle.law_obligations.proofs.Lookups.{Has-option, Has-from_filter, place_of-is}
use Rattle.graph_search.specs.Reverse.{after, IsGraph}
use Rattle.law_use_times.proofs.Lists.{Contains-Has}
use Rattle.smv_use_times.specs.declared.uses.Use.{Use}
use Rattle.smv_use_times.specs.declared.uses.Use.TheVariants.{Settled}
use Rattle.smv_use_times.specs.declared.uses.LeafUses.{LeafUses}
use Rattle.smv_use_times.specs.Uses.{Uses, held, use_of, pick_use, claim_use, uses_of, uses_from}
use Rattle.smv_use_times.specs.Times.{edge_of, edges_of, edges_from, use_time, times_of, times_from}

-- ---- the edges of uses are the open uses

module _ (u : ℕ) where
  others-more : (ou : Option ℕ) (units : List (Option ℕ)) → other_units u (ou ∷ units) ≡ edge_of u (use_of ou) ++ other_units u units
  others-more None units = refl
  others-more (Some v) units = at (nat_eq v u)
    where
      at : (b : Bool) → cond (not b) (v ∷ other_units u units) (other_units u units) ≡ (if b then [] else v ∷ []) ++ other_units u units
      at true = refl
      at false = refl

  others-both : (xs ys : List (Option ℕ)) → other_units u (xs ++ ys) ≡ other_units u xs ++ other_units u ys
  others-both [] ys = refl
  others-both (x ∷ xs) ys =
      others-more x (xs ++ ys) ∙ ap (λ l. edge_of u (use_of x) ++ l) (others-both xs ys)
      ∙ sym (append_assoc (edge_of u (use_of x)) (other_units u xs) (other_units u ys)) ∙ ap (λ l. l ++ other_units u ys) (sym (others-more x xs))

module _ (o : Outline) (u : ℕ) where
  -- of one pick
  pick-edge : (families : List ℕ) (p : Pick) (units : List (Option ℕ)) →
      other_units u (if is_open_pick families p then picked_unit o p ∷ units else units) ≡ edge_of u (pick_use o (is_member families) p) ++ other_units u units
  pick-edge families p units = at p.layer refl (is_open_pick families p)
    where
      at : (ol : Option ℕ) → p.layer ≡ ol → (b : Bool) →
          other_units u (if b then unit_in_layer o p.family ol ∷ units else units) ≡ edge_of u (if is_none ol then Settled Now else if b then use_of (unit_in_layer o p.family ol) else Settled Before) ++ other_units u units
      at None l true = others-more u None units
      at None l false = refl
      at (Some layer) l true = others-more u (unit_in_layer o p.family (Some layer)) units
      at (Some layer) l false = refl

  pick-edges : (families : List ℕ) (picks : List Pick) → other_units u (map (picked_unit o) (filter (is_open_pick families) picks)) ≡ flat_map (edge_of u) (map (pick_use o (is_member families)) picks)
  pick-edges families [] = refl
  pick-edges families (p ∷ picks) =
      at (is_open_pick families p)
      ∙ pick-edge families p (map (picked_unit o) (filter (is_open_pick families) picks))
      ∙ ap (λ l. edge_of u (pick_use o (is_member families) p) ++ l) (pick-edges families picks)
    where
      at : (b : Bool) → other_units u (map (picked_unit o) (cond b (p ∷ filter (is_open_pick families) picks) (filter (is_open_pick families) picks)))
          ≡ other_units u (if b then picked_unit o p ∷ map (picked_unit o) (filter (is_open_pick families) picks) else map (picked_unit o) (filter (is_open_pick families) picks))
      at true = refl
      at false = refl

  claim-edges : (claims : List Assumed) → other_units u (map (λ used. claim_unit o used.claim) (filter (λ used. not used.early) claims)) ≡ flat_map (edge_of u) (map (claim_use o) claims)
  claim-edges [] = refl
  claim-edges (used ∷ claims) = at used.early ∙ ap (λ l. edge_of u (claim_use o used) ++ l) (claim-edges claims)
    where
      rest : List (Option ℕ)
      rest = map (λ used. claim_unit o used.claim) (filter (λ used. not used.early) claims)

      at : (b : Bool) → other_units u (map (λ used. claim_unit o used.claim) (cond (not b) (used ∷ filter (λ used. not used.early) claims) (filter (λ used. not used.early) claims)))
          ≡ edge_of u (if b then Settled Before else use_of (claim_unit o used.claim)) ++ other_units u (map (λ used. claim_unit o used.claim) (filter (λ used. not used.early) claims))
      at true = refl
      at false = others-more u (claim_unit o used.claim) (map (λ used. claim_unit o used.claim) (filter (λ used. not used.early) claims))

  edges-open : (entry : Entry) → edges_of u (uses_of o u entry) ≡ open_uses o u entry
  edges-open entry = sym (
      others-both u (map (picked_unit o) (filter (is_open_pick (same_time o u entry)) entry.choice.picks)) (map (λ used. claim_unit o used.claim) (filter (λ used. not used.early) entry.choice.claims))
      ∙ ap (λ l. l ++ other_units u (map (λ used. claim_unit o used.claim) (filter (λ used. not used.early) entry.choice.claims))) (pick-edges (same_time o u entry) entry.choice.picks)
      ∙ ap (λ l. flat_map (edge_of u) (map (pick_use o (is_member (same_time o u entry))) entry.choice.picks) ++ l) (claim-edges entry.choice.claims))

  -- ---- times

  module _ (edges : List (List ℕ)) where
    time-of : (ou : Option ℕ) → use_time edges u (use_of ou) ≡ unit_time edges u ou
    time-of None = refl
    time-of (Some v) = refl

    pick-time : (families : List ℕ) (p : Pick) → use_time edges u (pick_use o (is_member families) p) ≡ pick_time o edges u families p
    pick-time families p = at p.layer (is_open_pick families p) (picked_unit o p)
      where
        at : (ol : Option ℕ) (b : Bool) (ou : Option ℕ) → use_time edges u (if is_none ol then Settled Now else if b then use_of ou else Settled Before) ≡ (if is_none ol then Now else if b then unit_time edges u ou else Before)
        at None b ou = refl
        at (Some layer) true ou = time-of ou
        at (Some layer) false ou = refl

    claim-time : (used : Assumed) → use_time edges u (claim_use o used) ≡ claim_time o edges u used
    claim-time used = at used.early (claim_unit o used.claim)
      where
        at : (b : Bool) (ou : Option ℕ) → use_time edges u (if b then Settled Before else use_of ou) ≡ (if b then Before else unit_time edges u ou)
        at true ou = refl
        at false ou = time-of ou

    pick-times : (families : List ℕ) (picks : List Pick) → map (use_time edges u) (map (pick_use o (is_member families)) picks) ≡ map (pick_time o edges u families) picks
    pick-times families [] = refl
    pick-times families (p ∷ picks) = ap (λ t. t ∷ map (use_time edges u) (map (pick_use o (is_member families)) picks)) (pick-time families p) ∙ ap (λ l. pick_time o edges u families p ∷ l) (pick-times families picks)

    claim-times : (claims : List Assumed) → map (use_time edges u) (map (claim_use o) claims) ≡ map (claim_time o edges u) claims
    claim-times [] = refl
    claim-times (used ∷ claims) = ap (λ t. t ∷ map (use_time edges u) (map (claim_use o) claims)) (claim-time used) ∙ ap (λ l. claim_time o edges u used ∷ l) (claim-times claims)

    abbrev both_times : List Timing → List Timing → Timed
    both_times picks claims = record { picks = picks; claims = claims }

    times-timed : (entry : Entry) → times_of edges u (uses_of o u entry) ≡ timed o edges u entry
    times-timed entry =
        ap (λ l. both_times l (map (use_time edges u) (map (claim_use o) entry.choice.claims))) (pick-times (same_time o u entry) entry.choice.picks)
        ∙ ap (both_times (map (pick_time o edges u (same_time o u entry)) entry.choice.picks)) (claim-times entry.choice.claims)

-- ---- all leaves

pub edges-graph : (o : Outline) (u : ℕ) (entries : List Entry) → edges_from u (uses_from o u entries) ≡ graph_from o u entries
edges-graph o u [] = refl
edges-graph o u (entry ∷ entries) = ap (λ l. l ∷ edges_from (suc u) (uses_from o (suc u) entries)) (edges-open o u entry) ∙ ap (λ l. open_uses o u entry ∷ l) (edges-graph o (suc u) entries)

-- the times of leaves from a place on
abbrev pub all_from : Outline → List (List ℕ) → ℕ → List Entry → List Timed
all_from o edges u [] = []
all_from o edges u (entry ∷ entries) = timed o edges u entry ∷ all_from o edges (suc u) entries

pub times-all : (o : Outline) (edges : List (List ℕ)) (u : ℕ) (entries : List Entry) → times_from edges u (uses_from o u entries) ≡ all_from o edges u entries
times-all o edges u [] = refl
times-all o edges u (entry ∷ entries) = ap (λ t. t ∷ times_from edges (suc u) (uses_from o (suc u) entries)) (times-timed o u edges entry) ∙ ap (λ l. timed o edges u entry ∷ l) (times-all o edges (suc u) entries)

-- open uses are of units
module _ (o : Outline) where
  picked-below : (p : Pick) (ol : Option ℕ) (v : ℕ) → unit_in_layer o p.family ol ≡ Some v → v < length o.units
  picked-below p None v e = absurd (cc (e))
  picked-below p (Some layer) v e = let r = place_of-is (is_map o.design p.family layer) o.units v e in slice_get_within o.units v r.0 r.1

  claim-below : (claim v : ℕ) → claim_unit o claim ≡ Some v → v < length o.units
  claim-below claim v e = let r = place_of-is (is_claim claim) o.units v e in slice_get_within o.units v r.0 r.1

  other-below : (u : ℕ) (units : List (Option ℕ)) → ((ou : Option ℕ) → Has units ou → (v : ℕ) → ou ≡ Some v → v < length o.units) → (v : ℕ) → Has (other_units u units) v → v < length o.units
  other-below u units each v h =
      let r = Has-from_flat_map option_to_list units (Has-from_filter (λ v. not (nat_eq v u)) (flat_map option_to_list units) h).0 in
      each r.0 r.1 v (Has-option r.0 r.2)

  open-below : (u : ℕ) (entry : Entry) (v : ℕ) → Has (open_uses o u entry) v → v < length o.units
  open-below u entry = other-below u (map (picked_unit o) (filter (is_open_pick (same_time o u entry)) entry.choice.picks) ++ map (λ used. claim_unit o used.claim) (filter (λ used. not used.early) entry.choice.claims))
      (λ ou h v e. elim (Has-cases (map (picked_unit o) (filter (is_open_pick (same_time o u entry)) entry.choice.picks)) (map (λ used. claim_unit o used.claim) (filter (λ used. not used.early) entry.choice.claims)) h) [
        | inl l ↦ let r = Has-from_map (picked_unit o) (filter (is_open_pick (same_time o u entry)) entry.choice.picks) l in picked-below r.0 r.0.layer v (sym r.2 ∙ e)
        | inr m ↦ let r = Has-from_map (λ used. claim_unit o used.claim) (filter (λ used. not used.early) entry.choice.claims) m in claim-below r.0.claim v (sym r.2 ∙ e)
      ])

  none_in : {P : Type 0} (x : ℕ) → Contains [] x → P
  none_in x c = let l = c.1 in absurd (omega (arith, l))

  graph-below : (u : ℕ) (entries : List Entry) (x y : ℕ) → Contains (after (graph_from o u entries) x) y → y < length o.units
  graph-below u [] x y c = none_in y c
  graph-below u (entry ∷ entries) zero y c = open-below u entry y (Contains-Has _ y c)
  graph-below u (entry ∷ entries) (suc x) y c = graph-below (suc u) entries x y c

  graph-long : (u : ℕ) (entries : List Entry) → length (graph_from o u entries) ≡ length entries
  graph-long u [] = refl
  graph-long u (entry ∷ entries) = ap suc (graph-long (suc u) entries)

  pub is_graph : (entries : List Entry) → length entries ≡ length o.units → IsGraph (graph_from o 0 entries)
  is_graph entries long x y c = let l = graph-below 0 entries x y c in let m = graph-long 0 entries in omega (arith, l, m, long)

-- ---- one leaf more

same_picks : (o : Outline) (f g : ℕ → Bool) → ((x : ℕ) → f x ≡ g x) → (picks : List Pick) → map (pick_use o f) picks ≡ map (pick_use o g) picks
same_picks o f g same [] = refl
same_picks o f g same (p ∷ picks) =
    ap (λ b. (if is_none p.layer then Settled Now else if not p.early && b then use_of (picked_unit o p) else Settled Before) ∷ map (pick_use o f) picks) (same p.family)
    ∙ ap (λ l. pick_use o g p ∷ l) (same_picks o f g same picks)

abbrev both_uses : List Use → List Use → Uses
both_uses picks claims = record { picks = picks; claims = claims }

pub leaf_held : (o : Outline) (u : ℕ) (entry : Entry) (f : ℕ → Bool) (picks claims : List Use) → ((x : ℕ) → f x ≡ is_member (same_time o u entry) x) →
    picks ≡ map (pick_use o f) entry.choice.picks → claims ≡ map (claim_use o) entry.choice.claims → both_uses picks claims ≡ uses_of o u entry
leaf_held o u entry f picks claims same p q = ap (λ l. both_uses l claims) (p ∙ same_picks o f (is_member (same_time o u entry)) same entry.choice.picks) ∙ ap (both_uses (map (pick_use o (is_member (same_time o u entry))) entry.choice.picks)) q

abbrev entry_with : Unit → Leaf → Choice → Entry
entry_with unit leaf choice = record { unit = unit; leaf = leaf; choice = choice }

module _ (o : Outline) (units : List Unit) (leaves : List Leaf) (choices : List Choice) where
  abbrev from : ℕ → List Uses
  from k = uses_from o k (entries_of (drop k units) (drop k leaves) (drop k choices))

  uses-more : (k : ℕ) (unit : Unit) (leaf : Leaf) (choice : Choice) → k < length units → k < length leaves → k < length choices → unit ≡ get_or units k unit → leaf ≡ get_or leaves k leaf → choice ≡ get_or choices k choice →
      from k ≡ uses_of o k (entry_with unit leaf choice) ∷ from (k + 1)
  uses-more k unit leaf choice u l c eu el ec =
      ap (λ us. uses_from o k (entries_of us (drop k leaves) (drop k choices))) (drop-cons units k unit u ∙ ap (λ x. x ∷ drop (suc k) units) (sym eu))
      ∙ ap (λ ls. uses_from o k (entries_of (unit ∷ drop (suc k) units) ls (drop k choices))) (drop-cons leaves k leaf l ∙ ap (λ x. x ∷ drop (suc k) leaves) (sym el))
      ∙ ap (λ cs. uses_from o k (entries_of (unit ∷ drop (suc k) units) (leaf ∷ drop (suc k) leaves) cs)) (drop-cons choices k choice c ∙ ap (λ x. x ∷ drop (suc k) choices) (sym ec))
      ∙ ap (λ n. uses_of o k (entry_with unit leaf choice) ∷ uses_from o n (entries_of (drop n units) (drop n leaves) (drop n choices))) (sym (add-one k))

  pub one_leaf : (k : ℕ) (unit : Unit) (leaf : Leaf) (choice : Choice) (uses : LeafUses) (old new : List LeafUses) (whole : List Uses) →
      k < length units → k < length leaves → k < length choices → unit ≡ get_or units k unit → leaf ≡ get_or leaves k leaf → choice ≡ get_or choices k choice →
      held uses ≡ uses_of o k (entry_with unit leaf choice) → new ≡ old ++ uses ∷ [] → map held old ++ from k ≡ whole → map held new ++ from (k + 1) ≡ whole
  one_leaf k unit leaf choice uses old new whole u l c eu el ec is e known =
      ap (λ all. map held all ++ from (k + 1)) e
      ∙ ap (λ all. all ++ from (k + 1)) (map-append held old (uses ∷ []))
      ∙ append_assoc (map held old) (held uses ∷ []) (from (k + 1))
      ∙ ap (λ x. map held old ++ x ∷ from (k + 1)) is
      ∙ ap (λ all. map held old ++ all) (sym (uses-more k unit leaf choice u l c eu el ec))
      ∙ known
