-- The uses that are now fall in the order of the graph of the open uses.
use Rattle.std.proofs.Common.{◌≡◌, ℕ, suc, ◌<◌, List, [], ◌∷◌, map, length, Bool, true, false, if◌then◌else◌, ◌&&◌, refl, sym, ap, subst, ◌∙◌, inl, inr, Option, Some, None, is_none, arith}
use Rattle.std.specs.List.{slice_get, zip}
use Rattle.std.proofs.lemmas.Option.{slice_get_within}
use Rattle.std.proofs.lemmas.Bool.{or_cases}
use Rattle.law_lists.proofs.Options.{some_is}
use Rattle.law_lists.proofs.Lists.{length_map}
use Rattle.law_lists.proofs.Numbers.{nat_eq-is}
use Rattle.law_lists.proofs.Booleans.{left_of, right_of}
use Rattle.smv_core.specs.declared.flat.Pick.{Pick}
use Rattle.smv_core.specs.declared.flat.Assumed.{Assumed}
use Rattle.smv_core.specs.declared.flat.Timing.{Timing}
use Rattle.smv_core.specs.declared.flat.Timing.TheVariants.{Now, Before}
use Rattle.law_obligations.specs.Sets.{Has, first, later}
use Rattle.law_obligations.specs.Uses.{is_now, rank_of}
use Rattle.law_obligations.proofs.Members.{any-some}
use Rattle.law_obligations.proofs.NowOrder.{falls}
use Rattle.law_obligations.specs.Outlines.{Entry, Outline, Script, outline_of, is_claim, is_map, claim_unit, unit_in_layer, picked_unit}
use Rattle.law_obligations.specs.Times.{is_unit, graph_from, graph, has_edge, time_of, unit_time, is_open_pick, same_time, pick_time, claim_time, timed}
use Rattle.law_obligations.specs.Problems.{is_at, entry_uses, used_by, uses_at}
use Rattle.law_obligations.proofs.Lookups.{place_of-is}

graph-long : (o : Outline) (u : ℕ) (entries : List Entry) → length (graph_from o u entries) ≡ length entries
graph-long o u [] = refl
graph-long o u (entry ∷ entries) = ap suc (graph-long o (suc u) entries)

unit_in_layer-below : (o : Outline) (family : ℕ) (ol : Option ℕ) (v : ℕ) → unit_in_layer o family ol ≡ Some v → v < length o.units
unit_in_layer-below o family None v e = absurd (cc)
unit_in_layer-below o family (Some layer) v e = let r = place_of-is (is_map o.design family layer) o.units v e in slice_get_within o.units v r.0 r.1

claim_unit-below : (o : Outline) (claim v : ℕ) → claim_unit o claim ≡ Some v → v < length o.units
claim_unit-below o claim v e = let r = place_of-is (is_claim claim) o.units v e in slice_get_within o.units v r.0 r.1

names-is : (v : ℕ) (ov : Option ℕ) → is_unit v ov ≡ true → ov ≡ Some v
names-is v None e = absurd (cc)
names-is v (Some other) e = ap Some (nat_eq-is other v e)

pub at-is : (s t : Timing) → is_at s t ≡ true → s ≡ t
at-is Now Now e = refl
at-is Before Before e = refl
at-is Now Before e = absurd (cc)
at-is Before Now e = absurd (cc)

time_of-now : (b : Bool) → time_of b ≡ Now → b ≡ true
time_of-now true e = refl
time_of-now false e = absurd (cc)

unit_time-now : (edges : List (List ℕ)) (u v : ℕ) (ov : Option ℕ) → ov ≡ Some v → unit_time edges u ov ≡ Now → is_now (has_edge edges) (length edges) u v ≡ true
unit_time-now edges u v None e t = absurd (cc)
unit_time-now edges u v (Some w) e t = subst (λ v. is_now (has_edge edges) (length edges) u v ≡ true) (some_is e) (time_of-now _ t)

-- members beside what is made of them
zip-is : {X Y : Type 0} (f : X → Y) (xs : List X) {z : X × Y} → Has (zip xs (map f xs)) z → z.1 ≡ f z.0
zip-is f [] h = elim h [ ]
zip-is f (x ∷ xs) first = refl
zip-is f (x ∷ xs) (later h) = zip-is f xs h

module _ (s : Script) (u : ℕ) (entry : Entry) where
  abbrev o : Outline
  o = outline_of s

  abbrev edges : List (List ℕ)
  edges = graph s

  pick-now : (p : Pick) (v : ℕ) (ol : Option ℕ) → p.layer ≡ ol → picked_unit o p ≡ Some v →
      (b : Bool) → (if is_none ol then Now else if b then unit_time edges u (picked_unit o p) else Before) ≡ Now → is_now (has_edge edges) (length edges) u v ≡ true
  pick-now p v None l e b t = absurd (let k : Some v ≡ None = sym e ∙ ap (unit_in_layer o p.family) l in cc)
  pick-now p v (Some layer) l e true t = unit_time-now edges u v (picked_unit o p) e t
  pick-now p v (Some layer) l e false t = absurd (cc)

  claim-now : (used : Assumed) (v : ℕ) → claim_unit o used.claim ≡ Some v → (b : Bool) → (if b then Before else unit_time edges u (claim_unit o used.claim)) ≡ Now →
      is_now (has_edge edges) (length edges) u v ≡ true
  claim-now used v e true t = absurd (cc)
  claim-now used v e false t = unit_time-now edges u v (claim_unit o used.claim) e t

  abbrev families : List ℕ
  families = same_time o u entry

  -- a use that is now is an edge that is now, to a unit
  uses-now : (v : ℕ) → entry_uses s entry (timed o (graph s) u entry) Now u v ≡ true → (is_now (has_edge edges) (length edges) u v ≡ true) × (v < length o.units)
  uses-now v e = elim (or_cases _ _ e) [
    | inl a ↦ let r = any-some (λ (p, t). is_at t Now && is_unit v (picked_unit o p)) (zip entry.choice.picks (map (pick_time o edges u families) entry.choice.picks)) a in
        let n = names-is v (picked_unit o r.0.0) (right_of (is_at r.0.1 Now) _ r.2) in
        let t = sym (zip-is (pick_time o edges u families) entry.choice.picks r.1) ∙ at-is r.0.1 Now (left_of (is_at r.0.1 Now) _ r.2) in
        (pick-now r.0.0 v r.0.0.layer refl n (is_open_pick families r.0.0) t, unit_in_layer-below o r.0.0.family r.0.0.layer v n)
    | inr b ↦ elim (or_cases _ _ b) [
      | inl a ↦ let r = any-some (λ (used, t). is_at t Now && is_unit v (claim_unit o used.claim)) (zip entry.choice.claims (map (claim_time o edges u) entry.choice.claims)) a in
          let n = names-is v (claim_unit o r.0.0.claim) (right_of (is_at r.0.1 Now) _ r.2) in
          let t = sym (zip-is (claim_time o edges u) entry.choice.claims r.1) ∙ at-is r.0.1 Now (left_of (is_at r.0.1 Now) _ r.2) in
          (claim-now r.0.0 v n r.0.0.early t, claim_unit-below o r.0.0.claim v n)
      | inr a ↦ absurd (cc)
    ]
  ]

-- so the units fall along the uses that are now
pub uses_fall : (s : Script) (u v : ℕ) → uses_at s Now u v ≡ true → rank_of (has_edge (graph s)) (length (graph s)) v < rank_of (has_edge (graph s)) (length (graph s)) u
uses_fall s u v e = at (slice_get s.entries u) refl e
  where
    at : (oe : Option Entry) → slice_get s.entries u ≡ oe → used_by s Now u v oe ≡ true → rank_of (has_edge (graph s)) (length (graph s)) v < rank_of (has_edge (graph s)) (length (graph s)) u
    at None i e = absurd (cc)
    at (Some entry) i e =
        let r = uses-now s u entry v e in
        let long = graph-long (outline_of s) 0 s.entries in
        let units = length_map (λ (entry : Entry). entry.unit) s.entries in
        let below = slice_get_within s.entries u entry i in
        let b = r.1 in
        falls (has_edge (graph s)) (length (graph s)) u v (omega (arith, long, below)) (omega (arith, long, units, b)) r.0
