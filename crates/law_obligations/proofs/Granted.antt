-- What a problem demands is granted by base definitions and by what the leaf uses at that time.
use Rattle.std.proofs.Common.{◌≡◌, ℕ, zero, suc, ◌+◌, List, [], ◌∷◌, ◌++◌, map, Bool, true, false, if◌then◌else◌, ◌&&◌, refl, sym, ap, subst, ◌∙◌, inl, inr, Option, Some, None, option_to_list, find, nat_eq, arith}
use Rattle.std.specs.List.{flat_map, slice_get, zip}
use Rattle.law_lists.proofs.Options.{some_is}
use Rattle.law_lists.proofs.Booleans.{either_left, either_right, and_both, left_of, right_of}
use Rattle.smv_core.specs.declared.flat.Def.{Def}
use Rattle.smv_core.specs.declared.flat.Claim.{Claim}
use Rattle.smv_core.specs.declared.flat.Class.{Class}
use Rattle.smv_core.specs.declared.flat.Unit.{Unit}
use Rattle.smv_core.specs.declared.flat.Pick.{Pick}
use Rattle.smv_core.specs.declared.flat.Assumed.{Assumed}
use Rattle.smv_core.specs.declared.flat.Timing.{Timing}
use Rattle.smv_core.specs.declared.flat.Timing.TheVariants.{Now, Before}
use Rattle.smv_core.specs.declared.flat.Timed.{Timed}
use Rattle.law_obligations.specs.Sets.{Has, one_of_each}
use Rattle.law_obligations.specs.Places.{named_in}
use Rattle.law_obligations.specs.Obligations.{Demanded, defined, holds, AbstractProblem}
use Rattle.law_obligations.specs.Soundness.{FlatUnit, map_of, claim_of, over_of, LeafProof, IsOf, IsGranted, by_base, by_use}
use Rattle.law_obligations.proofs.Members.{Has-cases, Has-from_map, any-found}
use Rattle.law_obligations.proofs.Same.{nat_eq-itself}
use Rattle.law_obligations.proofs.OneOfEach.{Has-from_flat_map}
use Rattle.law_obligations.specs.Outlines.{Entry, Outline, Script, outline_of, unit_in, map_in, claim_unit, picked_unit, assumed, chosen}
use Rattle.law_obligations.specs.Times.{is_unit, graph, same_time, pick_time, timed}
use Rattle.law_obligations.specs.Cones.{AbsElement, element, same_element, cone}
use Rattle.law_obligations.specs.Problems.{is_at, family_time, world_of, params_at, own_params, element_demands, own_demands, itself_demands, instances, claim_demands, demands, problem_of, entry_uses, used_by, uses_at, proof_of, proofs_from, plan_of}
use Rattle.law_obligations.proofs.Lookups.{Has-option, Has-tested, find-some, Has-zip}
use Rattle.law_obligations.proofs.OutlineFacts.{Says, Comes, from_base, from_unit, map_in-is, chosen-comes, assumed-comes}
use Rattle.law_obligations.proofs.ConeFacts.{in_cone-is, in_cone-kept, same_element-family}

-- the leaves of the plan, by their places
pub proofs-get : (s : Script) (k i : ℕ) (entries : List Entry) (v : ℕ) (entry : Entry) → i ≡ k + v → slice_get entries v ≡ Some entry → slice_get (proofs_from s k entries) v ≡ Some (proof_of s i entry)
proofs-get s k i [] v entry n e = absurd (cc)
proofs-get s k i (x ∷ entries) zero entry n e = pair (omega arith) (some_is e)
  where
    pair : k ≡ i → x ≡ entry → Some (proof_of s k x) ≡ Some (proof_of s i entry)
    pair p q = ap (λ k. Some (proof_of s k x)) p ∙ ap (λ x. Some (proof_of s i x)) q
proofs-get s k i (x ∷ entries) (suc v) entry n e = proofs-get s (suc k) i entries v entry (omega arith) e

pub proofs-are : (s : Script) (k i : ℕ) (entries : List Entry) (v : ℕ) (leaf : LeafProof) → i ≡ k + v → slice_get (proofs_from s k entries) v ≡ Some leaf →
    (entry : Entry) × (slice_get entries v ≡ Some entry) × (proof_of s i entry ≡ leaf)
proofs-are s k i [] v leaf n e = absurd (cc)
proofs-are s k i (x ∷ entries) zero leaf n e = (x, refl, ap (λ k. proof_of s k x) (omega arith) ∙ some_is e)
proofs-are s k i (x ∷ entries) (suc v) leaf n e = proofs-are s (suc k) i entries v leaf (omega arith) e

-- the time of a family is that of its first pick
pub family_time-is : (f : Pick → Timing) (picks : List Pick) (family : ℕ) (p : Pick) → find (λ p. nat_eq p.family family) picks ≡ Some p → family_time picks (map f picks) family ≡ f p
family_time-is f [] family p e = absurd (cc)
family_time-is f (q ∷ picks) family p e = at (nat_eq q.family family) e (family_time-is f picks family p)
  where
    at : (b : Bool) → (if b then Some q else find (λ p. nat_eq p.family family) picks) ≡ Some p → (find (λ p. nat_eq p.family family) picks ≡ Some p → family_time picks (map f picks) family ≡ f p) →
        (if b then f q else family_time picks (map f picks) family) ≡ f p
    at true e goes = ap f (some_is e)
    at false e goes = goes e

names-itself : (v : ℕ) (ov : Option ℕ) → ov ≡ Some v → is_unit v ov ≡ true
names-itself v None e = absurd (cc)
names-itself v (Some other) e = subst (λ z. nat_eq z v ≡ true) (sym (some_is e)) (nat_eq-itself v)

at-same : (s t : Timing) → s ≡ t → is_at s t ≡ true
at-same Now t e = subst (λ t. is_at Now t ≡ true) e refl
at-same Before t e = subst (λ t. is_at Before t ≡ true) e refl

-- units and their entries
entry-there : (entries : List Entry) (v : ℕ) (unit : Unit) → slice_get (map (λ entry. entry.unit) entries) v ≡ Some unit → (entry : Entry) × (slice_get entries v ≡ Some entry) × (entry.unit ≡ unit)
entry-there [] v unit e = absurd (cc)
entry-there (x ∷ entries) zero unit e = (x, refl, some_is e)
entry-there (x ∷ entries) (suc v) unit e = entry-there entries v unit e

unit-there : (entries : List Entry) (v : ℕ) (entry : Entry) → slice_get entries v ≡ Some entry → slice_get (map (λ entry. entry.unit) entries) v ≡ Some entry.unit
unit-there [] v entry e = absurd (cc)
unit-there (x ∷ entries) zero entry e = ap (λ (entry : Entry). Some entry.unit) (some_is e)
unit-there (x ∷ entries) (suc v) entry e = unit-there entries v entry e

module _ (s : Script) (u : ℕ) (entry : Entry) (is_there : slice_get s.entries u ≡ Some entry) (classes : List Class) where
  abbrev o : Outline
  o = outline_of s

  abbrev times : Timed
  times = timed o (graph s) u entry

  abbrev p : AbstractProblem
  p = problem_of o entry times classes

  abbrev the_cone : List AbsElement
  the_cone = cone (world_of o entry classes) o entry (params_at o entry classes)

  -- a use is there
  by_entry : (time : Timing) (v : ℕ) → entry_uses s entry times time u v ≡ true → uses_at s time u v ≡ true
  by_entry time v e = subst (λ oe. used_by s time u v oe ≡ true) (sym is_there) e

  by_pick : (q : Pick) → Has entry.choice.picks q → (v : ℕ) → picked_unit o q ≡ Some v → (time : Timing) → is_at (pick_time o (graph s) u (same_time o u entry) q) time ≡ true → uses_at s time u v ≡ true
  by_pick q h v e time i = by_entry time v (either_left _ (any-found (λ (p, t). is_at t time && is_unit v (picked_unit o p)) (Has-zip (pick_time o (graph s) u (same_time o u entry)) h) (and_both i (names-itself v (picked_unit o q) e))))

  by_claim : (used : Assumed) (t : Timing) → Has (zip entry.choice.claims times.claims) (used, t) → (v : ℕ) → claim_unit o used.claim ≡ Some v → (time : Timing) → is_at t time ≡ true → uses_at s time u v ≡ true
  by_claim used t h v e time i = by_entry time v (either_right _ (either_left _ (any-found (λ (used, t). is_at t time && is_unit v (claim_unit o used.claim)) h (and_both i (names-itself v (claim_unit o used.claim) e)))))

  by_itself : (time : Timing) → is_at time Before ≡ true → entry.choice.itself ≡ true → uses_at s time u u ≡ true
  by_itself time a i = by_entry time u (either_right _ (either_right _ (and_both a (and_both i (nat_eq-itself u)))))

  -- what a definition says of an element of the cone
  of_element : (def : Def) (x : AbsElement) → def.family ≡ x.family → Has the_cone x → IsOf (plan_of s) p (map_of def) (defined def x.indexes)
  of_element def x e h = record {
    places = x.indexes;
    are_named = subst (λ family. Has (one_of_each (map (named_in (world_of o entry classes)) (over_of (slice_get o.design.families family)))) x.indexes) (sym e) (in_cone-is (world_of o entry classes) o entry (params_at o entry classes) x h);
    is_kept = in_cone-kept (world_of o entry classes) o entry (params_at o entry classes) x def.family e h;
    is_said = refl;
  }

  by_unit : (uses : ℕ → Bool) (v : ℕ) (unit : FlatUnit) (d : Demanded) → uses v ≡ true → Says o v unit → IsOf (plan_of s) p unit d → IsGranted (plan_of s) uses p d
  by_unit uses v unit d h says of = let r = entry-there s.entries v says.unit says.is_there in
      by_use v h (proof_of s v r.0) (proofs-get s 0 v s.entries v r.0 (omega arith) r.1) (subst (λ unit. IsOf (plan_of s) p unit d) (sym (ap (unit_in o.design) r.2 ∙ says.is_said)) of)

  element_granted : (time : Timing) (x : AbsElement) → Has the_cone x → (d : Demanded) → Has (element_demands o entry times (world_of o entry classes) (own_params o entry classes) time x) d → IsGranted (plan_of s) (uses_at s time u) p d
  element_granted time x h d k =
      let t = Has-tested (is_at (family_time entry.choice.picks times.picks x.family) time) k in
      let r = Has-from_map (λ def. defined def x.indexes) (option_to_list (chosen o entry.choice.picks x.family)) t.1 in
      let c = chosen-comes o entry.choice.picks x.family r.0 (Has-option (chosen o entry.choice.picks x.family) r.1) in
      subst (IsGranted (plan_of s) (uses_at s time u) p) (sym r.2) (from t.0 r.0 c.0 c.1)
    where
      from : is_at (family_time entry.choice.picks times.picks x.family) time ≡ true → (def : Def) → def.family ≡ x.family → Comes o entry.choice.picks x.family def → IsGranted (plan_of s) (uses_at s time u) p (defined def x.indexes)
      from i def e (from_base b) = by_base def b (of_element def x e h)
      from i def e (from_unit q f v n says) =
          let here = subst (λ t. is_at t time ≡ true) (family_time-is (pick_time o (graph s) u (same_time o u entry)) entry.choice.picks x.family q f) i in
          by_unit (uses_at s time u) v (map_of def) (defined def x.indexes)
          (by_pick q (find-some (λ p. nat_eq p.family x.family) entry.choice.picks f).0 v n time here) says (of_element def x e h)

  itself_granted : (time : Timing) (x : AbsElement) → Has the_cone x → (d : Demanded) → Has (itself_demands o entry times (world_of o entry classes) (own_params o entry classes) time x) d → IsGranted (plan_of s) (uses_at s time u) p d
  itself_granted time x h d k =
      let t = Has-tested (is_at time Before && entry.choice.itself) k in
      from (left_of (is_at time Before) entry.choice.itself t.0) (right_of (is_at time Before) entry.choice.itself t.0) (map_in (unit_in o.design entry.unit)) refl t.1
    where
      from : is_at time Before ≡ true → entry.choice.itself ≡ true → (od : Option Def) → map_in (unit_in o.design entry.unit) ≡ od →
          Has (own_demands o entry times (world_of o entry classes) (own_params o entry classes) x od) d → IsGranted (plan_of s) (uses_at s time u) p d
      from a i None m k = elim k [ ]
      from a i (Some def) m k =
          let own = element def.family (own_params o entry classes) in
          let t = Has-tested (same_element own x) k in
          let r = Has-option (Some (defined def x.indexes)) t.1 in
          subst (IsGranted (plan_of s) (uses_at s time u) p) (some_is r)
          (by_unit (uses_at s time u) u (map_of def) (defined def x.indexes) (by_itself time a i)
          (record { unit = entry.unit; is_there = unit-there s.entries u entry is_there; is_said = map_in-is (unit_in o.design entry.unit) def m }) (of_element def x (same_element-family own x t.0) h))

  claim_granted : (time : Timing) (d : Demanded) → Has (claim_demands o entry times (world_of o entry classes) (own_params o entry classes) time) d → IsGranted (plan_of s) (uses_at s time u) p d
  claim_granted time d k =
      let r = Has-from_flat_map (λ (used, t). if is_at t time then instances o entry times (world_of o entry classes) (own_params o entry classes) (assumed o used) else []) (zip entry.choice.claims times.claims) k in
      let t = Has-tested (is_at r.0.1 time) r.2 in
      from r.0.0 r.0.1 r.1 t.0 (assumed o r.0.0) refl t.1
    where
      from : (used : Assumed) (t : Timing) → Has (zip entry.choice.claims times.claims) (used, t) → is_at t time ≡ true → (oc : Option Claim) → assumed o used ≡ oc →
          Has (instances o entry times (world_of o entry classes) (own_params o entry classes) oc) d → IsGranted (plan_of s) (uses_at s time u) p d
      from used t h i None a k = elim k [ ]
      from used t h i (Some claim) a k =
          let r = Has-from_map (holds claim.body) (one_of_each (map (named_in (world_of o entry classes)) (map (λ p. p.over) claim.params))) k in
          let c = assumed-comes o used claim a in
          by_unit (uses_at s time u) c.0 (claim_of claim) d (by_claim used t h c.0 c.1 time i) c.2 (record { places = r.0; are_named = r.1; is_kept = tt; is_said = r.2 })

  pub granted : (time : Timing) (d : Demanded) → Has (demands o entry times (world_of o entry classes) (own_params o entry classes) the_cone time) d → IsGranted (plan_of s) (uses_at s time u) p d
  granted time d k = elim (Has-cases (flat_map (λ x. element_demands o entry times (world_of o entry classes) (own_params o entry classes) time x ++ itself_demands o entry times (world_of o entry classes) (own_params o entry classes) time x) the_cone)
      (claim_demands o entry times (world_of o entry classes) (own_params o entry classes) time) k) [
        | inl l ↦ let r = Has-from_flat_map (λ x. element_demands o entry times (world_of o entry classes) (own_params o entry classes) time x ++ itself_demands o entry times (world_of o entry classes) (own_params o entry classes) time x) the_cone l in
            elim (Has-cases (element_demands o entry times (world_of o entry classes) (own_params o entry classes) time r.0) (itself_demands o entry times (world_of o entry classes) (own_params o entry classes) time r.0) r.2) [
              | inl a ↦ element_granted time r.0 r.1 d a
              | inr b ↦ itself_granted time r.0 r.1 d b
            ]
        | inr l ↦ claim_granted time d l
      ]
