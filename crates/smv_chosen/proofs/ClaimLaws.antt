-- The units of a design that are claims.
use Rattle.std.proofs.Common.{◌≡◌, ℕ, zero, suc, ◌+◌, List, [], ◌∷◌, ◌++◌, zip, length, Option, Some, None, Bool, true, false, cond, if◌then◌else◌, nat_lt, refl, sym, ap, subst, ◌∙◌, slice_get, arith, ◌⊎◌, inl, inr}
use Rattle.std.specs.Prelude.{option_map, option_and_then}
use Rattle.law_lists.proofs.Options.{some_is}
use Rattle.law_lists.proofs.Numbers.{nat_eq-is}
use Rattle.smv_core.specs.Values.{numbers_from}
use Rattle.smv_core.specs.declared.flat.Def.{Def}
use Rattle.smv_core.specs.declared.flat.Claim.{Claim as FlatClaim}
use Rattle.smv_core.specs.declared.flat.Design.{Design}
use Rattle.smv_core.specs.declared.flat.Assumed.{Assumed}
use Rattle.smv_core.specs.declared.flat.Unit.{Unit}
use Rattle.smv_core.specs.declared.flat.Unit.TheVariants.{Map, Claim}
use Rattle.law_obligations.specs.Sets.{Has, first, later}
use Rattle.law_obligations.proofs.Members.{Has-uncons, Has-cases, Has-right, Has-map, Has-from_map}
use Rattle.law_obligations.proofs.OneOfEach.{Has-from_flat_map, get_Has}
use Rattle.law_obligations.proofs.Same.{nat_eq-itself}
use Rattle.law_obligations.proofs.Lookups.{Has-tested, Found, place_of-is}
use Rattle.law_obligations.specs.Outlines.{place_of, is_claim, unit_in, as_claim, claim_in, said_by, claim_by, assumed}
use Rattle.law_obligations.specs.Units.{is_refinement, maps, claims, put, in_order, units_of}

-- ---- units in order

put-here : (x : ℕ × Unit) (units : List (ℕ × Unit)) → Has (put x units) x
put-here x [] = first
put-here x (y ∷ units) = by_test (nat_lt x.0 y.0) (put-here x units)
  where
    by_test : (b : Bool) → Has (put x units) x → Has (cond b (x ∷ y ∷ units) (y ∷ put x units)) x
    by_test true h = first
    by_test false h = later h

put-later : (x : ℕ × Unit) (units : List (ℕ × Unit)) (z : ℕ × Unit) → Has units z → Has (put x units) z
put-later x [] z h = elim h [ ]
put-later x (y ∷ units) z h = by_test (nat_lt x.0 y.0) h (put-later x units)
  where
    behind : (z : ℕ × Unit) → Has (y ∷ units) z → ((z : ℕ × Unit) → Has units z → Has (put x units) z) → Has (y ∷ put x units) z
    behind _ first rest = first
    behind z (later h) rest = later (rest z h)

    by_test : (b : Bool) → Has (y ∷ units) z → ((z : ℕ × Unit) → Has units z → Has (put x units) z) → Has (cond b (x ∷ y ∷ units) (y ∷ put x units)) z
    by_test true h rest = later h
    by_test false h rest = behind z h rest

in_order-Has : (units : List (ℕ × Unit)) (x : ℕ × Unit) → Has units x → Has (in_order units) x
in_order-Has [] x h = elim h [ ]
in_order-Has (y ∷ units) _ first = put-here y (in_order units)
in_order-Has (y ∷ units) x (later h) = put-later y (in_order units) x (in_order-Has units x h)

from-put : (x : ℕ × Unit) (units : List (ℕ × Unit)) (z : ℕ × Unit) → Has (put x units) z → Has (x ∷ units) z
from-put x [] z h = h
from-put x (y ∷ units) z h = by_test (nat_lt x.0 y.0) h (from-put x units z)
  where
    behind : Has (x ∷ units) z → Has (x ∷ y ∷ units) z
    behind h = elim (Has-uncons h) [
      | inl i ↦ subst (Has (x ∷ y ∷ units)) (sym i) first
      | inr k ↦ later (later k)
    ]

    by_test : (b : Bool) → Has (cond b (x ∷ y ∷ units) (y ∷ put x units)) z → (Has (put x units) z → Has (x ∷ units) z) → Has (x ∷ y ∷ units) z
    by_test true h rest = h
    by_test false h rest = elim (Has-uncons h) [
      | inl i ↦ subst (Has (x ∷ y ∷ units)) (sym i) (later first)
      | inr k ↦ behind (rest k)
    ]

from-in_order : (units : List (ℕ × Unit)) (z : ℕ × Unit) → Has (in_order units) z → Has units z
from-in_order [] z h = h
from-in_order (x ∷ units) z h = elim (Has-uncons (from-put x (in_order units) z h)) [
  | inl i ↦ subst (Has (x ∷ units)) (sym i) first
  | inr k ↦ later (from-in_order units z k)
]

-- ---- numbered

Has-numbered : {X : Type 0} (low : ℕ) (xs : List X) (k : ℕ) (x : X) → slice_get xs k ≡ Some x → Has (zip (numbers_from low (length xs)) xs) (low + k, x)
Has-numbered low [] k x e = absurd (cc (e))
Has-numbered {X} low (y ∷ xs) zero x e =
    let at : low ≡ low + 0 = omega arith in
    subst (λ j. Has (zip (numbers_from low (length (y ∷ xs))) (y ∷ xs)) (j, x)) at (subst (λ z. Has (zip (numbers_from low (length (y ∷ xs))) (y ∷ xs)) (low, z)) (some_is e) first)
Has-numbered low (y ∷ xs) (suc k) x e =
    let at : low + 1 + k ≡ low + suc k = omega arith in
    subst (λ j. Has (zip (numbers_from low (length (y ∷ xs))) (y ∷ xs)) (j, x)) at (later (Has-numbered (low + 1) xs k x e))

from-numbered : {X : Type 0} (low : ℕ) (xs : List X) (p : ℕ × X) → Has (zip (numbers_from low (length xs)) xs) p → (k : ℕ) × (p.0 ≡ low + k) × (slice_get xs k ≡ Some p.1)
from-numbered low [] p h = elim h [ ]
from-numbered {X} low (y ∷ xs) p h = by_place (Has-uncons h) (λ rest. from-numbered (low + 1) xs p rest)
  where
    by_place : (p ≡ (low, y)) ⊎ Has (zip (numbers_from (low + 1) (length xs)) xs) p → (Has (zip (numbers_from (low + 1) (length xs)) xs) p → (k : ℕ) × (p.0 ≡ low + 1 + k) × (slice_get xs k ≡ Some p.1)) →
        (k : ℕ) × (p.0 ≡ low + k) × (slice_get (y ∷ xs) k ≡ Some p.1)
    by_place (inl e) more = (0, (let at : p.0 ≡ low = ap (λ (p : ℕ × X). p.0) e in omega (arith, at)), ap Some (sym (ap (λ (p : ℕ × X). p.1) e)))
    by_place (inr rest) more = let r = more rest in (suc r.0, (let at : p.0 ≡ low + 1 + r.0 = r.1 in omega (arith, at)), r.2)

-- ---- claims as units

module _ (d : Design) where
  -- what is a claim is one of the claims
  abbrev IsOne : Unit → Type 0
  IsOne (Map k) = Prim.Unit {0}
  IsOne (Claim k) = (c : FlatClaim) × (slice_get d.claims k ≡ Some c)

  from-maps : (x : ℕ × Unit) → Has (maps d) x → IsOne x.1
  from-maps x h =
      let r : (p : ℕ × Def) × Has (zip (numbers_from 0 (length d.defs)) d.defs) p × Has (if is_refinement d p.1.family p.1.layer then (p.1.place, Map p.0) ∷ [] else []) x =
      Has-from_flat_map (λ ((k, def) : ℕ × Def). if is_refinement d def.family def.layer then (def.place, Map k) ∷ [] else []) (zip (numbers_from 0 (length d.defs)) d.defs) h in
      let t : (is_refinement d r.0.1.family r.0.1.layer ≡ true) × Has ((r.0.1.place, Map r.0.0) ∷ []) x = Has-tested (is_refinement d r.0.1.family r.0.1.layer) r.2 in
      subst (λ (x : ℕ × Unit). IsOne x.1) (sym (only t.1)) tt
    where
      only : {x y : ℕ × Unit} → Has (x ∷ []) y → y ≡ x
      only h = elim (Has-uncons h) [
        | inl i ↦ i
        | inr k ↦ elim k [ ]
      ]

  from-claims : (x : ℕ × Unit) → Has (claims d) x → IsOne x.1
  from-claims x h =
      let r : (p : ℕ × FlatClaim) × Has (zip (numbers_from 0 (length d.claims)) d.claims) p × (x ≡ (p.1.place, Claim p.0)) = Has-from_map (λ ((k, claim) : ℕ × FlatClaim). (claim.place, Claim k)) (zip (numbers_from 0 (length d.claims)) d.claims) h in
      let at : (k : ℕ) × (r.0.0 ≡ 0 + k) × (slice_get d.claims k ≡ Some r.0.1) = from-numbered 0 d.claims r.0 r.1 in
      let same : r.0.0 ≡ at.0 = (let e : r.0.0 ≡ 0 + at.0 = at.1 in omega (arith, e)) in
      subst (λ (x : ℕ × Unit). IsOne x.1) (sym r.2) (r.0.1, subst (λ k. slice_get d.claims k ≡ Some r.0.1) (sym same) at.2)

  unit-of : (u : Unit) → Has (units_of d) u → IsOne u
  unit-of u h =
      let r : (x : ℕ × Unit) × Has (in_order (maps d ++ claims d)) x × (u ≡ x.1) = Has-from_map (λ ((place, unit) : ℕ × Unit). unit) (in_order (maps d ++ claims d)) h in
      subst IsOne (sym r.2) (elim (Has-cases (maps d) (claims d) (from-in_order (maps d ++ claims d) r.0 r.1)) [
        | inl m ↦ from-maps r.0 m
        | inr c ↦ from-claims r.0 c
      ])

  claim-unit : (k : ℕ) (c : FlatClaim) → slice_get d.claims k ≡ Some c → Has (units_of d) (Claim k)
  claim-unit k c e =
      let numbered : Has (zip (numbers_from 0 (length d.claims)) d.claims) (0 + k, c) = Has-numbered 0 d.claims k c e in
      let at : 0 + k ≡ k = omega arith in
      let here : Has (zip (numbers_from 0 (length d.claims)) d.claims) (k, c) = subst (λ j. Has (zip (numbers_from 0 (length d.claims)) d.claims) (j, c)) at numbered in
      Has-map (λ ((place, unit) : ℕ × Unit). unit) (in_order-Has (maps d ++ claims d) (c.place, Claim k) (Has-right (maps d) (Has-map (λ ((k, claim) : ℕ × FlatClaim). (claim.place, Claim k)) here)))

  -- a member that passes a test has a place
  not-both : (b : Bool) → b ≡ true → b ≡ false → ⊥
  not-both b t f = absurd (cc)

  none-later : (o : Option ℕ) → option_map (λ k. suc k) o ≡ None → o ≡ None
  none-later None e = refl
  none-later (Some k) e = absurd (cc)

  placed : {X : Type 0} (p : X → Bool) (xs : List X) (x : X) → Has xs x → p x ≡ true → place_of p xs ≡ None → ⊥
  placed p [] x h t e = elim h [ ]
  placed p (y ∷ xs) x h t e = by (p y) refl e (λ k f. placed p xs x k t f)
    where
      by : (b : Bool) → p y ≡ b → cond b (Some 0) (option_map (λ k. suc k) (place_of p xs)) ≡ None → (Has xs x → place_of p xs ≡ None → ⊥) → ⊥
      by true i e goes = absurd (cc)
      by false i e goes = elim (Has-uncons h) [
        | inl same ↦ absurd (not-both (p y) (subst (λ z. p z ≡ true) same t) i)
        | inr k ↦ goes k (none-later (place_of p xs) e)
      ]

  module _ (claim : ℕ) where
    -- the unit at a place that is the claim
    at_unit : (unit : Unit) → Has (units_of d) unit → is_claim claim unit ≡ true → claim_in (unit_in d unit) ≡ slice_get d.claims claim
    at_unit (Map k) h t = absurd (cc)
    at_unit (Claim k) h t =
        let c : (c : FlatClaim) × (slice_get d.claims k ≡ Some c) = unit-of (Claim k) h in
        ap (λ o. claim_in (as_claim o)) c.1 ∙ (sym c.1 ∙ ap (slice_get d.claims) (nat_eq-is k claim t))

    by_place : (o : Option ℕ) → place_of (is_claim claim) (units_of d) ≡ o → claim_by (record { design = d; units = units_of d }) o ≡ slice_get d.claims claim
    by_place None e = sym (at (slice_get d.claims claim) refl)
      where
        at : (o : Option FlatClaim) → slice_get d.claims claim ≡ o → o ≡ None
        at None i = refl
        at (Some c) i = absurd (placed (is_claim claim) (units_of d) (Claim claim) (claim-unit claim c i) (nat_eq-itself claim) e)
    by_place (Some v) e =
        let f : Found (is_claim claim) (units_of d) v = place_of-is (is_claim claim) (units_of d) v e in
        ap (λ o. option_and_then claim_in (said_by (record { design = d; units = units_of d }) o)) f.1 ∙ at_unit f.0 (get_Has (units_of d) v f.0 f.1) f.2

  pub claim-assumed : (used : Assumed) → assumed (record { design = d; units = units_of d }) used ≡ slice_get d.claims used.claim
  claim-assumed used = by_place used.claim (place_of (is_claim used.claim) (units_of d)) refl
