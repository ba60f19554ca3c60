-- What stands in a flattened text in flat order: the assignments of its statements and its claims, each with its place.
use Rattle.std.proofs.Common.{◌≡◌, ℕ, zero, suc, ◌+◌, List, [], ◌∷◌, ◌++◌, map, flat_map, filter, zip, Option, Bool, true, false, cond, not, refl, sym, ap, subst, ◌∙◌, inl, inr, arith}
use Rattle.smv_core.specs.Values.{numbers_from}
use Rattle.smv_core.specs.declared.flat.Claim.{Claim as FlatClaim}
use Rattle.smv_core.specs.declared.flat.FlatStmt.{FlatStmt}
use Rattle.smv_core.specs.declared.flat.FlatItem.{FlatItem}
use Rattle.smv_core.specs.declared.flat.FlatItem.TheVariants as item
use Rattle.law_designs.specs.Flattening.{different, with_places}
use Rattle.law_designs.specs.WholeText.{claims_of}
use Rattle.law_designs.specs.Standing.{Statement, Standing, count, statements_from, assigned_by}
use Rattle.law_designs.specs.Definitions.{Head, head, heads_of, same_definition}
use Rattle.law_obligations.specs.Sets.{Has, first, later}
use Rattle.law_obligations.proofs.Members.{Has-uncons}
use Rattle.law_units.proofs.Rising.{Between, between-append}

-- an assignment or a claim
pub data Mark : Type 0 where
  made : Head → Mark
  stated : FlatClaim → Mark

abbrev pub mark_place : Mark → ℕ
mark_place (made h) = h.place
mark_place (stated c) = c.place

-- two assignments of one family in one definition set; each claim is one of its own
abbrev pub same_mark : Mark → Mark → Bool
same_mark (made a) (made b) = same_definition a b
same_mark (made a) (stated c) = false
same_mark (stated c) m = false

abbrev pub statement_at : ℕ → Option ℕ → FlatStmt → Statement
statement_at k layer act = record { layer = layer; place = k; act = act }

abbrev pub marks : ℕ → List FlatItem → List Mark
marks k [] = []
marks k (item.Act layer act ∷ items) = map made (heads_of (statement_at k layer act)) ++ marks (k + count act) items
marks k (item.Claim c ∷ items) = stated c ∷ marks (k + 1) items
marks k (item.Split s ∷ items) = marks k items
marks k (item.Using u ∷ items) = marks k items

-- ---- places rise

abbrev heads_from_place : List Standing → ℕ → ℕ → List Mark
heads_from_place as' n k = map made (map (λ (a, k). head a k) (zip as' (numbers_from k n)))

one_place_on : (as' : List Standing) (n k : ℕ) → Between mark_place (k + 1) (k + 1 + n) (heads_from_place as' n (k + 1)) → Between mark_place (suc k) (k + suc n) (heads_from_place as' n (k + 1))
one_place_on as' n k h =
    let low : k + 1 ≡ suc k = omega arith in
    let high : k + 1 + n ≡ k + suc n = omega arith in
    subst (λ j. Between mark_place j (k + suc n) (heads_from_place as' n (k + 1))) low (subst (λ j. Between mark_place (k + 1) j (heads_from_place as' n (k + 1))) high h)

heads-between : (as' : List Standing) (n k : ℕ) → Between mark_place k (k + n) (heads_from_place as' n k)
heads-between [] n k = omega arith
heads-between (a ∷ as') zero k = omega arith
heads-between (a ∷ as') (suc n) k = (omega arith, one_place_on as' n k (heads-between as' n (k + 1)))

pub marks-between : (k : ℕ) (items : List FlatItem) → (high : ℕ) × Between mark_place k high (marks k (with_places k items))
marks-between k [] = (k, omega arith)
marks-between k (item.Act layer act ∷ items) =
    let rest = marks-between (k + count act) items in (
      rest.0,
      between-append mark_place k (k + count act) rest.0 (map made (heads_of (statement_at k layer act))) (marks (k + count act) (with_places (k + count act) items))
          (heads-between (assigned_by (statement_at k layer act)) (count act) k) rest.1,
    )
marks-between k (item.Claim c ∷ items) =
    let rest = marks-between (k + 1) items in
    let low : k + 1 ≡ suc k = omega arith in
    (rest.0, (omega arith, subst (λ j. Between mark_place j rest.0 (marks (k + 1) (with_places (k + 1) items))) low rest.1))
marks-between k (item.Split s ∷ items) = marks-between k items
marks-between k (item.Using u ∷ items) = marks-between k items

-- ---- its assignments and its claims

abbrev pub heads_in : List Mark → List Head
heads_in [] = []
heads_in (made h ∷ ms) = h ∷ heads_in ms
heads_in (stated c ∷ ms) = heads_in ms

abbrev pub claims_in : List Mark → List FlatClaim
claims_in [] = []
claims_in (made h ∷ ms) = claims_in ms
claims_in (stated c ∷ ms) = c ∷ claims_in ms

heads-made : (hs : List Head) (ms : List Mark) → heads_in (map made hs ++ ms) ≡ hs ++ heads_in ms
heads-made [] ms = refl
heads-made (h ∷ hs) ms = ap (λ l. h ∷ l) (heads-made hs ms)

claims-made : (hs : List Head) (ms : List Mark) → claims_in (map made hs ++ ms) ≡ claims_in ms
claims-made [] ms = refl
claims-made (h ∷ hs) ms = claims-made hs ms

pub heads-marks : (k : ℕ) (items : List FlatItem) → heads_in (marks k items) ≡ flat_map heads_of (statements_from k items)
heads-marks k [] = refl
heads-marks k (item.Act layer act ∷ items) = heads-made (heads_of (statement_at k layer act)) (marks (k + count act) items) ∙ ap (λ l. heads_of (statement_at k layer act) ++ l) (heads-marks (k + count act) items)
heads-marks k (item.Claim c ∷ items) = heads-marks (k + 1) items
heads-marks k (item.Split s ∷ items) = heads-marks k items
heads-marks k (item.Using u ∷ items) = heads-marks k items

pub claims-marks : (k : ℕ) (items : List FlatItem) → claims_in (marks k items) ≡ claims_of items
claims-marks k [] = refl
claims-marks k (item.Act layer act ∷ items) = claims-made (heads_of (statement_at k layer act)) (marks (k + count act) items) ∙ claims-marks (k + count act) items
claims-marks k (item.Claim c ∷ items) = ap (λ l. c ∷ l) (claims-marks (k + 1) items)
claims-marks k (item.Split s ∷ items) = claims-marks k items
claims-marks k (item.Using u ∷ items) = claims-marks k items

pub heads-Has : (ms : List Mark) (h : Head) → Has (heads_in ms) h → Has ms (made h)
heads-Has [] h m = elim m [ ]
heads-Has (made g ∷ ms) h m = elim (Has-uncons m) [
  | inl e ↦ subst (λ g. Has (made g ∷ ms) (made h)) e first
  | inr k ↦ later (heads-Has ms h k)
]
heads-Has (stated c ∷ ms) h m = later (heads-Has ms h m)

pub heads-from : (ms : List Mark) (h : Head) → Has ms (made h) → Has (heads_in ms) h
heads-from [] h m = elim m [ ]
heads-from (made g ∷ ms) h m = elim (Has-uncons m) [
  | inl e ↦ let same : h ≡ g = cc in subst (Has (g ∷ heads_in ms)) (sym same) first
  | inr k ↦ later (heads-from ms h k)
]
heads-from (stated c ∷ ms) h m = elim (Has-uncons m) [
  | inl e ↦ absurd (cc (e))
  | inr k ↦ heads-from ms h k
]

pub claims-Has : (ms : List Mark) (c : FlatClaim) → Has (claims_in ms) c → Has ms (stated c)
claims-Has [] c m = elim m [ ]
claims-Has (made g ∷ ms) c m = later (claims-Has ms c m)
claims-Has (stated d ∷ ms) c m = elim (Has-uncons m) [
  | inl e ↦ subst (λ d. Has (stated d ∷ ms) (stated c)) e first
  | inr k ↦ later (claims-Has ms c k)
]

pub claims-from : (ms : List Mark) (c : FlatClaim) → Has ms (stated c) → Has (claims_in ms) c
claims-from [] c m = elim m [ ]
claims-from (made g ∷ ms) c m = elim (Has-uncons m) [
  | inl e ↦ absurd (cc (e))
  | inr k ↦ claims-from ms c k
]
claims-from (stated d ∷ ms) c m = elim (Has-uncons m) [
  | inl e ↦ let same : c ≡ d = cc in subst (Has (d ∷ claims_in ms)) (sym same) first
  | inr k ↦ later (claims-from ms c k)
]

-- ---- each once

heads-filter : (h : Head) (ms : List Mark) → heads_in (filter (λ m. not (same_mark (made h) m)) ms) ≡ filter (λ g. not (same_definition h g)) (heads_in ms)
heads-filter h [] = refl
heads-filter h (made g ∷ ms) = by_test (same_definition h g) (heads-filter h ms)
  where
    by_test : (b : Bool) → heads_in (filter (λ m. not (same_mark (made h) m)) ms) ≡ filter (λ g. not (same_definition h g)) (heads_in ms) →
        heads_in (cond (not b) (made g ∷ filter (λ m. not (same_mark (made h) m)) ms) (filter (λ m. not (same_mark (made h) m)) ms)) ≡ cond (not b) (g ∷ filter (λ g. not (same_definition h g)) (heads_in ms)) (filter (λ g. not (same_definition h g)) (heads_in ms))
    by_test true e = e
    by_test false e = ap (λ l. g ∷ l) e
heads-filter h (stated c ∷ ms) = heads-filter h ms

claims-filter : (h : Head) (ms : List Mark) → claims_in (filter (λ m. not (same_mark (made h) m)) ms) ≡ claims_in ms
claims-filter h [] = refl
claims-filter h (made g ∷ ms) = by_test (same_definition h g) (claims-filter h ms)
  where
    by_test : (b : Bool) → claims_in (filter (λ m. not (same_mark (made h) m)) ms) ≡ claims_in ms →
        claims_in (cond (not b) (made g ∷ filter (λ m. not (same_mark (made h) m)) ms) (filter (λ m. not (same_mark (made h) m)) ms)) ≡ claims_in ms
    by_test true e = e
    by_test false e = e
claims-filter h (stated c ∷ ms) = ap (λ l. c ∷ l) (claims-filter h ms)

-- no other is the same as a claim
kept-behind : (c : FlatClaim) (ms : List Mark) → filter (λ m. not (same_mark (stated c) m)) ms ≡ ms
kept-behind c [] = refl
kept-behind c (m ∷ ms) = ap (λ l. m ∷ l) (kept-behind c ms)

pub heads-different : (ms : List Mark) → heads_in (different same_mark ms) ≡ different same_definition (heads_in ms)
heads-different [] = refl
heads-different (made h ∷ ms) = ap (λ l. h ∷ l) (heads-filter h (different same_mark ms) ∙ ap (filter (λ g. not (same_definition h g))) (heads-different ms))
heads-different (stated c ∷ ms) = ap heads_in (kept-behind c (different same_mark ms)) ∙ heads-different ms

pub claims-different : (ms : List Mark) → claims_in (different same_mark ms) ≡ claims_in ms
claims-different [] = refl
claims-different (made h ∷ ms) = claims-filter h (different same_mark ms) ∙ claims-different ms
claims-different (stated c ∷ ms) = ap (λ l. c ∷ l) (ap claims_in (kept-behind c (different same_mark ms)) ∙ claims-different ms)
