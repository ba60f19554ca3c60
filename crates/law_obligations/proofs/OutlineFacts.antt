-- What an outline's lookups give: base definitions, units, and the definitions that a proof uses.
use Rattle.std.proofs.Common.{◌≡◌, ℕ, List, [], ◌∷◌, length, Bool, true, false, cond, ◌||◌, refl, sym, ap, subst, ◌∙◌, Option, Some, None, option_to_list, option_and_then, is_none, find, nat_eq, nat_lt, arith}
use Rattle.std.specs.List.{slice_get}
use Rattle.std.proofs.lemmas.Option.{slice_get_within}
use Rattle.law_lists.proofs.Options.{some_is}
use Rattle.law_lists.proofs.Numbers.{nat_eq-is}
use Rattle.law_lists.proofs.Booleans.{left_of}
use Rattle.smv_core.specs.Values.{numbers_from}
use Rattle.smv_core.specs.declared.flat.Design.{Design}
use Rattle.smv_core.specs.declared.flat.Family.{Family}
use Rattle.smv_core.specs.declared.flat.Def.{Def}
use Rattle.smv_core.specs.declared.flat.Claim.{Claim as FlatClaim}
use Rattle.smv_core.specs.declared.flat.Unit.{Unit}
use Rattle.smv_core.specs.declared.flat.Unit.TheVariants.{Map, Claim}
use Rattle.smv_core.specs.declared.flat.Pick.{Pick}
use Rattle.smv_core.specs.declared.flat.Assumed.{Assumed}
use Rattle.law_obligations.specs.Sets.{Has, first, later}
use Rattle.law_obligations.specs.Soundness.{FlatUnit, map_of, claim_of}
use Rattle.law_obligations.proofs.Members.{Has-flat_map}
use Rattle.law_obligations.proofs.Spots.{Has-numbers}
use Rattle.law_obligations.proofs.OneOfEach.{Has-from_flat_map}
use Rattle.law_obligations.specs.Outlines.{Outline, earlier, earliest, as_map, as_claim, map_in, claim_in, is_def, may_be_base, base_of, bases, unit_in, is_map, map_unit, claim_unit, said_by, claim_by, assumed, map_by, map_in_layer, unit_in_layer, picked_unit, map_by_pick, chosen}
use Rattle.law_obligations.proofs.Lookups.{Has-option, Has-from_filter, find-some, place_of-is}

earliest-Has : (defs : List Def) {def : Def} → earliest defs ≡ Some def → Has defs def
earliest-Has [] e = absurd (cc)
earliest-Has (d ∷ defs) {def} e = at (earliest defs) e (λ x k. earliest-Has defs k)
  where
    of_two : (b : Bool) (x : Def) → Has defs x → cond b x d ≡ def → Has (d ∷ defs) def
    of_two true x h e = later (subst (Has defs) e h)
    of_two false x h e = subst (Has (d ∷ defs)) e first

    at : (o : Option Def) → Some (earlier d o) ≡ Some def → ((x : Def) → o ≡ Some x → Has defs x) → Has (d ∷ defs) def
    at None e goes = subst (Has (d ∷ defs)) (some_is e) first
    at (Some x) e goes = of_two (nat_lt x.place d.place) x (goes x refl) (some_is e)

-- a base definition is one of its family
pub record IsBase (d : Design) (family : ℕ) (def : Def) : Type 0 where
  pub its_family : Family
  pub is_there : slice_get d.families family ≡ Some its_family
  pub is_its : def.family ≡ family
  pub is_def_of : Has d.defs def

may_be-is : (d : Design) (family : ℕ) (def : Def) → Has d.defs def → (o : Option Family) → slice_get d.families family ≡ o → may_be_base d family o def ≡ true → IsBase d family def
may_be-is d family def h None e t = absurd (cc)
may_be-is d family def h (Some f) e t = record { its_family = f; is_there = e; is_its = nat_eq-is def.family family (left_of (nat_eq def.family family) (f.is_abstract || is_none def.layer) t); is_def_of = h }

pub base-is : (d : Design) (family : ℕ) (def : Def) → base_of d family ≡ Some def → IsBase d family def
base-is d family def e = let r = Has-from_filter (may_be_base d family (slice_get d.families family)) d.defs (earliest-Has _ e) in
    may_be-is d family def r.0 (slice_get d.families family) refl r.1

pub bases-Has : (d : Design) (family : ℕ) (def : Def) → base_of d family ≡ Some def → Has (bases d) def
bases-Has d family def e = let b = base-is d family def e in
    Has-flat_map (λ family. option_to_list (base_of d family)) (Has-numbers 0 (length d.families) family (omega arith) (let l = slice_get_within d.families family b.its_family b.is_there in omega (arith, l)))
    (subst (λ o. Has (option_to_list o) def) (sym e) first)

pub bases-are : (d : Design) (def : Def) → Has (bases d) def → Has d.defs def
bases-are d def h = let r = Has-from_flat_map (λ family. option_to_list (base_of d family)) (numbers_from 0 (length d.families)) h in
    let b = base-is d r.0 def (Has-option (base_of d r.0) r.2) in b.is_def_of

-- units
pub map_in-is : (unit : FlatUnit) (def : Def) → map_in unit ≡ Some def → unit ≡ map_of def
map_in-is (map_of other) def e = ap map_of (some_is e)
map_in-is (claim_of claim) def e = absurd (cc)

claim_in-is : (unit : FlatUnit) (claim : FlatClaim) → claim_in unit ≡ Some claim → unit ≡ claim_of claim
claim_in-is (map_of def) claim e = absurd (cc)
claim_in-is (claim_of other) claim e = ap claim_of (some_is e)

as_map-is : (o : Option Def) (def : Def) → as_map o ≡ map_of def → o ≡ Some def
as_map-is None def e = absurd (cc)
as_map-is (Some other) def e = ap Some (same e)
  where
    same : {x y : Def} → map_of x ≡ map_of y → x ≡ y
    same e = cc

as_claim-no : (o : Option FlatClaim) (def : Def) → as_claim o ≡ map_of def → ⊥
as_claim-no None def e = cc
as_claim-no (Some claim) def e = cc

-- a unit that is a map says a definition of the design
pub unit-def : (d : Design) (unit : Unit) (def : Def) → unit_in d unit ≡ map_of def → (k : ℕ) × (unit ≡ Map k) × (slice_get d.defs k ≡ Some def)
unit-def d (Map k) def e = (k, refl, as_map-is (slice_get d.defs k) def e)
unit-def d (Claim k) def e = absurd (as_claim-no (slice_get d.claims k) def e)

is_def-family : (family layer : ℕ) (o : Option Def) (def : Def) → o ≡ Some def → is_def family layer o ≡ true → def.family ≡ family
is_def-family family layer None def e t = absurd (cc)
is_def-family family layer (Some other) def e t = subst (λ def. def.family ≡ family) (some_is e) (nat_eq-is other.family family (left_of (nat_eq other.family family) _ t))

is_map-family : (d : Design) (family layer : ℕ) (unit : Unit) (def : Def) → is_map d family layer unit ≡ true → unit_in d unit ≡ map_of def → def.family ≡ family
is_map-family d family layer (Map k) def t e = is_def-family family layer (slice_get d.defs k) def (as_map-is (slice_get d.defs k) def e) t
is_map-family d family layer (Claim k) def t e = absurd (cc)

module _ (o : Outline) where
  -- the unit at a place says so
  pub record Says (v : ℕ) (said : FlatUnit) : Type 0 where
    pub unit : Unit
    pub is_there : slice_get o.units v ≡ Some unit
    pub is_said : unit_in o.design unit ≡ said

  says_map : (ou : Option Unit) (def : Def) → option_and_then map_in (said_by o ou) ≡ Some def → (unit : Unit) × (ou ≡ Some unit) × (unit_in o.design unit ≡ map_of def)
  says_map None def e = absurd (cc)
  says_map (Some unit) def e = (unit, refl, map_in-is (unit_in o.design unit) def e)

  says_claim : (ou : Option Unit) (claim : FlatClaim) → option_and_then claim_in (said_by o ou) ≡ Some claim → (unit : Unit) × (ou ≡ Some unit) × (unit_in o.design unit ≡ claim_of claim)
  says_claim None claim e = absurd (cc)
  says_claim (Some unit) claim e = (unit, refl, claim_in-is (unit_in o.design unit) claim e)

  -- a definition that a proof uses is a base definition, or that of a unit which a pick names
  pub data Comes (picks : List Pick) (family : ℕ) (def : Def) : Type 0 where
    from_base : Has (bases o.design) def → Comes picks family def
    from_unit : (p : Pick) → find (λ p. nat_eq p.family family) picks ≡ Some p → (v : ℕ) → picked_unit o p ≡ Some v → Says v (map_of def) → Comes picks family def

  by_unit : (picks : List Pick) (family : ℕ) (def : Def) (p : Pick) → find (λ p. nat_eq p.family family) picks ≡ Some p → p.family ≡ family → (layer : ℕ) → p.layer ≡ Some layer →
      (ov : Option ℕ) → map_unit o p.family layer ≡ ov → map_by o p.family ov ≡ Some def → (def.family ≡ family) × Comes picks family def
  by_unit picks family def p i s layer l None m e = let b = base-is o.design p.family def e in (b.is_its ∙ s, from_base (bases-Has o.design p.family def e))
  by_unit picks family def p i s layer l (Some v) m e =
      let r = says_map (slice_get o.units v) def e in
      let q = place_of-is (is_map o.design p.family layer) o.units v m in
      let same : q.0 ≡ r.0 = some_is (sym q.1 ∙ r.1) in (
        is_map-family o.design p.family layer r.0 def (subst (λ unit. is_map o.design p.family layer unit ≡ true) same q.2) r.2 ∙ s,
        from_unit p i v (ap (unit_in_layer o p.family) l ∙ m) (record { unit = r.0; is_there = r.1; is_said = r.2 }),
      )

  by_layer : (picks : List Pick) (family : ℕ) (def : Def) (p : Pick) → find (λ p. nat_eq p.family family) picks ≡ Some p → p.family ≡ family →
      (ol : Option ℕ) → p.layer ≡ ol → map_in_layer o p.family ol ≡ Some def → (def.family ≡ family) × Comes picks family def
  by_layer picks family def p i s None l e = absurd (cc)
  by_layer picks family def p i s (Some layer) l e = by_unit picks family def p i s layer l (map_unit o p.family layer) refl e

  by_pick : (picks : List Pick) (family : ℕ) (def : Def) (op : Option Pick) → find (λ p. nat_eq p.family family) picks ≡ op → map_by_pick o family op ≡ Some def → (def.family ≡ family) × Comes picks family def
  by_pick picks family def None i e = let b = base-is o.design family def e in (b.is_its, from_base (bases-Has o.design family def e))
  by_pick picks family def (Some p) i e = let f = find-some (λ p. nat_eq p.family family) picks i in by_layer picks family def p i (nat_eq-is p.family family f.1) p.layer refl e

  pub chosen-comes : (picks : List Pick) (family : ℕ) (def : Def) → chosen o picks family ≡ Some def → (def.family ≡ family) × Comes picks family def
  chosen-comes picks family def e = by_pick picks family def (find (λ p. nat_eq p.family family) picks) refl e

  claim-comes : (claim : FlatClaim) (ov : Option ℕ) → claim_by o ov ≡ Some claim → (v : ℕ) × (ov ≡ Some v) × Says v (claim_of claim)
  claim-comes claim None e = absurd (cc)
  claim-comes claim (Some v) e = let r = says_claim (slice_get o.units v) claim e in (v, refl, record { unit = r.0; is_there = r.1; is_said = r.2 })

  pub assumed-comes : (used : Assumed) (claim : FlatClaim) → assumed o used ≡ Some claim → (v : ℕ) × (claim_unit o used.claim ≡ Some v) × Says v (claim_of claim)
  assumed-comes used claim e = claim-comes claim (claim_unit o used.claim) e
