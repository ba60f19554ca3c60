-- A value that a type does not have, and a set with one, allow all values of the type.
use Rattle.std.proofs.Common.{◌≡◌, ◌∙◌, ◌+◌, ◌-◌, ◌<◌, ◌≤◌, ◌⊎◌, inl, inr, ℕ, zero, suc, List, [], ◌∷◌, ◌++◌, Bool, true, false, cond, get_or, map, refl, sym, ap, subst, arith, Option, Some, None}
use Rattle.std.specs.Prelude.{◌&&◌, ◌||◌, nat_eq, nat_le, option_map, slice_get, unwrap_or}
use Rattle.std.specs.List.{list_any}
use Rattle.std.proofs.lemmas.Bool.Decides.{nat_tests}
use Rattle.law_lists.proofs.Numbers.{nat_eq-above, nat_eq-below}
use Rattle.smv_core.specs.Values.{Name, Outcome, Value, Sizes, number, constant, scalar, ordinal, ordset, scalarset, add, all_defined, is_in, modulo, numbers_from, same, value_in, values_of}
use Rattle.smv_core.specs.Outcome.{fit}
use Rattle.smv_core.specs.Assignments.{Index, fixed, bare, computed, add_fixed, modulo_fixed}
use Rattle.smv_core.specs.FlatMeaning.{FlatBindings, FlatState, Numbered, flat_allowed_by, flat_index, flat_index_sum, flat_members, flat_outcome, flat_sum, set_type, values_in}
use Rattle.smv_core.specs.Rows.{one_flat_expr}
use Rattle.smv_core.specs.declared.tree.Span.{Span}
use Rattle.smv_core.specs.declared.flat.SetInfo.{SetInfo}
use Rattle.smv_core.specs.declared.flat.Simple.{Simple}
use Rattle.smv_core.specs.declared.flat.Simple.TheVariants.{Range, Enum, Set}
use Rattle.smv_core.specs.declared.flat.FlatMember.{One, Span as SpanOf}
use Rattle.smv_core.specs.declared.flat.FlatExpr.{FlatExpr, Number, Read', Var, Loop, Constant, Not', And', Or', Implies', Iff', Compare', Within', Sum', Modulo', Choose', All', Any', List', Each', Row_of-FlatMember, end_of-FlatMember, more_of-FlatMember, Row_of-FlatSigned, end_of-FlatSigned, more_of-FlatSigned}
use Rattle.smv_look_lint.specs.Strays.{has, has_all}
use Rattle.smv_look_lint.specs.Truth.{HasStray, IsStray, IsStraySpan, SetsWithStraysRuleNothingOut, StraysRuleNothingOut}

-- ---- a constant has its value

abbrev Denotes : Index → Outcome → Type 0
Denotes (fixed w) u = u ≡ w
Denotes (bare k) u = Unit {0}
Denotes computed u = Unit {0}

added : (minus : Bool) (i j : Index) (o p : Outcome) → Denotes i o → Denotes j p → Denotes (add_fixed minus i j) (add minus o p)
added minus (fixed u) (fixed v) o p h k = rw (h, k) refl
added minus (fixed u) (bare n) o p h k = tt
added minus (fixed u) computed o p h k = tt
added minus (bare m) j o p h k = tt
added minus computed j o p h k = tt

moduloed : (i : Index) (o : Outcome) (by : ℕ) → Denotes i o → Denotes (modulo_fixed i by) (modulo o by)
moduloed (fixed u) o by h = rw h refl
moduloed (bare n) o by h = tt
moduloed computed o by h = tt

module _ (n : Numbered) (s : FlatState) (b : FlatBindings) where
  mutual
    denotes : (e : FlatExpr) → Denotes (flat_index e) (flat_outcome n s e b)
    denotes (Number value at) = refl
    denotes (Loop value at) = refl
    denotes (Sum' f (one_flat_expr head) shape more) = summed more (flat_index head) (flat_outcome n s head b) (denotes head)
    denotes (Modulo' shape (one_flat_expr e) by at) = moduloed (flat_index e) (flat_outcome n s e b) by (denotes e)
    denotes _ = tt

    summed : {m : _} (more : Row_of-FlatSigned m) (i : Index) (o : Outcome) → Denotes i o → Denotes (flat_index_sum i more) (flat_sum n s more o b)
    summed end_of-FlatSigned i o k = k
    summed (more_of-FlatSigned minus e rest) i o k = summed rest (add_fixed minus i (flat_index e)) (add minus o (flat_outcome n s e b)) (added minus i (flat_index e) o (flat_outcome n s e b) k (denotes e))

-- ---- a type lacks a number that it does not have

below-first : (m first len : ℕ) → m < first → list_any (same (number m)) (map number (numbers_from first len)) ≡ false
below-first m first zero less = refl
below-first m first (suc len) less =
    let here : nat_eq m first ≡ false = nat_eq-below m first less in
    ap (λ (t : Bool). t || list_any (same (number m)) (map number (numbers_from (first + 1) len))) here ∙ below-first m (first + 1) len (omega arith)

past-last : (m first len : ℕ) → first + len ≤ m → list_any (same (number m)) (map number (numbers_from first len)) ≡ false
past-last m first zero more = refl
past-last m first (suc len) more =
    let here : nat_eq m first ≡ false = nat_eq-above m first (omega arith) in
    ap (λ (t : Bool). t || list_any (same (number m)) (map number (numbers_from (first + 1) len))) here ∙ past-last m (first + 1) len (omega arith)

no-constant : (m : ℕ) (names : List Name) → is_in (map constant names) (number m) ≡ false
no-constant m [] = refl
no-constant m (name ∷ names) = no-constant m names

no-scalar : (m : ℕ) (name : Name) (ks : List ℕ) → is_in (map (scalar name) ks) (number m) ≡ false
no-scalar m name [] = refl
no-scalar m name (k ∷ ks) = no-scalar m name ks

no-ordinal : (m : ℕ) (name : Name) (ks : List ℕ) → is_in (map (ordinal name) ks) (number m) ≡ false
no-ordinal m name [] = refl
no-ordinal m name (k ∷ ks) = no-ordinal m name ks

in-set : (m : ℕ) (sizes : Sizes) (info : Option SetInfo) → is_in (values_of sizes (set_type info)) (number m) ≡ false
in-set m sizes None = refl
in-set m sizes (Some info) = by info.ordered
  where
    by : (ordered : Bool) → is_in (values_of sizes (cond ordered (ordset info.name) (scalarset info.name))) (number m) ≡ false
    by true = no-ordinal m info.name (numbers_from 0 (sizes info.name))
    by false = no-scalar m info.name (numbers_from 0 (sizes info.name))

-- a number is below another, or not
either : (m low : ℕ) → (m < low) ⊎ (low ≤ m)
either m low = by (nat_le low m) refl
  where
    by : (p : Bool) → nat_le low m ≡ p → (m < low) ⊎ (low ≤ m)
    by true e = inr (grind (arith, nat_tests))
    by false e = inl (grind (arith, nat_tests))

above : (low high m : ℕ) → (nat_le low m && nat_le m high) ≡ false → low ≤ m → high < m
above low high m h le = by (nat_le low m) (nat_le m high) refl refl h
  where
    by : (p q : Bool) → nat_le low m ≡ p → nat_le m high ≡ q → (p && q) ≡ false → high < m
    by false q e f g = grind (arith, nat_tests)
    by true false e f g = grind (arith, nat_tests)
    by true true e f g = absurd (cc)

in-range : (low high m : ℕ) → (nat_le low m && nat_le m high) ≡ false → is_in (map number (numbers_from low (high + 1 - low))) (number m) ≡ false
in-range low high m h = by (either m low)
  where
    by : (m < low) ⊎ (low ≤ m) → is_in (map number (numbers_from low (high + 1 - low))) (number m) ≡ false
    by (inl less) = below-first m low (high + 1 - low) less
    by (inr le) = past-last m low (high + 1 - low) (let more : high < m = above low high m h le in omega arith)

module _ (n : Numbered) where
  lacks : (over : Simple) (m : ℕ) → has over (Some m) ≡ false → is_in (values_in n over) (number m) ≡ false
  lacks (Range low high) m h = in-range low high m h
  lacks (Enum list) m h = no-constant m (get_or n.enums list [])
  lacks (Set set) m h = in-set m n.sizes (slice_get n.sets set)

  no-value : (over : Simple) (k : Option ℕ) → has over k ≡ false → value_in (values_in n over) (option_map number k) ≡ None
  no-value over None h = refl
  no-value over (Some m) h = ap (λ (t : Bool). cond t (Some (number m)) None) (lacks over m h)

-- ---- what fits a type, where one outcome is no value of it

-- one of the outcomes is none of these values
abbrev HasMiss : List Value → List Outcome → Type 0
HasMiss every [] = ⊥
HasMiss every (u ∷ us) = (value_in every u ≡ None) ⊎ HasMiss every us

miss-all : (every : List Value) (us : List Outcome) → HasMiss every us → all_defined (map (value_in every) us) ≡ None
miss-all every [] miss = absurd miss
miss-all every (u ∷ us) (inl e) = ap (λ (v : Outcome). all_defined (v ∷ map (value_in every) us)) e
miss-all every (u ∷ us) (inr more) = by (value_in every u) (miss-all every us more)
  where
    by : (v : Outcome) → all_defined (map (value_in every) us) ≡ None → all_defined (v ∷ map (value_in every) us) ≡ None
    by None e = refl
    by (Some v) e = ap (λ (o : Option (List Value)). option_map (λ vs. v ∷ vs) o) e

fit-miss : (every : List Value) (us : List Outcome) → HasMiss every us → fit every us ≡ every
fit-miss every [] miss = absurd miss
fit-miss every (u ∷ us) miss = ap (λ (o : Option (List Value)). unwrap_or o every) (miss-all every (u ∷ us) miss)

miss-right : (every : List Value) (us vs : List Outcome) → HasMiss every vs → HasMiss every (us ++ vs)
miss-right every [] vs miss = miss
miss-right every (u ∷ us) vs miss = inr (miss-right every us vs miss)

miss-left : (every : List Value) (us vs : List Outcome) → HasMiss every us → HasMiss every (us ++ vs)
miss-left every [] vs miss = absurd miss
miss-left every (u ∷ us) vs (inl e) = inl e
miss-left every (u ∷ us) vs (inr more) = inr (miss-left every us vs more)

-- ---- the laws

module _ (n : Numbered) (s : FlatState) (over : Simple) (b : FlatBindings) where
  told : (e : FlatExpr) (i : Index) → flat_index e ≡ i → Denotes i (flat_outcome n s e b)
  told e i is = subst (λ (j : Index). Denotes j (flat_outcome n s e b)) is (denotes n s b e)

  outcome-misses : (e : FlatExpr) → IsStray over e → value_in (values_in n over) (flat_outcome n s e b) ≡ None
  outcome-misses e (k, is, lack) = ap (value_in (values_in n over)) (told e (fixed (option_map number k)) is) ∙ no-value n over k lack

  one-misses : (e : FlatExpr) → IsStray over e → fit (values_in n over) (flat_outcome n s e b ∷ []) ≡ values_in n over
  one-misses e stray = fit-miss (values_in n over) (flat_outcome n s e b ∷ []) (inl (outcome-misses e stray))

  -- some numbers
  abbrev named : List ℕ → List Outcome
  named ks = map (λ k. Some (number k)) ks

  -- the numbers of a span
  abbrev spanned : Span → List Outcome
  spanned span = named (numbers_from span.low (span.high + 1 - span.low))

  -- an end of them is none of the type
  span-misses : (span : Span) → IsStraySpan over span → HasMiss (values_in n over) (spanned span)
  span-misses span (up, lack) = by (has over (Some span.low)) (has over (Some span.high)) refl refl lack
    where
      at-first : (len : ℕ) → 0 < len → has over (Some span.low) ≡ false → HasMiss (values_in n over) (named (numbers_from span.low len))
      at-first zero some none = absurd (omega arith)
      at-first (suc len) some none = inl (no-value n over (Some span.low) none)

      at-last : (first len m : ℕ) → m + 1 ≡ first + len → 0 < len → has over (Some m) ≡ false → HasMiss (values_in n over) (named (numbers_from first len))
      at-last first zero m e some none = absurd (omega arith)
      at-last first (suc zero) m e some none = let same : m ≡ first = omega arith in inl (no-value n over (Some first) (subst (λ (k : ℕ). has over (Some k) ≡ false) same none))
      at-last first (suc (suc len)) m e some none = inr (at-last (first + 1) (suc len) m (omega arith) (omega arith) none)

      by : (p q : Bool) → has over (Some span.low) ≡ p → has over (Some span.high) ≡ q → (p && q) ≡ false → HasMiss (values_in n over) (named (numbers_from span.low (span.high + 1 - span.low)))
      by false q e f g = at-first (span.high + 1 - span.low) (omega arith) e
      by true false e f g = at-last span.low (span.high + 1 - span.low) span.high (omega arith) (omega arith) f
      by true true e f g = absurd (cc)

  members-miss : {m : _} (members : Row_of-FlatMember m) → HasStray over members → HasMiss (values_in n over) (flat_members n s members b)
  members-miss end_of-FlatMember stray = absurd stray
  members-miss (more_of-FlatMember (One e) rest) (inl stray) = inl (outcome-misses e stray)
  members-miss (more_of-FlatMember (One e) rest) (inr more) = inr (members-miss rest more)
  members-miss (more_of-FlatMember (SpanOf span at) rest) (inl stray) = miss-left (values_in n over) (spanned span) (flat_members n s rest b) (span-misses span stray)
  members-miss (more_of-FlatMember (SpanOf span at) rest) (inr more) = miss-right (values_in n over) (spanned span) (flat_members n s rest b) (members-miss rest more)

  -- what has no constant value is no stray
  untold : (e : FlatExpr) → flat_index e ≡ computed → IsStray over e → ⊥
  untold e none (k, is, lack) = let never : computed ≡ fixed (option_map number k) = sym none ∙ is in cc

  value-allows : (e : FlatExpr) → IsStray over e → flat_allowed_by n s (values_in n over) e b ≡ values_in n over
  value-allows (List' shape members at) stray = absurd (untold (List' shape members at) refl stray)
  value-allows (Each' var each cond at) stray = absurd (untold (Each' var each cond at) refl stray)
  value-allows (Choose' c cond l left r right) stray = absurd (untold (Choose' c cond l left r right) refl stray)
  value-allows (Number value at) stray = one-misses (Number value at) stray
  value-allows (Read' family shape indexes at) stray = one-misses (Read' family shape indexes at) stray
  value-allows (Var var at) stray = one-misses (Var var at) stray
  value-allows (Loop value at) stray = one-misses (Loop value at) stray
  value-allows (Constant list value at) stray = one-misses (Constant list value at) stray
  value-allows (Not' shape e at) stray = one-misses (Not' shape e at) stray
  value-allows (And' shape parts) stray = one-misses (And' shape parts) stray
  value-allows (Or' shape parts) stray = one-misses (Or' shape parts) stray
  value-allows (Implies' shape parts) stray = one-misses (Implies' shape parts) stray
  value-allows (Iff' l left r right) stray = one-misses (Iff' l left r right) stray
  value-allows (Compare' op l left r right) stray = one-misses (Compare' op l left r right) stray
  value-allows (Within' l left r set) stray = one-misses (Within' l left r set) stray
  value-allows (Sum' f head shape more) stray = one-misses (Sum' f head shape more) stray
  value-allows (Modulo' shape e by at) stray = one-misses (Modulo' shape e by at) stray
  value-allows (All' shape body var each at) stray = one-misses (All' shape body var each at) stray
  value-allows (Any' shape body var each at) stray = one-misses (Any' shape body var each at) stray

pub values_allow : StraysRuleNothingOut
values_allow n s over e b stray = value-allows n s over b e stray

pub sets_allow : SetsWithStraysRuleNothingOut
sets_allow n s over (List' shape members at) b stray = fit-miss (values_in n over) (flat_members n s members b) (members-miss n s over b members stray)
sets_allow n s over _ b stray = absurd stray
