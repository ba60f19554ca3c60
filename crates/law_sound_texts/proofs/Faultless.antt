-- What a design without a fault of loops and of layers has, and its base definitions.
use Rattle.std.proofs.Common.{◌≡◌, ℕ, ◌<◌, ◌≤◌, List, [], ◌∷◌, ◌++◌, filter, length, Option, Some, None, Bool, true, false, not, ◌&&◌, ◌||◌, cond, refl, sym, ap, subst, ◌∙◌, ◌⊎◌, inl, inr, slice_get, option_to_list, is_none, nat_eq, nat_lt, arith}
use Rattle.std.specs.List.{flat_map, list_any}
use Rattle.std.proofs.lemmas.List.{append-nil, append_assoc}
use Rattle.std.proofs.lemmas.Bool.Decides.{nat_tests}
use Rattle.std.proofs.lemmas.Bool.{and_from}
use Rattle.law_lists.proofs.Booleans.{clash, left_of, right_of}
use Rattle.law_lists.proofs.Lists.{map-nil}
use Rattle.law_lists.proofs.Options.{some_is}
use Rattle.law_lists.proofs.Numbers.{nat_eq-is}
use Rattle.smv_core.specs.Values.{numbers_from}
use Rattle.smv_core.specs.declared.fault.Fault.{Fault}
use Rattle.smv_core.specs.declared.flat.Family.{Family}
use Rattle.smv_core.specs.declared.flat.Cell.{Cell}
use Rattle.smv_core.specs.declared.flat.Def.{Def}
use Rattle.smv_core.specs.declared.flat.Design.{Design}
use Rattle.smv_mentions.specs.FirstFault.{comes_before, earlier as earlier_fault, faults_at}
use Rattle.law_obligations.specs.Sets.{Has, first, later}
use Rattle.law_obligations.specs.Outlines.{earlier, earliest, may_be_base, base_of, bases}
use Rattle.law_obligations.proofs.Members.{Has-left, Has-right, Has-cases, Has-flat_map, any-some}
use Rattle.law_obligations.proofs.OneOfEach.{Has-from_flat_map}
use Rattle.law_obligations.proofs.Lookups.{Has-filter, Has-from_filter}
use Rattle.law_obligations.proofs.Same.{nat_eq-itself}
use Rattle.law_designs.specs.Reading.{Reference, Reading, readings}
use Rattle.law_designs.specs.Loops as delay
use Rattle.law_designs.specs.Loops.{Edge, edges_of, hold_a_cycle, is_behind, is_base, put, in_order, undelayed, undelayed_in, closing, looping}
use Rattle.law_designs.specs.LayerFaults.{is_abstract, assignments_of, outside_layers, leaking, assigned_outside}
use Rattle.law_designs.specs.FirstFault.{first_fault_of_loops, first_fault_of_layers, first_fault_of_design}
use Rattle.law_designs.specs.LoopLaws.{AreFalling}
use Rattle.law_designs.proofs.Faultless.{no_fault-in}
use Rattle.law_flat_kinds.proofs.Lists.{none_passes, some_or_none}
use Rattle.law_sound_texts.proofs.Results.{reading_is}
use Rattle.law_flat_kinds.proofs.NoFaults.{nil-left, nil-right, none-both}

-- ---- no faults

no-earlier : (f : Fault) (o : Option Fault) → earlier_fault f o ≡ None → ⊥
no-earlier f None e = cc
no-earlier f (Some g) e = by_test (comes_before g f) e
  where
    by_test : (b : Bool) → cond b (Some g) (Some f) ≡ None → ⊥
    by_test true e = cc
    by_test false e = cc

pub record IsFaultless (d : Design) : Type 0 where
  pub no_loops : looping d ≡ []
  pub no_leaks : leaking d ≡ []
  pub none_outside : assigned_outside d ≡ []

pub is_faultless : (d : Design) → first_fault_of_design d ≡ None → IsFaultless d
is_faultless d e =
    let both : (first_fault_of_loops d ≡ None) × (first_fault_of_layers d ≡ None) = none-both (first_fault_of_loops d) (first_fault_of_layers d) e in
    let loops : faults_at (18, looping d) ≡ [] = no_fault-in (faults_at (18, looping d)) both.0 in
    let layers : faults_at (19, leaking d) ++ (faults_at (20, assigned_outside d) ++ []) ≡ [] = no_fault-in _ both.1 in
    record {
      no_loops = map-nil _ (looping d) loops;
      no_leaks = map-nil _ (leaking d) (nil-left (faults_at (19, leaking d)) (faults_at (20, assigned_outside d) ++ []) layers);
      none_outside = map-nil _ (assigned_outside d) (nil-left (faults_at (20, assigned_outside d)) [] (nil-right (faults_at (19, leaking d)) (faults_at (20, assigned_outside d) ++ []) layers));
    }

-- ---- the edges hold no cycle

-- what the law of orders gives
abbrev pub HaveOrder : Type 0
HaveOrder = (edges : List Edge) → hold_a_cycle edges ≡ false → (rank : Cell → ℕ) × AreFalling rank edges

none-closes : (d : Design) (edges : List Edge) (as' : List Reading) → hold_a_cycle edges ≡ false → closing d edges as' ≡ [] → hold_a_cycle (edges ++ flat_map (edges_of d) as') ≡ false
none-closes d edges [] h e = subst (λ l. hold_a_cycle l ≡ false) (sym (append-nil edges)) h
none-closes d edges (a ∷ more) h e = by_test (hold_a_cycle (edges ++ edges_of d a)) refl e (none-closes d (edges ++ edges_of d a) more)
  where
    by_test : (b : Bool) → hold_a_cycle (edges ++ edges_of d a) ≡ b → cond b (a.at ∷ []) (closing d (edges ++ edges_of d a) more) ≡ [] →
        (hold_a_cycle (edges ++ edges_of d a) ≡ false → closing d (edges ++ edges_of d a) more ≡ [] → hold_a_cycle (edges ++ edges_of d a ++ flat_map (edges_of d) more) ≡ false) →
        hold_a_cycle (edges ++ (edges_of d a ++ flat_map (edges_of d) more)) ≡ false
    by_test true h e rest = absurd (cc (e))
    by_test false h e rest = subst (λ l. hold_a_cycle l ≡ false) (append_assoc edges (edges_of d a) (flat_map (edges_of d) more)) (rest h e)

falls-at : (rank : Cell → ℕ) (edges : List Edge) → AreFalling rank edges → (edge : Edge) → Has edges edge → rank edge.1 < rank edge.0
falls-at rank [] f edge h = elim h [ ]
falls-at rank (edge ∷ edges) f _ first = f.0
falls-at rank (edge ∷ edges) f other (later h) = falls-at rank edges f.1 other h

-- the edges of undelayed base assignments fall
abbrev pub Falls : Design → (Cell → ℕ) → Type 0
Falls d rank = (a : Reading) → Has (undelayed_in d) a → (edge : Edge) → Has (edges_of d a) edge → rank edge.1 < rank edge.0

pub has_order : (d : Design) → HaveOrder → IsFaultless d → (rank : Cell → ℕ) × Falls d rank
has_order d order h =
    let r : (rank : Cell → ℕ) × AreFalling rank (flat_map (edges_of d) (undelayed_in d)) = order (flat_map (edges_of d) (undelayed_in d)) (none-closes d [] (undelayed_in d) refl h.no_loops) in
    (r.0, λ a k edge m. falls-at r.0 (flat_map (edges_of d) (undelayed_in d)) r.1 edge (Has-flat_map (edges_of d) k m))

-- ---- flat order

put-here : (a : Reading) (bs : List Reading) → Has (put a bs) a
put-here a [] = first
put-here a (b ∷ more) = by_test (nat_lt a.place b.place) (put-here a more)
  where
    by_test : (c : Bool) → Has (put a more) a → Has (cond c (a ∷ b ∷ more) (b ∷ put a more)) a
    by_test true h = first
    by_test false h = later h

put-later : (a : Reading) (bs : List Reading) (x : Reading) → Has bs x → Has (put a bs) x
put-later a [] x h = elim h [ ]
put-later a (b ∷ more) x h = by_test (nat_lt a.place b.place) h (put-later a more)
  where
    behind : (x : Reading) → Has (b ∷ more) x → ((x : Reading) → Has more x → Has (put a more) x) → Has (b ∷ put a more) x
    behind _ first rest = first
    behind x (later h) rest = later (rest x h)

    by_test : (c : Bool) → Has (b ∷ more) x → ((x : Reading) → Has more x → Has (put a more) x) → Has (cond c (a ∷ b ∷ more) (b ∷ put a more)) x
    by_test true h rest = later h
    by_test false h rest = behind x h rest

in_order-Has : (as' : List Reading) (a : Reading) → Has as' a → Has (in_order as') a
in_order-Has [] a h = elim h [ ]
in_order-Has (b ∷ more) _ first = put-here b (in_order more)
in_order-Has (b ∷ more) a (later h) = put-later b (in_order more) a (in_order-Has more a h)

-- ---- the earliest definition

abbrev IsLeast : List Def → Def → Type 0
IsLeast defs e = Has defs e × ((x : Def) → Has defs x → e.place ≤ x.place)

least-cons : (y : Def) (defs : List Def) (g : Def) → g.place ≤ y.place → ((x : Def) → Has defs x → g.place ≤ x.place) → (x : Def) → Has (y ∷ defs) x → g.place ≤ x.place
least-cons y defs g p q _ first = p
least-cons y defs g p q x (later k) = q x k

none-earliest : (defs : List Def) → earliest defs ≡ None → (x : Def) → Has defs x → ⊥
none-earliest [] e x h = elim h [ ]
none-earliest (y ∷ defs) e x h = cc (e)

earliest-is : (defs : List Def) (e : Def) → earliest defs ≡ Some e → IsLeast defs e
earliest-is [] e h = absurd (cc (h))
earliest-is (y ∷ defs) e h = by_other (earliest defs) refl (some_is h) (earliest-is defs)
  where
    pick : (f : Def) (b : Bool) → nat_lt f.place y.place ≡ b → IsLeast defs f → IsLeast (y ∷ defs) (cond b f y)
    pick f true q r = (later r.0, least-cons y defs f (let l : f.place < y.place = grind (arith, nat_tests) in omega (arith, l)) r.1)
    pick f false q r =
        let l : y.place ≤ f.place = grind (arith, nat_tests) in
        (first, least-cons y defs y (omega arith) (λ x k. let m : f.place ≤ x.place = r.1 x k in omega (arith, l, m)))

    by_other : (o : Option Def) → earliest defs ≡ o → earlier y o ≡ e → ((f : Def) → earliest defs ≡ Some f → IsLeast defs f) → IsLeast (y ∷ defs) e
    by_other None none same rest = subst (IsLeast (y ∷ defs)) same (first, least-cons y defs y (omega arith) (λ x k. absurd (none-earliest defs none x k)))
    by_other (Some f) some same rest = subst (IsLeast (y ∷ defs)) same (pick f (nat_lt f.place y.place) refl (rest f some))

-- ---- base definitions

-- a base definition: of a family of the design, and each of its undelayed assignments has its edges among those that hold no cycle; outside abstract families it
-- is outside layers and reads none of them
pub record IsBase (d : Design) (def : Def) : Type 0 where
  pub its_family : Family
  pub is_there : slice_get d.families def.family ≡ Some its_family
  pub is_def_of : Has d.defs def
  pub is_base_of : base_of d def.family ≡ Some def
  pub is_undelayed : (a : Reading) → Has (undelayed def) a → Has (undelayed_in d) a
  pub is_outside : is_abstract d (slice_get d.families def.family) ≡ false → is_none def.layer ≡ true
  pub reads_none : is_abstract d (slice_get d.families def.family) ≡ false → (a : Reading) → Has (assignments_of def) a → (r : Reference) → Has a.reads r → is_abstract d (slice_get d.families r.family) ≡ false

-- an assignment of a definition is of its family
pub is_its : (def : Def) (a : Reading) → Has (assignments_of def) a → a.family ≡ def.family
is_its def a h = elim (Has-cases (readings def.family [] def.init ++ readings def.family [] def.next) (readings def.family [] def.comb) h) [
  | inl k ↦ elim (Has-cases (readings def.family [] def.init) (readings def.family [] def.next) k) [
    | inl m ↦ (reading_is def.family [] def.init a m).is_of
    | inr m ↦ (reading_is def.family [] def.next a m).is_of
  ]
  | inr k ↦ (reading_is def.family [] def.comb a k).is_of
]

pub undelayed-assigned : (def : Def) (a : Reading) → Has (undelayed def) a → Has (assignments_of def) a
undelayed-assigned def a h = elim (Has-cases (readings def.family [] def.comb) (readings def.family [] def.init) h) [
  | inl k ↦ Has-right (readings def.family [] def.init ++ readings def.family [] def.next) k
  | inr k ↦ Has-left (readings def.family [] def.comb) (Has-left (readings def.family [] def.next) k)
]

-- the tests of the two ways to say what may be a base definition
delayed-may : (is_abstract is_outside : Bool) → cond is_abstract (not is_outside) is_outside ≡ true → (is_abstract || is_outside) ≡ true
delayed-may true b e = refl
delayed-may false b e = e

may-cases : (is_abstract is_outside : Bool) → (is_abstract || is_outside) ≡ true → (cond is_abstract (not is_outside) is_outside ≡ true) ⊎ ((is_abstract ≡ true) × (is_outside ≡ true))
may-cases true true e = inr (refl, refl)
may-cases true false e = inl refl
may-cases false b e = inl e

module _ (d : Design) (h : IsFaultless d) where
  -- an assignment of a definition outside layers is of no abstract signal, and reads none
  outside-is : (def : Def) → Has d.defs def → is_none def.layer ≡ true → (a : Reading) → Has (assignments_of def) a →
      (is_abstract d (slice_get d.families a.family) ≡ false) × ((r : Reference) → Has a.reads r → is_abstract d (slice_get d.families r.family) ≡ false)
  outside-is def k e a m =
      let there : Has (outside_layers d) a = Has-flat_map assignments_of (Has-filter (λ (def : Def). is_none def.layer) k e) m in (
        none_passes (λ (a : Reading). is_abstract d (slice_get d.families a.family)) (outside_layers d) (map-nil _ _ h.none_outside) a there,
        λ r i. none_passes (λ (r : Reference). is_abstract d (slice_get d.families r.family)) (flat_map (λ (a : Reading). a.reads) (outside_layers d)) (map-nil _ _ h.no_leaks) r (Has-flat_map (λ (a : Reading). a.reads) there i),
      )

  family-is : (family : ℕ) (def : Def) → Has d.defs def → (o : Option Family) → slice_get d.families family ≡ o → may_be_base d family o def ≡ true →
      (f : Family) × (slice_get d.families family ≡ Some f) × (def.family ≡ family) × ((f.is_abstract || is_none def.layer) ≡ true)
  family-is family def k None e t = absurd (cc (t))
  family-is family def k (Some f) e t = (f, e, nat_eq-is def.family family (left_of (nat_eq def.family family) (f.is_abstract || is_none def.layer) t), right_of (nat_eq def.family family) (f.is_abstract || is_none def.layer) t)

  candidate : (family : ℕ) (other : Def) → other.family ≡ family → (o : Option Family) → delay.may_be_base d o other ≡ true → may_be_base d family o other ≡ true
  candidate family other same None t = absurd (cc (t))
  candidate family other same (Some f) t = and_from (nat_eq other.family family) (f.is_abstract || is_none other.layer) (subst (λ k. nat_eq other.family k ≡ true) same (nat_eq-itself other.family)) (delayed-may f.is_abstract (is_none other.layer) t)

  not-behind : (def : Def) → ((x : Def) → Has (filter (may_be_base d def.family (slice_get d.families def.family)) d.defs) x → def.place ≤ x.place) → list_any (is_behind d def) d.defs ≡ false
  not-behind def least = none (some_or_none (is_behind d def) d.defs) (λ e. any-some (is_behind d def) d.defs e)
    where
      no : (other : Def) → Has d.defs other → is_behind d def other ≡ true → ⊥
      no other k t =
          let same : other.family ≡ def.family = nat_eq-is other.family def.family (left_of (nat_eq other.family def.family) _ t) in
          let rest : (nat_lt other.place def.place && delay.may_be_base d (slice_get d.families other.family) other) ≡ true = right_of (nat_eq other.family def.family) _ t in
          let before : nat_lt other.place def.place ≡ true = left_of (nat_lt other.place def.place) _ rest in
          let may : delay.may_be_base d (slice_get d.families other.family) other ≡ true = right_of (nat_lt other.place def.place) _ rest in
          let l : def.place ≤ other.place = least other (Has-filter (may_be_base d def.family (slice_get d.families def.family)) k (candidate def.family other same (slice_get d.families def.family) (subst (λ k. delay.may_be_base d (slice_get d.families k) other ≡ true) same may))) in
          let m : other.place < def.place = grind (arith, nat_tests) in
          omega (arith, l, m)

      none : ((x : Def) × Has d.defs x × (is_behind d def x ≡ true)) ⊎ ((x : Def) → Has d.defs x → is_behind d def x ≡ false) → (list_any (is_behind d def) d.defs ≡ true → (x : Def) × Has d.defs x × (is_behind d def x ≡ true)) → list_any (is_behind d def) d.defs ≡ false
      none o found = by_test (list_any (is_behind d def) d.defs) refl
        where
          by_test : (b : Bool) → list_any (is_behind d def) d.defs ≡ b → list_any (is_behind d def) d.defs ≡ false
          by_test true e = let r = found e in absurd (no r.0 r.1 r.2)
          by_test false e = e

  base-at : (def : Def) → base_of d def.family ≡ Some def → IsBase d def
  base-at def e =
      let r : IsLeast (filter (may_be_base d def.family (slice_get d.families def.family)) d.defs) def = earliest-is (filter (may_be_base d def.family (slice_get d.families def.family)) d.defs) def e in
      let there : Has d.defs def × (may_be_base d def.family (slice_get d.families def.family) def ≡ true) = Has-from_filter (may_be_base d def.family (slice_get d.families def.family)) d.defs r.0 in
      let f : (f : Family) × (slice_get d.families def.family ≡ Some f) × (def.family ≡ def.family) × ((f.is_abstract || is_none def.layer) ≡ true) = family-is def.family def there.0 (slice_get d.families def.family) refl there.1 in
      record {
        its_family = f.0;
        is_there = f.1;
        is_def_of = there.0;
        is_base_of = e;
        is_undelayed = λ a m. by_cases f.0 f.1 there.0 r.1 (may-cases f.0.is_abstract (is_none def.layer) f.3) a m;
        is_outside = λ no. outside f.0 f.3 (ap (λ o. is_abstract d o) (sym f.1) ∙ no);
        reads_none = λ no a m i k. (outside-is def there.0 (outside f.0 f.3 (ap (λ o. is_abstract d o) (sym f.1) ∙ no)) a m).1 i k;
      }
    where
      outside : (f : Family) → (f.is_abstract || is_none def.layer) ≡ true → f.is_abstract ≡ false → is_none def.layer ≡ true
      outside f t e = by_test f.is_abstract e t
        where
          by_test : (b : Bool) → b ≡ false → (b || is_none def.layer) ≡ true → is_none def.layer ≡ true
          by_test true e t = absurd (cc (e))
          by_test false e t = t

      by_cases : (f : Family) → slice_get d.families def.family ≡ Some f → Has d.defs def → ((x : Def) → Has (filter (may_be_base d def.family (slice_get d.families def.family)) d.defs) x → def.place ≤ x.place) →
          (cond f.is_abstract (not (is_none def.layer)) (is_none def.layer) ≡ true) ⊎ ((f.is_abstract ≡ true) × (is_none def.layer ≡ true)) → (a : Reading) → Has (undelayed def) a → Has (undelayed_in d) a
      by_cases f there k least (inl t) a m =
          let marked : is_base d def ≡ true = and_from (delay.may_be_base d (slice_get d.families def.family) def) (not (list_any (is_behind d def) d.defs)) (subst (λ o. delay.may_be_base d o def ≡ true) (sym there) t) (ap not (not-behind def least)) in
          in_order-Has (flat_map undelayed (filter (is_base d) d.defs)) a (Has-flat_map undelayed (Has-filter (is_base d) k marked) m)
      by_cases f there k least (inr t) a m =
          absurd (clash (subst (λ o. is_abstract d o ≡ true) (sym there) t.0)
          (subst (λ k. is_abstract d (slice_get d.families k) ≡ false) (is_its def a (undelayed-assigned def a m)) (outside-is def k t.1 a (undelayed-assigned def a m)).0))

  -- the base definition of a family is of it, and is one
  pub base_by : (family : ℕ) (def : Def) → base_of d family ≡ Some def → (def.family ≡ family) × IsBase d def
  base_by family def e =
      let k : IsLeast (filter (may_be_base d family (slice_get d.families family)) d.defs) def = earliest-is (filter (may_be_base d family (slice_get d.families family)) d.defs) def e in
      let there : Has d.defs def × (may_be_base d family (slice_get d.families family) def ≡ true) = Has-from_filter (may_be_base d family (slice_get d.families family)) d.defs k.0 in
      let same : def.family ≡ family = (family-is family def there.0 (slice_get d.families family) refl there.1).2 in
      (same, base-at def (subst (λ k. base_of d k ≡ Some def) (sym same) e))

  -- so is each base definition of the design
  pub base_is : (def : Def) → Has (bases d) def → IsBase d def
  base_is def h =
      let r : (family : ℕ) × Has (numbers_from 0 (length d.families)) family × Has (option_to_list (base_of d family)) def = Has-from_flat_map (λ family. option_to_list (base_of d family)) (numbers_from 0 (length d.families)) h in
      (base_by r.0 def (held (base_of d r.0) r.2)).1
    where
      only : (x y : Def) → Has (x ∷ []) y → Some x ≡ Some y
      only x _ first = refl
      only x y (later h) = elim h [ ]

      held : (o : Option Def) → Has (option_to_list o) def → o ≡ Some def
      held None h = elim h [ ]
      held (Some other) h = only other def h
