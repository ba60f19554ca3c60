-- Why what mentions none of some elements reads none of them.
use Rattle.std.proofs.Common.{◌≡◌, ℕ, List, [], ◌∷◌, ◌++◌, map, Option, Some, None, Bool, true, false, not, ◌&&◌, ◌||◌, if◌then◌else◌, nat_eq, inl, inr, refl, sym, subst}
use Rattle.std.proofs.lemmas.Bool.{cases_Bool}
use Rattle.std.specs.List.{flat_map, zip, list_any, slice_get}
use Rattle.law_lists.proofs.Booleans.{clash, left_of, not_left, not_right, and_both}
use Rattle.smv_core.specs.Values.{Value, number, constant, scalar, ordinal}
use Rattle.smv_core.specs.Assignments.{Index, fixed, bare, computed}
use Rattle.smv_core.specs.FlatMeaning.{flat_index}
use Rattle.smv_core.specs.declared.flat.Family.{Family}
use Rattle.smv_core.specs.declared.flat.Class.{Class}
use Rattle.smv_core.specs.declared.flat.Element.{Element}
use Rattle.smv_core.specs.declared.flat.FlatMember.{One, Span as SpanOf}
use Rattle.smv_core.specs.declared.flat.FlatExpr.{FlatExpr, Number, Read', Var, Loop, Constant, Not', And', Or', Implies', Iff', Compare', Within', Sum', Modulo', Choose', All', Any', List', Each', Held-FlatExpr-Each-2, None', Some', Row_of-FlatExpr, end_of-FlatExpr, more_of-FlatExpr, Row_of-FlatMember, end_of-FlatMember, more_of-FlatMember, Row_of-FlatSigned, end_of-FlatSigned, more_of-FlatSigned}
use Rattle.smv_core.specs.declared.flat.DefBody.{DefBody, Nothing, Assign, If', First', Forall', Row_of-DefBody, end_of-DefBody, more_of-DefBody}
use Rattle.law_obligations.specs.Sets.{Has, one_of_each}
use Rattle.law_obligations.specs.Places.{Place, named, same_place, World, named_in, places_in, bind_place}
use Rattle.law_obligations.specs.Results.{is_elsewhere}
use Rattle.law_obligations.specs.Reads.{indexes_read, reads, reads_each, reads_signed, reads_members, reads_held, has_counting, have_counting, parts_read}
use Rattle.law_obligations.specs.Cones.{AbsElement, element, same_element, same_places, index_places}
use Rattle.law_obligations.proofs.ConeFacts.{same_element-indexes}
use Rattle.law_obligations.proofs.Lookups.{Has-tested, Has-from_filter}
use Rattle.law_obligations.proofs.Members.{Has-from_map, any-found, any-some}
use Rattle.law_obligations.proofs.OneOfEach.{AreOf, are_of, Has-from_flat_map}
use Rattle.law_obligations.proofs.ReadsWithin.{either}
use Rattle.law_obligations.proofs.Same.{nat_eq-itself, same_place-is}
use Rattle.law_reads.specs.Reading.{known_at, may_be_of, each_given, elements_given_in, elements_given, read_in, read_of}
use Rattle.smv_problem.specs.Written.{written_class, written_element}
use Rattle.smv_may_read.specs.Mentions.{is_class, may_lie, may_be_at, may_be_one, mentioned, each_mentioned, signed_mentioned, members_mentioned, condition_mentioned, mentions, inside_mentioned, parts_mentioned, mentions_inside}
use Rattle.smv_may_read.proofs.LeftLaws.{at-nil, at-none}

-- ---- tests

neither : {a b : Bool} → a ≡ false → b ≡ false → a || b ≡ false
neither p q = cc

other_part : {a b : Bool} → a ≡ true → a && b ≡ false → b ≡ false
other_part p q = cc

other_of : {a b : Bool} → a ≡ false → a || b ≡ true → b ≡ true
other_of p q = cc

is_not : (b : Bool) → not b ≡ true → b ≡ false
is_not true e = absurd (cc)
is_not false e = refl

is_so : (b : Bool) → not b ≡ false → b ≡ true
is_so true e = refl
is_so false e = absurd (cc)

none_in : {X : Type 0} (f : X → Bool) (xs : List X) → list_any f xs ≡ false → (x : X) → Has xs x → f x ≡ false
none_in f xs e x h = elim (cases_Bool (f x)) [
  | inl t ↦ absurd (clash (any-found f h t) e)
  | inr t ↦ t
]

-- ---- where an index may lie

own_class : (v : Value) → is_class v (written_class (named v)) ≡ true
own_class (number n) = nat_eq-itself n
own_class (constant name) = refl
own_class (scalar t k) = refl
own_class (ordinal t k) = refl

at_constant : (v : Value) (p : Place) → same_place (named v) p ≡ true → is_class v (written_class p) ≡ true
at_constant v p e = subst (λ (q : Place). is_class v (written_class q) ≡ true) (same_place-is (named v) p e) (own_class v)

module _ (b : List Place) where
  lies : (i : Index) (ps : List Place) (p : Place) → Has (index_places b i ps) p → may_lie i (written_class p) ≡ true
  lies (fixed None) ps p h = refl
  lies (fixed (Some v)) ps p h = at_constant v p (Has-from_filter (same_place (named v)) ps h).1
  lies (bare var) ps p h = refl
  lies computed ps p h = refl

  given_at : (is : List Index) (pss : List (List Place)) (ps : List Place) → AreOf (each_given b is pss) ps → may_be_at is (map written_class ps) ≡ true
  given_at [] pss ps h = at-nil (map written_class ps)
  given_at (i ∷ is) pss [] h = at-none (i ∷ is)
  given_at (i ∷ is) [] (p ∷ ps) h = elim h [ ]
  given_at (i ∷ is) (l ∷ pss) (p ∷ ps) h = and_both (lies i l p h.0) (given_at is pss ps h.1)

  own_lies : (i : Index) (q : Place) → is_elsewhere (known_at b i) q ≡ false → may_lie i (written_class q) ≡ true
  own_lies (fixed None) q e = refl
  own_lies (fixed (Some v)) q e = at_constant v q (is_so (same_place (named v) q) e)
  own_lies (bare var) q e = refl
  own_lies computed q e = refl

  own_at : (is : List Index) (qs : List Place) → list_any (λ (i, q). is_elsewhere (known_at b i) q) (zip is qs) ≡ false → may_be_at is (map written_class qs) ≡ true
  own_at [] qs e = at-nil (map written_class qs)
  own_at (i ∷ is) [] e = at-none (i ∷ is)
  own_at (i ∷ is) (q ∷ qs) e =
      and_both (own_lies i q (not_left (is_elsewhere (known_at b i) q) (list_any (λ (i, q). is_elsewhere (known_at b i) q) (zip is qs)) e))
      (own_at is qs (not_right (is_elsewhere (known_at b i) q) (list_any (λ (i, q). is_elsewhere (known_at b i) q) (zip is qs)) e))

-- ---- references

others : (family : ℕ) (is : List Index) (ps : List Place) → may_be_at is (map written_class ps) ≡ true → (xs : List AbsElement) → may_be_one (map written_element xs) family is ≡ false → list_any (same_element (element family ps)) xs ≡ false
others family is ps at [] e = refl
others family is ps at (x ∷ xs) e =
    neither (elim (cases_Bool (same_element (element family ps) x)) [ inl t ↦ absurd (clash (one t) (not_left first_one (may_be_one (map written_element xs) family is) e)) | inr t ↦ t ])
    (others family is ps at xs (not_right first_one (may_be_one (map written_element xs) family is) e))
  where
    first_one : Bool
    first_one = nat_eq family x.family && may_be_at is (map written_class x.indexes)

    one : same_element (element family ps) x ≡ true → nat_eq family x.family && may_be_at is (map written_class x.indexes) ≡ true
    one t =
        and_both (left_of (nat_eq family x.family) (same_places ps x.indexes) t)
        (subst (λ (qs : List Place). may_be_at is (map written_class qs) ≡ true) (same_element-indexes (element family ps) x t) at)

module _ (w : World) (xs : List AbsElement) where
  abbrev IsOther : AbsElement → Type 0
  IsOther y = list_any (same_element y) xs ≡ false

  abbrev es : List Element
  es = map written_element xs

  reference : (family : ℕ) (is : List Index) → may_be_one es family is ≡ false → (b : List Place) (y : AbsElement) → Has (elements_given w family is b) y → IsOther y
  reference family is e b y h = by (slice_get w.classes.families family) h
    where
      by : (o : Option Family) → Has (elements_given_in w family is b o) y → IsOther y
      by None h = elim h [ ]
      by (Some f) h =
          let r = Has-from_map (element family) (one_of_each (each_given b is (map (named_in w) f.over))) h in
          subst IsOther (sym r.2) (others family is r.0 (given_at b is (map (named_in w) f.over) r.0 (are_of (each_given b is (map (named_in w) f.over)) r.0 r.1)) xs e)

  -- ---- expressions

  abbrev read_at : FlatExpr → List Place → List AbsElement
  read_at e b = reads (places_in w) (elements_given w) e b

  mutual
    none_read : (e : FlatExpr) → mentioned es e ≡ false → (b : List Place) (y : AbsElement) → Has (read_at e b) y → IsOther y
    none_read (Number value at) m b y h = elim h [ ]
    none_read (Read' family shape indexes at) m b y h =
        either (elements_given w family (indexes_read indexes) b) (reads_each (places_in w) (elements_given w) indexes b) h
        (reference family (indexes_read indexes) (not_left (may_be_one es family (indexes_read indexes)) (each_mentioned es indexes) m) b y)
        (none_each indexes (not_right (may_be_one es family (indexes_read indexes)) (each_mentioned es indexes) m) b y)
    none_read (Var var at) m b y h = elim h [ ]
    none_read (Loop value at) m b y h = elim h [ ]
    none_read (Constant list value at) m b y h = elim h [ ]
    none_read (Not' shape (more_of-FlatExpr e end_of-FlatExpr) at) m b y h = none_read e m b y h
    none_read (And' shape parts) m b y h = none_each parts m b y h
    none_read (Or' shape parts) m b y h = none_each parts m b y h
    none_read (Implies' shape parts) m b y h = none_each parts m b y h
    none_read (Iff' l (more_of-FlatExpr left end_of-FlatExpr) r (more_of-FlatExpr right end_of-FlatExpr)) m b y h =
        either (read_at left b) (read_at right b) h (none_read left (not_left (mentioned es left) (mentioned es right) m) b y) (none_read right (not_right (mentioned es left) (mentioned es right) m) b y)
    none_read (Compare' op l (more_of-FlatExpr left end_of-FlatExpr) r (more_of-FlatExpr right end_of-FlatExpr)) m b y h =
        either (read_at left b) (read_at right b) h (none_read left (not_left (mentioned es left) (mentioned es right) m) b y) (none_read right (not_right (mentioned es left) (mentioned es right) m) b y)
    none_read (Within' l (more_of-FlatExpr left end_of-FlatExpr) r (more_of-FlatExpr set end_of-FlatExpr)) m b y h =
        either (read_at left b) (read_at set b) h (none_read left (not_left (mentioned es left) (mentioned es set) m) b y) (none_read set (not_right (mentioned es left) (mentioned es set) m) b y)
    none_read (Sum' f (more_of-FlatExpr head end_of-FlatExpr) shape more) m b y h =
        either (read_at head b) (reads_signed (places_in w) (elements_given w) more b) h (none_read head (not_left (mentioned es head) (signed_mentioned es more) m) b y)
        (none_signed more (not_right (mentioned es head) (signed_mentioned es more) m) b y)
    none_read (Modulo' shape (more_of-FlatExpr e end_of-FlatExpr) by at) m b y h = none_read e m b y h
    none_read (Choose' c (more_of-FlatExpr cond end_of-FlatExpr) l (more_of-FlatExpr left end_of-FlatExpr) r (more_of-FlatExpr right end_of-FlatExpr)) m b y h =
        let rest : mentioned es left || mentioned es right ≡ false = not_right (mentioned es cond) (mentioned es left || mentioned es right) m in
        either (read_at cond b ++ read_at left b) (read_at right b) h
        (λ k. either (read_at cond b) (read_at left b) k (none_read cond (not_left (mentioned es cond) (mentioned es left || mentioned es right) m) b y) (none_read left (not_left (mentioned es left) (mentioned es right) rest) b y))
        (none_read right (not_right (mentioned es left) (mentioned es right) rest) b y)
    none_read (All' shape (more_of-FlatExpr body end_of-FlatExpr) var over at) m b y h = let r = Has-from_flat_map (λ p. read_at body (bind_place b var p)) (places_in w over) h in none_read body m (bind_place b var r.0) y r.2
    none_read (Any' shape (more_of-FlatExpr body end_of-FlatExpr) var over at) m b y h = let r = Has-from_flat_map (λ p. read_at body (bind_place b var p)) (places_in w over) h in none_read body m (bind_place b var r.0) y r.2
    none_read (List' shape members at) m b y h = none_members members m b y h
    none_read (Each' var over cond at) m b y h = let r = Has-from_flat_map (λ p. reads_held (places_in w) (elements_given w) cond (bind_place b var p)) (places_in w over) h in none_held cond m (bind_place b var r.0) y r.2

    none_each : {m : _} (row : Row_of-FlatExpr m) → each_mentioned es row ≡ false → (b : List Place) (y : AbsElement) → Has (reads_each (places_in w) (elements_given w) row b) y → IsOther y
    none_each end_of-FlatExpr m b y h = elim h [ ]
    none_each (more_of-FlatExpr e rest) m b y h =
        either (read_at e b) (reads_each (places_in w) (elements_given w) rest b) h (none_read e (not_left (mentioned es e) (each_mentioned es rest) m) b y) (none_each rest (not_right (mentioned es e) (each_mentioned es rest) m) b y)

    none_signed : {m : _} (row : Row_of-FlatSigned m) → signed_mentioned es row ≡ false → (b : List Place) (y : AbsElement) → Has (reads_signed (places_in w) (elements_given w) row b) y → IsOther y
    none_signed end_of-FlatSigned m b y h = elim h [ ]
    none_signed (more_of-FlatSigned minus e rest) m b y h =
        either (read_at e b) (reads_signed (places_in w) (elements_given w) rest b) h (none_read e (not_left (mentioned es e) (signed_mentioned es rest) m) b y) (none_signed rest (not_right (mentioned es e) (signed_mentioned es rest) m) b y)

    none_members : {m : _} (row : Row_of-FlatMember m) → members_mentioned es row ≡ false → (b : List Place) (y : AbsElement) → Has (reads_members (places_in w) (elements_given w) row b) y → IsOther y
    none_members end_of-FlatMember m b y h = elim h [ ]
    none_members (more_of-FlatMember (One e) rest) m b y h =
        either (read_at e b) (reads_members (places_in w) (elements_given w) rest b) h (none_read e (not_left (mentioned es e) (members_mentioned es rest) m) b y) (none_members rest (not_right (mentioned es e) (members_mentioned es rest) m) b y)
    none_members (more_of-FlatMember (SpanOf span at) rest) m b y h = none_members rest m b y h

    none_held : (cond : Held-FlatExpr-Each-2) → condition_mentioned es cond ≡ false → (b : List Place) (y : AbsElement) → Has (reads_held (places_in w) (elements_given w) cond b) y → IsOther y
    none_held None' m b y h = elim h [ ]
    none_held (Some' shape (more_of-FlatExpr cond end_of-FlatExpr)) m b y h = none_read cond m b y h

  pub others_read : (e : FlatExpr) → mentions es e ≡ false → (b : List Place) (y : AbsElement) → Has (read_in w e b) y → IsOther y
  unfolding mentions
  others_read e m b y h = none_read e m b y h

  -- ---- definitions

  module _ (indexes : List Place) where
    abbrev own : List Class
    own = map written_class indexes

    abbrev counts_at : DefBody → List Place → Bool
    counts_at part b = has_counting (places_in w) (may_be_of indexes) part b

    -- an assignment that counts stands under no condition that mentions one, and what is read is none of them
    record Reads (t : Bool) (counts : Bool) (ys : List AbsElement) : Type 0 where
      around : counts ≡ true → t ≡ false
      others : (y : AbsElement) → Has ys y → IsOther y

    mutual
      none_inside : (t : Bool) (part : DefBody) → inside_mentioned es own t part ≡ false → (b : List Place) → Reads t (counts_at part b) (read_of w indexes part b)
      none_inside t Nothing m b = record { around = λ k. absurd (cc); others = λ y h. elim h [ ] }
      none_inside t (Assign left value place at) m b = record {
        around = λ k. not_left t (list_any (mentions es) left || mentions es value) (rest k);
        others = λ y h.
            let r = Has-tested (may_be_of indexes (map flat_index left) b) h in
            let none = not_right t (list_any (mentions es) left || mentions es value) (rest r.0) in
            either (flat_map (λ e. read_at e b) left) (read_at value b) r.1
            (λ k. let q = Has-from_flat_map (λ e. read_at e b) left k in others_read q.0 (none_in (mentions es) left (not_left (list_any (mentions es) left) (mentions es value) none) q.0 q.1) b y q.2)
            (others_read value (not_right (list_any (mentions es) left) (mentions es value) none) b y);
      }
        where
          rest : may_be_of indexes (map flat_index left) b ≡ true → t || (list_any (mentions es) left || mentions es value) ≡ false
          rest k = other_part (own_at b (map flat_index left) indexes (is_not (list_any (λ (i, q). is_elsewhere (known_at b i) q) (zip (map flat_index left) indexes)) k)) m
      none_inside t (If' cond l (more_of-DefBody left end_of-DefBody) r (more_of-DefBody right end_of-DefBody)) m b =
          let t' : Bool = t || mentions es cond in
          let x = none_inside t' left (not_left (inside_mentioned es own t' left) (inside_mentioned es own t' right) m) b in
          let y = none_inside t' right (not_right (inside_mentioned es own t' left) (inside_mentioned es own t' right) m) b in
          let some : counts_at left b || counts_at right b ≡ true → t' ≡ false =
          λ k. elim (cases_Bool (counts_at left b)) [
            | inl e ↦ x.around e
            | inr e ↦ y.around (other_of e k)
          ]
          in record {
            around = λ k. not_left t (mentions es cond) (some k);
            others = λ z h.
                either ((if counts_at left b || counts_at right b then read_at cond b else []) ++ read_of w indexes left b) (read_of w indexes right b) h
                (λ k. either (if counts_at left b || counts_at right b then read_at cond b else []) (read_of w indexes left b) k
                (λ q. let s = Has-tested (counts_at left b || counts_at right b) q in others_read cond (not_right t (mentions es cond) (some s.0)) b z s.1) (x.others z))
                (y.others z);
          }
      none_inside t (First' shape parts) m b = none_parts t parts m b
      none_inside t (Forall' var over shape (more_of-DefBody body end_of-DefBody)) m b = record {
        around = λ k. let r = any-some (λ p. counts_at body (bind_place b var p)) (places_in w over) k in (none_inside t body m (bind_place b var r.0)).around r.2;
        others = λ y h. let r = Has-from_flat_map (λ p. read_of w indexes body (bind_place b var p)) (places_in w over) h in (none_inside t body m (bind_place b var r.0)).others y r.2;
      }

      none_parts : {m : _} (t : Bool) (row : Row_of-DefBody m) → parts_mentioned es own t row ≡ false → (b : List Place) →
          Reads t (have_counting (places_in w) (may_be_of indexes) row b) (parts_read (places_in w) (may_be_of indexes) (places_in w) (elements_given w) row b)
      none_parts t end_of-DefBody m b = record { around = λ k. absurd (cc); others = λ y h. elim h [ ] }
      none_parts t (more_of-DefBody part rest) m b =
          let x = none_inside t part (not_left (inside_mentioned es own t part) (parts_mentioned es own t rest) m) b in
          let y = none_parts t rest (not_right (inside_mentioned es own t part) (parts_mentioned es own t rest) m) b in record {
            around = λ k. elim (cases_Bool (counts_at part b)) [
              | inl e ↦ x.around e
              | inr e ↦ y.around (other_of e k)
            ];
            others = λ z h. either (read_of w indexes part b) (parts_read (places_in w) (may_be_of indexes) (places_in w) (elements_given w) rest b) h (x.others z) (y.others z);
          }

    pub others_read_for : (part : DefBody) → mentions_inside es own false part ≡ false → (b : List Place) (y : AbsElement) → Has (read_of w indexes part b) y → IsOther y
    unfolding mentions_inside
    others_read_for part m b y h = (none_inside false part m b).others y h
