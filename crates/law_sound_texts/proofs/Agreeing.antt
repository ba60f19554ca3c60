-- Two states that agree on what the references in an expression may read give it the same outcome, and allow a right side the same values.
use Rattle.std.proofs.Common.{◌≡◌, ℕ, zero, suc, ◌+◌, ◌-◌, List, [], ◌∷◌, ◌++◌, map, filter, zip, Bool, true, false, cond, not, ◌&&◌, refl, ap, subst, ◌∙◌, ◌⊎◌, inl, inr, Option, Some, None, option_map, slice_get}
use Rattle.std.specs.List.{flat_map, list_any, list_all, AllZip}
use Rattle.std.specs.Option.{is_none}
use Rattle.std.proofs.Math.Path.{fun_ext}
use Rattle.std.proofs.lemmas.Bool.{or_left, or_right}
use Rattle.law_lists.proofs.Options.{some_is}
use Rattle.smv_core.specs.Values.{Value, number, constant, scalar, ordinal, Outcome, truth, bit, same, is_in, value_in, all_defined, equal, compare, add, modulo, numbers_from, not_of, iff_of, conjunction, disjunction, implication}
use Rattle.smv_core.specs.Outcome.{branch, fit, is_true}
use Rattle.smv_core.specs.Walk.{is_other}
use Rattle.smv_core.specs.Assignments.{Index, fixed, bare, computed, add_fixed, modulo_fixed, fits}
use Rattle.smv_core.specs.FlatMeaning.{Numbered, FlatState, FlatBindings, bind, values_in, flat_index, flat_index_sum, flat_element_at, flat_outcome, flat_outcomes, flat_sum, flat_listed, flat_members, flat_meets, flat_allowed_by}
use Rattle.smv_core.specs.declared.flat.Simple.{Simple as FlatSimple}
use Rattle.smv_core.specs.declared.flat.Family.{Family}
use Rattle.smv_core.specs.declared.flat.FlatMember.{One, Span as SpanOf}
use Rattle.smv_core.specs.declared.flat.FlatExpr.{FlatExpr, Number, Read', Var, Loop, Constant, Not', And', Or', Implies', Iff', Compare', Within', Sum', Modulo', Choose', All', Any', List', Each', Held-FlatExpr-Each-2, None', Some', Row_of-FlatExpr, end_of-FlatExpr, more_of-FlatExpr, Row_of-FlatMember, end_of-FlatMember, more_of-FlatMember, Row_of-FlatSigned, end_of-FlatSigned, more_of-FlatSigned}
use Rattle.law_obligations.specs.Sets.{Has, first, later}
use Rattle.law_obligations.proofs.Members.{Has-left, Has-right}
use Rattle.law_obligations.proofs.Same.{Has-is_in, same-itself}
use Rattle.law_designs.specs.Reading.{Reference, indexes_of, references, references_of, references_signed, references_members, references_held}

-- ---- constant indexes

-- a number, Undefined, or no constant
abbrev pub is_plain : Index → Bool
is_plain (fixed (Some (number k))) = true
is_plain (fixed (Some (constant c))) = false
is_plain (fixed (Some (scalar t k))) = false
is_plain (fixed (Some (ordinal t k))) = false
is_plain (fixed None) = true
is_plain (bare k) = true
is_plain computed = true

-- what an index says of its outcome
abbrev Denotes : Index → Outcome → Type 0
Denotes (fixed w) u = u ≡ w
Denotes (bare k) u = Unit {0}
Denotes computed u = Unit {0}

added : (minus : Bool) (i j : Index) (o p : Outcome) → Denotes i o → Denotes j p → Denotes (add_fixed minus i j) (add minus o p)
added minus (fixed u) (fixed v) o p h k = rw (h, k) refl
added minus (fixed u) (bare n) o p h k = tt
added minus (fixed u) computed o p h k = tt
added minus (bare m) j o p h k = tt
added minus computed j o p h k = tt

moduloed : (i : Index) (o : Outcome) (by : ℕ) → Denotes i o → Denotes (modulo_fixed i by) (modulo o by)
moduloed (fixed u) o by h = rw h refl
moduloed (bare n) o by h = tt
moduloed computed o by h = tt

if_plain : (test : Bool) (k : ℕ) → is_plain (fixed (cond test (Some (number k)) None)) ≡ true
if_plain true k = refl
if_plain false k = refl

added_plain : (minus : Bool) (i j : Index) → is_plain (add_fixed minus i j) ≡ true
added_plain false (fixed (Some (number m))) (fixed (Some (number n))) = if_plain _ (m + n)
added_plain true (fixed (Some (number m))) (fixed (Some (number n))) = if_plain _ (m - n)
added_plain false (fixed (Some (number m))) (fixed (Some (constant c))) = refl
added_plain true (fixed (Some (number m))) (fixed (Some (constant c))) = refl
added_plain false (fixed (Some (number m))) (fixed (Some (scalar t k))) = refl
added_plain true (fixed (Some (number m))) (fixed (Some (scalar t k))) = refl
added_plain false (fixed (Some (number m))) (fixed (Some (ordinal t k))) = refl
added_plain true (fixed (Some (number m))) (fixed (Some (ordinal t k))) = refl
added_plain false (fixed (Some (number m))) (fixed None) = refl
added_plain true (fixed (Some (number m))) (fixed None) = refl
added_plain false (fixed (Some (constant c))) (fixed v) = refl
added_plain true (fixed (Some (constant c))) (fixed v) = refl
added_plain false (fixed (Some (scalar t k))) (fixed v) = refl
added_plain true (fixed (Some (scalar t k))) (fixed v) = refl
added_plain false (fixed (Some (ordinal t k))) (fixed v) = refl
added_plain true (fixed (Some (ordinal t k))) (fixed v) = refl
added_plain false (fixed None) (fixed v) = refl
added_plain true (fixed None) (fixed v) = refl
added_plain minus (fixed u) (bare n) = refl
added_plain minus (fixed u) computed = refl
added_plain minus (bare m) j = refl
added_plain minus computed j = refl

modulo_plain : (i : Index) (by : ℕ) → is_plain (modulo_fixed i by) ≡ true
modulo_plain (fixed (Some (number m))) zero = refl
modulo_plain (fixed (Some (number m))) (suc n) = refl
modulo_plain (fixed (Some (constant c))) by = refl
modulo_plain (fixed (Some (scalar t k))) by = refl
modulo_plain (fixed (Some (ordinal t k))) by = refl
modulo_plain (fixed None) by = refl
modulo_plain (bare n) by = refl
modulo_plain computed by = refl

mutual
  pub index_plain : (e : FlatExpr) → is_plain (flat_index e) ≡ true
  index_plain (Number value at) = refl
  index_plain (Loop value at) = refl
  index_plain (Var var at) = refl
  index_plain (Sum' f (more_of-FlatExpr head end_of-FlatExpr) shape more) = sum_plain more (flat_index head) (index_plain head)
  index_plain (Modulo' shape (more_of-FlatExpr e end_of-FlatExpr) by at) = modulo_plain (flat_index e) by
  index_plain _ = refl

  sum_plain : {m : _} (more : Row_of-FlatSigned m) (i : Index) → is_plain i ≡ true → is_plain (flat_index_sum i more) ≡ true
  sum_plain end_of-FlatSigned i h = h
  sum_plain (more_of-FlatSigned minus e rest) i h = sum_plain rest (add_fixed minus i (flat_index e)) (added_plain minus i (flat_index e))

module _ (n : Numbered) (s : FlatState) where
  mutual
    pub denotes : (b : FlatBindings) (e : FlatExpr) → Denotes (flat_index e) (flat_outcome n s e b)
    denotes b (Number value at) = refl
    denotes b (Loop value at) = refl
    denotes b (Sum' f (more_of-FlatExpr head end_of-FlatExpr) shape more) = summed b more (flat_index head) (flat_outcome n s head b) (denotes b head)
    denotes b (Modulo' shape (more_of-FlatExpr e end_of-FlatExpr) by at) = moduloed (flat_index e) (flat_outcome n s e b) by (denotes b e)
    denotes b _ = tt

    summed : {m : _} (b : FlatBindings) (more : Row_of-FlatSigned m) (i : Index) (o : Outcome) → Denotes i o → Denotes (flat_index_sum i more) (flat_sum n s more o b)
    summed b end_of-FlatSigned i o k = k
    summed b (more_of-FlatSigned minus e rest) i o k =
        summed b rest (add_fixed minus i (flat_index e)) (add minus o (flat_outcome n s e b)) (added minus i (flat_index e) o (flat_outcome n s e b) k (denotes b e))

-- an index fits its own outcome
fits_own : (i : Index) (v : Value) → Denotes i (Some v) → fits i v ≡ true
fits_own (fixed (Some w)) v e = subst (λ w. same w v ≡ true) (some_is e) (same-itself v)
fits_own (fixed None) v e = absurd (cc (e))
fits_own (bare k) v e = refl
fits_own computed v e = refl

-- where it does not fit, its outcome is another value or Undefined
misfit : (i : Index) (u : Outcome) (v : Value) → Denotes i u → fits i v ≡ false → (is_other u v ≡ true) ⊎ (is_none u ≡ true)
misfit (fixed (Some w)) u v e h = inl (ap (λ u. is_other u v) e ∙ ap not h)
misfit (fixed None) u v e h = inr (ap is_none e)
misfit (bare k) u v e h = absurd (cc (h))
misfit computed u v e h = absurd (cc (h))

-- one of the outcomes is another value, or one is Undefined
abbrev AreElsewhere : List Outcome → List Value → Type 0
AreElsewhere us vs = (list_any (λ (u, v). is_other u v) (zip us vs) ≡ true) ⊎ (list_any is_none us ≡ true)

elsewhere_here : (u : Outcome) (v : Value) (us : List Outcome) (vs : List Value) → (is_other u v ≡ true) ⊎ (is_none u ≡ true) → AreElsewhere (u ∷ us) (v ∷ vs)
elsewhere_here u v us vs (inl p) = inl (or_left (is_other u v) _ p)
elsewhere_here u v us vs (inr p) = inr (or_left (is_none u) _ p)

elsewhere_later : (u : Outcome) (v : Value) (us : List Outcome) (vs : List Value) → AreElsewhere us vs → AreElsewhere (u ∷ us) (v ∷ vs)
elsewhere_later u v us vs (inl p) = inl (or_right (is_other u v) _ p)
elsewhere_later u v us vs (inr p) = inr (or_right (is_none u) _ p)

pub misfits : (n : Numbered) (s : FlatState) (b : FlatBindings) (left : List FlatExpr) (vs : List Value) → list_all (λ (i, v). fits i v) (zip (map flat_index left) vs) ≡ false → AreElsewhere (map (λ e. flat_outcome n s e b) left) vs
misfits n s b [] vs h = absurd (cc (h))
misfits n s b (e ∷ left) [] h = absurd (cc (h))
misfits n s b (e ∷ left) (v ∷ vs) h = by_test (fits (flat_index e) v) refl h (misfits n s b left vs)
  where
    by_test : (c : Bool) → fits (flat_index e) v ≡ c → (c && list_all (λ (i, v). fits i v) (zip (map flat_index left) vs)) ≡ false →
        (list_all (λ (i, v). fits i v) (zip (map flat_index left) vs) ≡ false → AreElsewhere (map (λ e. flat_outcome n s e b) left) vs) → AreElsewhere (flat_outcome n s e b ∷ map (λ e. flat_outcome n s e b) left) (v ∷ vs)
    by_test true q h rest = elsewhere_later (flat_outcome n s e b) v (map (λ e. flat_outcome n s e b) left) vs (rest h)
    by_test false q h rest = elsewhere_here (flat_outcome n s e b) v (map (λ e. flat_outcome n s e b) left) vs (misfit (flat_index e) (flat_outcome n s e b) v (denotes n s b e) q)

-- ---- what a reference may read

-- values of these types that fit these indexes
abbrev pub MayBe : Numbered → List FlatSimple → List Index → List Value → Type 0
MayBe n [] is [] = Unit {0}
MayBe n [] is (v ∷ vs) = ⊥
MayBe n (o ∷ over) [] [] = Unit {0}
MayBe n (o ∷ over) [] (v ∷ vs) = ⊥
MayBe n (o ∷ over) (i ∷ is) [] = ⊥
MayBe n (o ∷ over) (i ∷ is) (v ∷ vs) = Has (values_in n o) v × (fits i v ≡ true) × (is_plain i ≡ true) × MayBe n over is vs

-- an outcome fits its index
abbrev Shows : Index → Outcome → Type 0
Shows i u = ((v : Value) → u ≡ Some v → fits i v ≡ true) × (is_plain i ≡ true)

-- the indexes' values, where each is in its type
abbrev values_read : Numbered → List FlatSimple → List Outcome → Option (List Value)
values_read n over us = all_defined (map (λ (t, u). value_in (values_in n t) u) (zip over us))

read_values : (n : Numbered) (over : List FlatSimple) (is : List Index) (us : List Outcome) → AllZip Shows is us → (vs : List Value) →
    values_read n over us ≡ Some vs → MayBe n over is vs
read_values n [] is us shown vs e = subst (MayBe n [] is) (some_is e) tt
read_values n (o ∷ over) [] [] shown vs e = subst (MayBe n (o ∷ over) []) (some_is e) tt
read_values n (o ∷ over) [] (u ∷ us) shown vs e = elim shown [ ]
read_values n (o ∷ over) (i ∷ is) [] shown vs e = elim shown [ ]
read_values n (o ∷ over) (i ∷ is) (None ∷ us) shown vs e = absurd (cc (e))
read_values n (o ∷ over) (i ∷ is) (Some v ∷ us) shown vs e = within (is_in (values_in n o) v) refl e (read_values n over is us shown.1)
  where
    behind : is_in (values_in n o) v ≡ true → (w : Option (List Value)) → values_read n over us ≡ w → option_map (λ vs. v ∷ vs) w ≡ Some vs → ((vs : List Value) → values_read n over us ≡ Some vs → MayBe n over is vs) → MayBe n (o ∷ over) (i ∷ is) vs
    behind p None r e goes = absurd (cc (e))
    behind p (Some ws) r e goes = subst (MayBe n (o ∷ over) (i ∷ is)) (some_is e) (Has-is_in (values_in n o) v p, shown.0.0 v refl, shown.0.1, goes ws r)

    within : (c : Bool) → is_in (values_in n o) v ≡ c → all_defined (cond c (Some v) None ∷ map (λ (t, u). value_in (values_in n t) u) (zip over us)) ≡ Some vs →
        ((vs : List Value) → values_read n over us ≡ Some vs → MayBe n over is vs) → MayBe n (o ∷ over) (i ∷ is) vs
    within true p e goes = behind p (values_read n over us) refl e goes
    within false p e goes = absurd (cc (e))

pub shown_row : (n : Numbered) (s : FlatState) {m : _} (row : Row_of-FlatExpr m) (b : FlatBindings) → AllZip Shows (indexes_of row) (flat_outcomes n s row b)
shown_row n s end_of-FlatExpr b = tt
shown_row n s (more_of-FlatExpr e rest) b = ((λ v q. fits_own (flat_index e) v (subst (Denotes (flat_index e)) q (denotes n s b e)), index_plain e), shown_row n s rest b)

-- ---- two states

module _ (n : Numbered) (s t : FlatState) where
  -- they agree on what a reference may read
  abbrev pub AgreeOn : Reference → Type 0
  AgreeOn r = (f : Family) → slice_get n.families r.family ≡ Some f → (vs : List Value) → MayBe n f.over r.indexes vs → s r.family vs ≡ t r.family vs

  abbrev pub AgreeAt : List Reference → Type 0
  AgreeAt rs = (r : Reference) → Has rs r → AgreeOn r

  pub at_left : (xs ys : List Reference) → AgreeAt (xs ++ ys) → AgreeAt xs
  at_left xs ys a r h = a r (Has-left ys h)

  pub at_right : (xs ys : List Reference) → AgreeAt (xs ++ ys) → AgreeAt ys
  at_right xs ys a r h = a r (Has-right xs h)

  same_read : (family at : ℕ) (is : List Index) → AgreeOn (record { family = family; indexes = is; at = at }) → (o : Option Family) → slice_get n.families family ≡ o → (us : List Outcome) → AllZip Shows is us →
      flat_element_at n s family o us ≡ flat_element_at n t family o us
  same_read family at is agree None e us shown = refl
  same_read family at is agree (Some f) e us shown = by_values (all_defined (map (λ (t, u). value_in (values_in n t) u) (zip f.over us))) refl
    where
      by_values : (w : Option (List Value)) → all_defined (map (λ (t, u). value_in (values_in n t) u) (zip f.over us)) ≡ w → option_map (s family) w ≡ option_map (t family) w
      by_values None q = refl
      by_values (Some vs) q = ap Some (agree f e vs (read_values n f.over is us shown vs q))

  mutual
    pub same_outcome : (e : FlatExpr) (b : FlatBindings) → AgreeAt (references e) → flat_outcome n s e b ≡ flat_outcome n t e b
    same_outcome (Number value at) b a = refl
    same_outcome (Read' family shape indexes at) b a =
        ap (flat_element_at n s family (slice_get n.families family)) (same_row indexes b (λ r h. a r (later h))) ∙
        same_read family at (indexes_of indexes) (a (record { family = family; indexes = indexes_of indexes; at = at }) first) (slice_get n.families family) refl (flat_outcomes n t indexes b) (shown_row n t indexes b)
    same_outcome (Var var at) b a = refl
    same_outcome (Loop value at) b a = refl
    same_outcome (Constant list value at) b a = refl
    same_outcome (Not' shape (more_of-FlatExpr e end_of-FlatExpr) at) b a = ap (λ u. bit (not_of (truth u))) (same_outcome e b a)
    same_outcome (And' shape parts) b a = ap (λ us. bit (conjunction (map truth us))) (same_row parts b a)
    same_outcome (Or' shape parts) b a = ap (λ us. bit (disjunction (map truth us))) (same_row parts b a)
    same_outcome (Implies' shape parts) b a = ap (λ us. bit (implication (map truth us))) (same_row parts b a)
    same_outcome (Iff' l (more_of-FlatExpr left end_of-FlatExpr) r (more_of-FlatExpr right end_of-FlatExpr)) b a =
        ap (λ u. bit (iff_of (truth u) (truth (flat_outcome n s right b)))) (same_outcome left b (at_left (references left) (references right) a)) ∙
        ap (λ u. bit (iff_of (truth (flat_outcome n t left b)) (truth u))) (same_outcome right b (at_right (references left) (references right) a))
    same_outcome (Compare' op l (more_of-FlatExpr left end_of-FlatExpr) r (more_of-FlatExpr right end_of-FlatExpr)) b a =
        ap (λ u. bit (compare op u (flat_outcome n s right b))) (same_outcome left b (at_left (references left) (references right) a)) ∙
        ap (λ u. bit (compare op (flat_outcome n t left b) u)) (same_outcome right b (at_right (references left) (references right) a))
    same_outcome (Within' l (more_of-FlatExpr left end_of-FlatExpr) r (more_of-FlatExpr set end_of-FlatExpr)) b a =
        ap (λ u. bit (disjunction (map (equal u) (flat_listed n s set b)))) (same_outcome left b (at_left (references left) (references set) a)) ∙
        ap (λ us. bit (disjunction (map (equal (flat_outcome n t left b)) us))) (same_listed set b (at_right (references left) (references set) a))
    same_outcome (Sum' f (more_of-FlatExpr head end_of-FlatExpr) shape more) b a =
        ap (λ u. flat_sum n s more u b) (same_outcome head b (at_left (references head) (references_signed more) a)) ∙
        same_sum more (flat_outcome n t head b) b (at_right (references head) (references_signed more) a)
    same_outcome (Modulo' shape (more_of-FlatExpr e end_of-FlatExpr) by at) b a = ap (λ u. modulo u by) (same_outcome e b a)
    same_outcome (Choose' c (more_of-FlatExpr test end_of-FlatExpr) l (more_of-FlatExpr left end_of-FlatExpr) r (more_of-FlatExpr right end_of-FlatExpr)) b a =
        let front : AgreeAt (references test ++ references left) = at_left (references test ++ references left) (references right) a in
        ap (λ u. branch None (truth u) (flat_outcome n s left b) (flat_outcome n s right b)) (same_outcome test b (at_left (references test) (references left) front)) ∙
        (ap (λ u. branch None (truth (flat_outcome n t test b)) u (flat_outcome n s right b)) (same_outcome left b (at_right (references test) (references left) front)) ∙
        ap (λ u. branch None (truth (flat_outcome n t test b)) (flat_outcome n t left b) u) (same_outcome right b (at_right (references test ++ references left) (references right) a)))
    same_outcome (All' shape (more_of-FlatExpr body end_of-FlatExpr) var over at) b a =
        ap (λ (f : Value → Outcome). bit (conjunction (map (λ v. truth (f v)) (values_in n over)))) (fun_ext (λ v. same_outcome body (bind b var v) a))
    same_outcome (Any' shape (more_of-FlatExpr body end_of-FlatExpr) var over at) b a =
        ap (λ (f : Value → Outcome). bit (disjunction (map (λ v. truth (f v)) (values_in n over)))) (fun_ext (λ v. same_outcome body (bind b var v) a))
    same_outcome (List' shape members at) b a = refl
    same_outcome (Each' var over test at) b a = refl

    pub same_row : {m : _} (row : Row_of-FlatExpr m) (b : FlatBindings) → AgreeAt (references_of row) → flat_outcomes n s row b ≡ flat_outcomes n t row b
    same_row end_of-FlatExpr b a = refl
    same_row (more_of-FlatExpr e rest) b a =
        ap (λ u. u ∷ flat_outcomes n s rest b) (same_outcome e b (at_left (references e) (references_of rest) a)) ∙
        ap (λ us. flat_outcome n t e b ∷ us) (same_row rest b (at_right (references e) (references_of rest) a))

    same_sum : {m : _} (row : Row_of-FlatSigned m) (u : Outcome) (b : FlatBindings) → AgreeAt (references_signed row) → flat_sum n s row u b ≡ flat_sum n t row u b
    same_sum end_of-FlatSigned u b a = refl
    same_sum (more_of-FlatSigned minus e rest) u b a =
        ap (λ v. flat_sum n s rest (add minus u v) b) (same_outcome e b (at_left (references e) (references_signed rest) a)) ∙
        same_sum rest (add minus u (flat_outcome n t e b)) b (at_right (references e) (references_signed rest) a)

    same_listed : (e : FlatExpr) (b : FlatBindings) → AgreeAt (references e) → flat_listed n s e b ≡ flat_listed n t e b
    same_listed (List' shape members at) b a = same_members members b a
    same_listed _ b a = refl

    same_members : {m : _} (row : Row_of-FlatMember m) (b : FlatBindings) → AgreeAt (references_members row) → flat_members n s row b ≡ flat_members n t row b
    same_members end_of-FlatMember b a = refl
    same_members (more_of-FlatMember (One e) rest) b a =
        ap (λ u. u ∷ flat_members n s rest b) (same_outcome e b (at_left (references e) (references_members rest) a)) ∙
        ap (λ us. flat_outcome n t e b ∷ us) (same_members rest b (at_right (references e) (references_members rest) a))
    same_members (more_of-FlatMember (SpanOf span at) rest) b a =
        ap (λ us. map (λ k. Some (number k)) (numbers_from span.low (span.high + 1 - span.low)) ++ us) (same_members rest b a)

  same_meets : (test : Held-FlatExpr-Each-2) (b : FlatBindings) → AgreeAt (references_held test) → flat_meets n s test b ≡ flat_meets n t test b
  same_meets None' b a = refl
  same_meets (Some' shape (more_of-FlatExpr test end_of-FlatExpr)) b a = ap (λ u. is_true (truth u)) (same_outcome test b a)

  pub same_allowed : (every : List Value) (e : FlatExpr) (b : FlatBindings) → AgreeAt (references e) → flat_allowed_by n s every e b ≡ flat_allowed_by n t every e b
  same_allowed every (List' shape members at) b a = ap (fit every) (same_members members b a)
  same_allowed every (Each' var over test at) b a =
      ap (λ (f : Value → Bool). fit every (map Some (filter f (values_in n over)))) (fun_ext (λ v. same_meets test (bind b var v) a))
  same_allowed every (Choose' c (more_of-FlatExpr test end_of-FlatExpr) l (more_of-FlatExpr left end_of-FlatExpr) r (more_of-FlatExpr right end_of-FlatExpr)) b a =
      let front : AgreeAt (references test ++ references left) = at_left (references test ++ references left) (references right) a in
      ap (λ u. branch every (truth u) (flat_allowed_by n s every left b) (flat_allowed_by n s every right b)) (same_outcome test b (at_left (references test) (references left) front)) ∙
      (ap (λ vs. branch every (truth (flat_outcome n t test b)) vs (flat_allowed_by n s every right b)) (same_allowed every left b (at_right (references test) (references left) front)) ∙
      ap (λ vs. branch every (truth (flat_outcome n t test b)) (flat_allowed_by n t every left b) vs) (same_allowed every right b (at_right (references test ++ references left) (references right) a)))
  same_allowed every e b a = ap (λ u. fit every (u ∷ [])) (same_outcome e b a)

  -- the indexes of a left side
  pub same_left : (left : List FlatExpr) (b : FlatBindings) → AgreeAt (flat_map references left) → map (λ e. flat_outcome n s e b) left ≡ map (λ e. flat_outcome n t e b) left
  same_left [] b a = refl
  same_left (e ∷ left) b a =
      ap (λ u. u ∷ map (λ e. flat_outcome n s e b) left) (same_outcome e b (at_left (references e) (flat_map references left) a)) ∙
      ap (λ us. flat_outcome n t e b ∷ us) (same_left left b (at_right (references e) (flat_map references left) a))
