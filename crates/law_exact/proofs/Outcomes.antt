-- Where each value is a class and what is read is kept, an expression may have its outcome alone.
use Rattle.std.proofs.Common.{◌≡◌, ℕ, zero, suc, ◌+◌, ◌-◌, List, [], ◌∷◌, ◌++◌, map, get_or, Bool, true, false, if◌then◌else◌, refl, sym, ap, subst, ◌∙◌, Option, Some, None, option_map}
use Rattle.std.specs.List.{flat_map, slice_get, zip}
use Rattle.smv_core.specs.Values.{Value, number, constant, scalar, ordinal, same, ordset, scalarset, Outcome, Truth, truth, bit, value_in, all_defined, equal, compare, add, modulo, numbers_from, not_of, iff_of, conjunction, disjunction, implication, is_in}
use Rattle.smv_core.specs.Outcome.{branch}
use Rattle.smv_core.specs.Assignments.{Index, fixed, bare, computed, add_fixed, modulo_fixed}
use Rattle.smv_core.specs.FlatMeaning.{Numbered, FlatState, bind, values_in, set_type, flat_index, flat_index_sum, flat_element_at, flat_outcome, flat_outcomes, flat_sum, flat_listed, flat_members}
use Rattle.smv_core.specs.declared.tree.Op.{Op}
use Rattle.smv_core.specs.declared.tree.Op.TheVariants.{Equal, Differ, Less, AtMost, Greater, AtLeast}
use Rattle.smv_core.specs.declared.flat.Simple.{Simple as FlatSimple}
use Rattle.smv_core.specs.declared.flat.Simple.TheVariants.{Range, Enum, Set}
use Rattle.smv_core.specs.declared.flat.SetInfo.{SetInfo}
use Rattle.smv_core.specs.declared.flat.Family.{Family}
use Rattle.smv_core.specs.declared.flat.FlatMember.{One, Span as SpanOf}
use Rattle.smv_core.specs.declared.flat.FlatExpr.{FlatExpr, Number, Read', Var, Loop, Constant, Not', And', Or', Implies', Iff', Compare', Within', Sum', Modulo', Choose', All', Any', List', Each', Row_of-FlatExpr, end_of-FlatExpr, more_of-FlatExpr, Row_of-FlatMember, end_of-FlatMember, more_of-FlatMember, Row_of-FlatSigned, end_of-FlatSigned, more_of-FlatSigned}
use Rattle.law_obligations.specs.Sets.{Has, one_of_each, parts, pairs, all_there}
use Rattle.law_obligations.specs.Places.{Place, named, World, rests_of, named_in, rests_in, places_in, same_place, is_among, AbsOutcome, valued, as_place, equal_places, where_defined, may_compare, bind_place}
use Rattle.law_obligations.specs.May.{AbsState, Kept, seen, shown, place_within, quantified, places_at, may_read, may, may_each, may_sum, may_listed, may_members}
use Rattle.law_obligations.specs.Reads.{is_bound_to, indexes_read, reads_each, reads_signed, reads_members}
use Rattle.law_obligations.specs.Cones.{AbsElement, element, index_places, each_index, elements_in, elements_at, elements_read}
use Rattle.law_obligations.specs.Whole.{OneForEach, OneForEachOf, IsWhole, AreWhole, AreWholeSigned, AreWholeMembers}
use Rattle.law_obligations.proofs.Members.{Has-left, Has-right, Has-map, Has-flat_map}
use Rattle.law_obligations.proofs.OneOfEach.{AreOf, one_of}
use Rattle.law_obligations.proofs.Lookups.{Has-filter}
use Rattle.law_obligations.proofs.Same.{same-itself, Has-is_in}
use Rattle.law_exact.specs.Exact.{whole_world, AreKept, Shows}
use Rattle.law_exact.proofs.Justs.{Just, just-one, just-is, just-map, just-flat, just-pairs, EachJust, just-choices, each-just-map}
use Rattle.law_lists.proofs.Anys.{any-map}
use Rattle.law_lists.proofs.Lists.{map-map}

-- ---- outcomes and their places

pub seen-is : (o : Outcome) → seen (as_place o) ≡ truth o
seen-is None = refl
seen-is (Some v) = refl

pub valued-is : (o : Outcome) → valued (as_place o) ≡ o
valued-is None = refl
valued-is (Some v) = refl

seen-each : (os : List Outcome) → map seen (map as_place os) ≡ map truth os
seen-each [] = refl
seen-each (o ∷ os) = ap (λ t. t ∷ map seen (map as_place os)) (seen-is o) ∙ ap (λ ts. truth o ∷ ts) (seen-each os)

nil-right : {X : Type 0} (xs : List X) → xs ++ [] ≡ xs
nil-right [] = refl
nil-right (x ∷ xs) = ap (λ ys. x ∷ ys) (nil-right xs)

compare-is : (op : Op) (x y : Outcome) → may_compare op (as_place x) (as_place y) ≡ compare op x y ∷ []
compare-is Equal None None = refl
compare-is Equal None (Some v) = refl
compare-is Equal (Some u) None = refl
compare-is Equal (Some u) (Some v) = refl
compare-is Differ None None = refl
compare-is Differ None (Some v) = refl
compare-is Differ (Some u) None = refl
compare-is Differ (Some u) (Some v) = refl
compare-is Less None None = refl
compare-is Less None (Some v) = refl
compare-is Less (Some u) None = less-none u
  where
    less-none : (u : Value) → may_compare Less (as_place (Some u)) (as_place None) ≡ compare Less (Some u) None ∷ []
    less-none (number k) = refl
    less-none (constant c) = refl
    less-none (scalar t k) = refl
    less-none (ordinal t k) = refl
compare-is Less (Some u) (Some v) = refl
compare-is AtMost None None = refl
compare-is AtMost None (Some v) = at v
  where
    at : (v : Value) → may_compare AtMost (as_place None) (as_place (Some v)) ≡ compare AtMost None (Some v) ∷ []
    at (number k) = refl
    at (constant c) = refl
    at (scalar t k) = refl
    at (ordinal t k) = refl
compare-is AtMost (Some u) None = refl
compare-is AtMost (Some u) (Some v) = refl
compare-is Greater None None = refl
compare-is Greater None (Some v) = at v
  where
    at : (v : Value) → may_compare Greater (as_place None) (as_place (Some v)) ≡ compare Greater None (Some v) ∷ []
    at (number k) = refl
    at (constant c) = refl
    at (scalar t k) = refl
    at (ordinal t k) = refl
compare-is Greater (Some u) None = refl
compare-is Greater (Some u) (Some v) = refl
compare-is AtLeast None None = refl
compare-is AtLeast None (Some v) = refl
compare-is AtLeast (Some u) None = at u
  where
    at : (u : Value) → may_compare AtLeast (as_place (Some u)) (as_place None) ≡ compare AtLeast (Some u) None ∷ []
    at (number k) = refl
    at (constant c) = refl
    at (scalar t k) = refl
    at (ordinal t k) = refl
compare-is AtLeast (Some u) (Some v) = refl

equal-one : (o p : Outcome) → where_defined equal_places (as_place o) (as_place p) ≡ equal o p ∷ []
equal-one None None = refl
equal-one None (Some v) = refl
equal-one (Some u) None = refl
equal-one (Some u) (Some v) = refl

equal-each : (o : Outcome) (os : List Outcome) → EachJust (map (where_defined equal_places (as_place o)) (map as_place os)) (map (equal o) os)
equal-each o [] = tt
equal-each o (p ∷ os) = (subst (λ ts. Just ts (equal o p)) (sym (equal-one o p)) (just-one (equal o p)), equal-each o os)

branch-is : (c : Truth) (x y : Outcome) (xs ys : List AbsOutcome) → Just xs (as_place x) → Just ys (as_place y) → Just (branch (None ∷ []) c xs ys) (as_place (branch None c x y))
branch-is None x y xs ys h k = just-one None
branch-is (Some true) x y xs ys h k = h
branch-is (Some false) x y xs ys h k = k

-- ---- variables

pub bound-named : (b : List Value) (var : ℕ) → slice_get (map named b) var ≡ as_place (slice_get b var)
bound-named [] var = refl
bound-named (v ∷ b) zero = refl
bound-named (v ∷ b) (suc var) = bound-named b var

pub bind-named : (b : List Value) (var : ℕ) (v : Value) → bind_place (map named b) var (named v) ≡ map named (bind b var v)
bind-named [] zero v = refl
bind-named [] (suc var) v = refl
bind-named (u ∷ b) zero v = refl
bind-named (u ∷ b) (suc var) v = ap (λ ps. named u ∷ ps) (bind-named b var v)

-- ---- types

pub among-is : (vs : List Value) (v : Value) → is_among (map named vs) (named v) ≡ is_in vs v
among-is vs v = any-map (same_place (named v)) named vs

within-is : (vs : List Value) (o : Outcome) → place_within (map named vs) (as_place o) ≡ as_place (value_in vs o)
within-is vs None = refl
within-is vs (Some v) = rw (among-is vs v) (at (is_in vs v))
  where
    at : (b : Bool) → (if b then Some (named v) else None) ≡ as_place (if b then Some v else None)
    at true = refl
    at false = refl

pub kept-left : (kept : Kept) (xs ys : List AbsElement) → AreKept kept (xs ++ ys) → AreKept kept xs
kept-left kept xs ys h x k = h x (Has-left ys k)

pub kept-right : (kept : Kept) (xs ys : List AbsElement) → AreKept kept (xs ++ ys) → AreKept kept ys
kept-right kept xs ys h x k = h x (Has-right xs k)

module _ (n : Numbered) where
  abbrev pub w : World
  w = whole_world n

  pub none_beside : (t : FlatSimple) → rests_in w t ≡ []
  none_beside (Range low high) = refl
  none_beside (Enum list) = refl
  none_beside (Set set) = of_set (slice_get n.sets set)
    where
      by_order : (info : SetInfo) (b : Bool) → rests_of w (if b then ordset info.name else scalarset info.name) ≡ []
      by_order info true = refl
      by_order info false = refl

      of_set : (o : Option SetInfo) → rests_of w (set_type o) ≡ []
      of_set None = refl
      of_set (Some info) = by_order info info.ordered

  pub named_are : (t : FlatSimple) → named_in w t ≡ map named (values_in n t)
  named_are (Range low high) = refl
  named_are (Enum list) = refl
  named_are (Set set) = refl

  pub places_are : (t : FlatSimple) → places_in w t ≡ map named (values_in n t)
  places_are t = ap (λ rs. named_in w t ++ rs) (none_beside t) ∙ (nil-right (named_in w t) ∙ named_are t)

  abbrev index_values : List FlatSimple → List Outcome → Option (List Value)
  index_values over os = all_defined (map (λ (t, u). value_in (values_in n t) u) (zip over os))

  cons-named : (v : Value) (o : Option (List Value)) → option_map (λ ps. named v ∷ ps) (option_map (map named) o) ≡ option_map (map named) (option_map (λ vs. v ∷ vs) o)
  cons-named v None = refl
  cons-named v (Some vs) = refl

  indexes-are : (over : List FlatSimple) (os : List Outcome) → all_there (map (λ (t, u). place_within (places_in w t) u) (zip over (map as_place os))) ≡ option_map (map named) (index_values over os)
  indexes-are [] os = refl
  indexes-are (t ∷ over) [] = refl
  indexes-are (t ∷ over) (o ∷ os) =
      ap (λ x. all_there (x ∷ map (λ (t, u). place_within (places_in w t) u) (zip over (map as_place os)))) (ap (λ ps. place_within ps (as_place o)) (places_are t) ∙ within-is (values_in n t) o) ∙
      at (value_in (values_in n t) o) (indexes-are over os)
    where
      at : (x : Outcome) → all_there (map (λ (t, u). place_within (places_in w t) u) (zip over (map as_place os))) ≡ option_map (map named) (index_values over os) →
          all_there (as_place x ∷ map (λ (t, u). place_within (places_in w t) u) (zip over (map as_place os))) ≡ option_map (map named) (all_defined (x ∷ map (λ (t, u). value_in (values_in n t) u) (zip over os)))
      at None ih = refl
      at (Some v) ih = ap (option_map (λ ps. named v ∷ ps)) ih ∙ cons-named v (index_values over os)

  -- a quantifier
  quantifier : (join : List Truth → Truth) (t : FlatSimple) (F : Place → List AbsOutcome) (O : Value → Outcome) → ((v : Value) → Has (values_in n t) v → Just (F (named v)) (as_place (O v))) →
      Just (quantified join (map F (named_in w t)) (flat_map F (rests_in w t))) (as_place (bit (join (map (λ v. truth (O v)) (values_in n t)))))
  quantifier join t F O h =
      let vs = values_in n t in
      let each : EachJust (map F (map named vs)) (map (λ v. as_place (O v)) vs) = subst (λ xss. EachJust xss (map (λ v. as_place (O v)) vs)) (sym (map-map F named vs)) (each-just-map (λ v. F (named v)) (λ v. as_place (O v)) vs h) in
      let alike : map seen (map (λ v. as_place (O v)) vs ++ []) ≡ map (λ v. truth (O v)) vs =
      ap (map seen) (nil-right (map (λ v. as_place (O v)) vs)) ∙ (ap (map seen) (sym (map-map as_place O vs)) ∙ (seen-each (map O vs) ∙ map-map truth O vs)) in
      subst (λ rs. Just (quantified join (map F (named_in w t)) (flat_map F rs)) (as_place (bit (join (map (λ v. truth (O v)) vs))))) (sym (none_beside t))
      (subst (λ ps. Just (quantified join (map F ps) []) (as_place (bit (join (map (λ v. truth (O v)) vs))))) (sym (named_are t))
      (just-pairs (λ us vs. shown (join (map seen (us ++ vs))) ∷ []) (just-choices (map F (map named vs)) (map (λ v. as_place (O v)) vs) each) (just-one [])
      (just-is (ap (λ ts. shown (join ts)) alike) (just-one (shown (join (map seen (map (λ v. as_place (O v)) vs ++ []))))))))

  module _ (s : FlatState) where
    -- ---- indexes

    -- what an index says of its outcome
    abbrev pub IsIndexOf : Index → Outcome → List Value → Type 0
    IsIndexOf (fixed u) o b = o ≡ u
    IsIndexOf (bare var) o b = o ≡ slice_get b var
    IsIndexOf computed o b = Unit {0}

    added : (minus : Bool) (i j : Index) (u v : Outcome) (b : List Value) → IsIndexOf i u b → IsIndexOf j v b → IsIndexOf (add_fixed minus i j) (add minus u v) b
    added minus (fixed x) (fixed y) u v b p q = ap (λ u. add minus u v) p ∙ ap (add minus x) q
    added minus (fixed x) (bare k) u v b p q = tt
    added minus (fixed x) computed u v b p q = tt
    added minus (bare k) (fixed y) u v b p q = tt
    added minus (bare k) (bare l) u v b p q = tt
    added minus (bare k) computed u v b p q = tt
    added minus computed (fixed y) u v b p q = tt
    added minus computed (bare l) u v b p q = tt
    added minus computed computed u v b p q = tt

    moduled : (i : Index) (u : Outcome) (by : ℕ) (b : List Value) → IsIndexOf i u b → IsIndexOf (modulo_fixed i by) (modulo u by) b
    moduled (fixed x) u by b p = ap (λ u. modulo u by) p
    moduled (bare k) u by b p = tt
    moduled computed u by b p = tt

    mutual
      pub index-of : (e : FlatExpr) (b : List Value) → IsIndexOf (flat_index e) (flat_outcome n s e b) b
      index-of (Number value at) b = refl
      index-of (Loop value at) b = refl
      index-of (Var var at) b = refl
      index-of (Sum' f (more_of-FlatExpr head end_of-FlatExpr) shape more) b = sum-of more (flat_index head) (flat_outcome n s head b) b (index-of head b)
      index-of (Modulo' shape (more_of-FlatExpr e end_of-FlatExpr) by at) b = moduled (flat_index e) (flat_outcome n s e b) by b (index-of e b)
      index-of _ b = tt

      sum-of : {m : _} (row : Row_of-FlatSigned m) (i : Index) (u : Outcome) (b : List Value) → IsIndexOf i u b → IsIndexOf (flat_index_sum i row) (flat_sum n s row u b) b
      sum-of end_of-FlatSigned i u b h = h
      sum-of (more_of-FlatSigned minus e others) i u b h =
          sum-of others (add_fixed minus i (flat_index e)) (add minus u (flat_outcome n s e b)) b (added minus i (flat_index e) u (flat_outcome n s e b) b h (index-of e b))

    index-place : (i : Index) (b : List Value) (v : Value) (ps : List Place) → IsIndexOf i (Some v) b → Has ps (named v) → Has (index_places (map named b) i ps) (named v)
    index-place (fixed None) b v ps p h = absurd (cc)
    index-place (fixed (Some c)) b v ps p h = Has-filter (same_place (named c)) h (subst (λ x. same c x ≡ true) (sym (inner p)) (same-itself c))
      where
        inner : {x y : Value} → Some x ≡ Some y → x ≡ y
        inner e = cc
    index-place (bare var) b v ps p h = Has-filter (is_bound_to (slice_get (map named b) var)) h (subst (λ o. is_bound_to o (named v) ≡ true) (sym (bound-named b var ∙ ap as_place (sym p))) (same-itself v))
    index-place computed b v ps p h = h

    -- the element that is read is one of those that the reference may read
    read-there : (over : List FlatSimple) {m : _} (row : Row_of-FlatExpr m) (b vs : List Value) → OneForEach over row → index_values over (flat_outcomes n s row b) ≡ Some vs →
        AreOf (each_index (map named b) (indexes_read row) (map (named_in w) over)) (map named vs)
    read-there [] end_of-FlatExpr b vs h e = subst (λ vs. AreOf (each_index (map named b) [] []) (map named vs)) (inner e) tt
      where
        inner : {x y : List Value} → Some x ≡ Some y → x ≡ y
        inner e = cc
    read-there [] (more_of-FlatExpr x others) b vs h e = elim h [ ]
    read-there (t ∷ over) end_of-FlatExpr b vs h e = elim h [ ]
    read-there (t ∷ over) (more_of-FlatExpr x others) b vs h e = at (flat_outcome n s x b) (index-of x b) e (λ us. read-there over others b us h)
      where
        inner : {x y : List Value} → Some x ≡ Some y → x ≡ y
        inner e = cc

        more : (v : Value) → Has (values_in n t) v → IsIndexOf (flat_index x) (Some v) b → (o : Option (List Value)) → option_map (λ us. v ∷ us) o ≡ Some vs →
            ((us : List Value) → o ≡ Some us → AreOf (each_index (map named b) (indexes_read others) (map (named_in w) over)) (map named us)) →
            AreOf (index_places (map named b) (flat_index x) (named_in w t) ∷ each_index (map named b) (indexes_read others) (map (named_in w) over)) (map named vs)
        more v k i None e goes = absurd (cc)
        more v k i (Some us) e goes = subst (λ vs. AreOf (index_places (map named b) (flat_index x) (named_in w t) ∷ each_index (map named b) (indexes_read others) (map (named_in w) over)) (map named vs)) (inner e)
            (index-place (flat_index x) b v (named_in w t) i (subst (λ ps. Has ps (named v)) (sym (named_are t)) (Has-map named k)), goes us refl)

        by_test : (v : Value) (c : Bool) → is_in (values_in n t) v ≡ c → IsIndexOf (flat_index x) (Some v) b → all_defined ((if c then Some v else None) ∷ map (λ (t, u). value_in (values_in n t) u) (zip over (flat_outcomes n s others b))) ≡ Some vs →
            ((us : List Value) → index_values over (flat_outcomes n s others b) ≡ Some us → AreOf (each_index (map named b) (indexes_read others) (map (named_in w) over)) (map named us)) →
            AreOf (index_places (map named b) (flat_index x) (named_in w t) ∷ each_index (map named b) (indexes_read others) (map (named_in w) over)) (map named vs)
        by_test v true q i e goes = more v (Has-is_in (values_in n t) v q) i (index_values over (flat_outcomes n s others b)) e goes
        by_test v false q i e goes = absurd (cc)

        at : (o : Outcome) → IsIndexOf (flat_index x) o b → all_defined (value_in (values_in n t) o ∷ map (λ (t, u). value_in (values_in n t) u) (zip over (flat_outcomes n s others b))) ≡ Some vs →
            ((us : List Value) → index_values over (flat_outcomes n s others b) ≡ Some us → AreOf (each_index (map named b) (indexes_read others) (map (named_in w) over)) (map named us)) →
            AreOf (index_places (map named b) (flat_index x) (named_in w t) ∷ each_index (map named b) (indexes_read others) (map (named_in w) over)) (map named vs)
        at None i e goes = absurd (cc)
        at (Some v) i e goes = by_test v (is_in (values_in n t) v) refl i e goes

    module _ (kept : Kept) (a : AbsState) (shows : Shows kept a s) where
      read-just : (family : ℕ) (o : Option Family) {m : _} (row : Row_of-FlatExpr m) (b : List Value) → OneForEachOf o row → AreKept kept (elements_in w family (indexes_read row) (map named b) o) →
          Just (may_read w kept a family o (map as_place (flat_outcomes n s row b))) (as_place (flat_element_at n s family o (flat_outcomes n s row b)))
      read-just family None row b h k = just-one None
      read-just family (Some f) row b h k =
          subst (λ x. Just (places_at w kept a family f x) (as_place (option_map (s family) (index_values f.over (flat_outcomes n s row b))))) (sym (indexes-are f.over (flat_outcomes n s row b)))
          (at (index_values f.over (flat_outcomes n s row b)) refl)
        where
          at : (o : Option (List Value)) → index_values f.over (flat_outcomes n s row b) ≡ o → Just (places_at w kept a family f (option_map (map named) o)) (as_place (option_map (s family) o))
          at None e = just-one None
          at (Some vs) e =
              let is_kept : kept family (map named vs) ≡ true = k (element family (map named vs))
              (Has-map (element family) (one_of (each_index (map named b) (indexes_read row) (map (named_in w) f.over)) (map named vs) (read-there f.over row b vs h e))) in
              subst (λ c. Just (if c then Some (a family (map named vs)) ∷ [] else map Some (places_in w f.value)) (Some (named (s family vs)))) (sym is_kept)
              (just-is (ap Some (shows family vs is_kept)) (just-one (Some (a family (map named vs)))))

      abbrev May : FlatExpr → List Value → List AbsOutcome
      May e b = may w kept a e (map named b)

      abbrev Is : FlatExpr → List Value → AbsOutcome
      Is e b = as_place (flat_outcome n s e b)

      chain : (join : List Truth → Truth) (xss : List (List AbsOutcome)) (os : List Outcome) → EachJust xss (map as_place os) → Just (map (λ us. shown (join (map seen us))) (one_of_each xss)) (as_place (bit (join (map truth os))))
      chain join xss os h = just-is (ap (λ ts. shown (join ts)) (seen-each os)) (just-map (λ us. shown (join (map seen us))) (just-choices xss (map as_place os) h))

      numbers-are : (ks : List ℕ) (xss : List (List AbsOutcome)) (os : List Outcome) → EachJust xss (map as_place os) → EachJust (map (λ k. Some (named (number k)) ∷ []) ks ++ xss) (map as_place (map (λ k. Some (number k)) ks ++ os))
      numbers-are [] xss os h = h
      numbers-are (k ∷ ks) xss os h = (just-one (Some (named (number k))), numbers-are ks xss os h)

      -- what the body of a quantifier reads at a value
      body-kept : (body : FlatExpr) (b : List Value) (var : ℕ) (over : FlatSimple) (v : Value) → Has (values_in n over) v →
          AreKept kept (flat_map (λ p. elements_read w body (bind_place (map named b) var p)) (named_in w over)) → AreKept kept (elements_read w body (map named (bind b var v)))
      body-kept body b var over v m k x i = k x (Has-flat_map (λ p. elements_read w body (bind_place (map named b) var p)) (subst (λ ps. Has ps (named v)) (sym (named_are over)) (Has-map named m))
          (subst (λ ps. Has (elements_read w body ps) x) (sym (bind-named b var v)) i))

      mutual
        pub exact : (e : FlatExpr) (b : List Value) → IsWhole n.families e → AreKept kept (elements_read w e (map named b)) → Just (may w kept a e (map named b)) (as_place (flat_outcome n s e b))
        exact (Number value at) b h k = just-one (Some (named (number value)))
        exact (Read' family shape indexes at) b h k =
            just-flat (may_read w kept a family (slice_get n.families family))
            (just-choices (may_each w kept a indexes (map named b)) (map as_place (flat_outcomes n s indexes b)) (exact-each indexes b h.1 (kept-right kept (elements_at w family (indexes_read indexes) (map named b)) (reads_each (named_in w) (elements_at w) indexes (map named b)) k)))
            (read-just family (slice_get n.families family) indexes b h.0 (kept-left kept (elements_at w family (indexes_read indexes) (map named b)) (reads_each (named_in w) (elements_at w) indexes (map named b)) k))
        exact (Var var at) b h k = just-is (bound-named b var) (just-one (slice_get (map named b) var))
        exact (Loop value at) b h k = just-one (Some (named (number value)))
        exact (Constant list value at) b h k = just-one (as_place (option_map constant (slice_get (get_or n.enums list []) value)))
        exact (Not' shape (more_of-FlatExpr e end_of-FlatExpr) at) b h k = just-is (ap (λ t. shown (not_of t)) (seen-is (flat_outcome n s e b))) (just-map (λ u. shown (not_of (seen u))) (exact e b h k))
        exact (And' shape parts) b h k = chain conjunction (may_each w kept a parts (map named b)) (flat_outcomes n s parts b) (exact-each parts b h k)
        exact (Or' shape parts) b h k = chain disjunction (may_each w kept a parts (map named b)) (flat_outcomes n s parts b) (exact-each parts b h k)
        exact (Implies' shape parts) b h k = chain implication (may_each w kept a parts (map named b)) (flat_outcomes n s parts b) (exact-each parts b h k)
        exact (Iff' l (more_of-FlatExpr left end_of-FlatExpr) r (more_of-FlatExpr right end_of-FlatExpr)) b h k =
            just-is (ap (λ t. shown (iff_of t (seen (Is right b)))) (seen-is (flat_outcome n s left b)) ∙ ap (λ t. shown (iff_of (truth (flat_outcome n s left b)) t)) (seen-is (flat_outcome n s right b)))
            (just-pairs (λ u v. shown (iff_of (seen u) (seen v)) ∷ [])
            (exact left b h.0 (kept-left kept (elements_read w left (map named b)) (elements_read w right (map named b)) k))
            (exact right b h.1 (kept-right kept (elements_read w left (map named b)) (elements_read w right (map named b)) k))
            (just-one (shown (iff_of (seen (Is left b)) (seen (Is right b))))))
        exact (Compare' op l (more_of-FlatExpr left end_of-FlatExpr) r (more_of-FlatExpr right end_of-FlatExpr)) b h k =
            just-pairs (λ u v. map shown (may_compare op u v))
            (exact left b h.0 (kept-left kept (elements_read w left (map named b)) (elements_read w right (map named b)) k))
            (exact right b h.1 (kept-right kept (elements_read w left (map named b)) (elements_read w right (map named b)) k))
            (subst (λ ts. Just (map shown ts) (shown (compare op (flat_outcome n s left b) (flat_outcome n s right b)))) (sym (compare-is op (flat_outcome n s left b) (flat_outcome n s right b)))
            (just-one (shown (compare op (flat_outcome n s left b) (flat_outcome n s right b)))))
        exact (Within' l (more_of-FlatExpr left end_of-FlatExpr) r (more_of-FlatExpr set end_of-FlatExpr)) b h k =
            let o = flat_outcome n s left b in
            let os = flat_listed n s set b in
            just-pairs (λ u vs. map (λ ts. shown (disjunction ts)) (one_of_each (map (where_defined equal_places u) vs)))
            (exact left b h.0 (kept-left kept (elements_read w left (map named b)) (elements_read w set (map named b)) k))
            (just-choices (may_listed w kept a set (map named b)) (map as_place os) (exact-listed set b h.1 (kept-right kept (elements_read w left (map named b)) (elements_read w set (map named b)) k)))
            (just-map (λ ts. shown (disjunction ts)) (just-choices (map (where_defined equal_places (as_place o)) (map as_place os)) (map (equal o) os) (equal-each o os)))
        exact (Sum' f (more_of-FlatExpr head end_of-FlatExpr) shape more) b h k =
            exact-sum more (May head b) (flat_outcome n s head b) b h.1 (kept-right kept (elements_read w head (map named b)) (reads_signed (named_in w) (elements_at w) more (map named b)) k)
            (exact head b h.0 (kept-left kept (elements_read w head (map named b)) (reads_signed (named_in w) (elements_at w) more (map named b)) k))
        exact (Modulo' shape (more_of-FlatExpr e end_of-FlatExpr) by at) b h k = just-is (ap (λ o. as_place (modulo o by)) (valued-is (flat_outcome n s e b))) (just-map (λ u. as_place (modulo (valued u) by)) (exact e b h k))
        exact (Choose' c (more_of-FlatExpr test end_of-FlatExpr) l (more_of-FlatExpr left end_of-FlatExpr) r (more_of-FlatExpr right end_of-FlatExpr)) b h k =
            let front = kept-left kept (elements_read w test (map named b) ++ elements_read w left (map named b)) (elements_read w right (map named b)) k in
            just-flat (λ u. branch (None ∷ []) (seen u) (May left b) (May right b))
            (exact test b h.0 (kept-left kept (elements_read w test (map named b)) (elements_read w left (map named b)) front))
            (subst (λ t. Just (branch (None ∷ []) t (May left b) (May right b)) (as_place (branch None (truth (flat_outcome n s test b)) (flat_outcome n s left b) (flat_outcome n s right b)))) (sym (seen-is (flat_outcome n s test b)))
            (branch-is (truth (flat_outcome n s test b)) (flat_outcome n s left b) (flat_outcome n s right b) (May left b) (May right b)
            (exact left b h.1 (kept-right kept (elements_read w test (map named b)) (elements_read w left (map named b)) front))
            (exact right b h.2 (kept-right kept (elements_read w test (map named b) ++ elements_read w left (map named b)) (elements_read w right (map named b)) k))))
        exact (All' shape (more_of-FlatExpr body end_of-FlatExpr) var over at) b h k =
            quantifier conjunction over (λ p. may w kept a body (bind_place (map named b) var p)) (λ v. flat_outcome n s body (bind b var v)) (λ v m. subst (λ ps. Just (may w kept a body ps) (Is body (bind b var v))) (sym (bind-named b var v)) (exact body (bind b var v) h (body-kept body b var over v m k)))
        exact (Any' shape (more_of-FlatExpr body end_of-FlatExpr) var over at) b h k =
            quantifier disjunction over (λ p. may w kept a body (bind_place (map named b) var p)) (λ v. flat_outcome n s body (bind b var v)) (λ v m. subst (λ ps. Just (may w kept a body ps) (Is body (bind b var v))) (sym (bind-named b var v)) (exact body (bind b var v) h (body-kept body b var over v m k)))
        exact (List' shape members at) b h k = just-one None
        exact (Each' var over test at) b h k = just-one None

        exact-each : {m : _} (row : Row_of-FlatExpr m) (b : List Value) → AreWhole n.families row → AreKept kept (reads_each (named_in w) (elements_at w) row (map named b)) →
            EachJust (may_each w kept a row (map named b)) (map as_place (flat_outcomes n s row b))
        exact-each end_of-FlatExpr b h k = tt
        exact-each (more_of-FlatExpr e others) b h k = (
          exact e b h.0 (kept-left kept (elements_read w e (map named b)) (reads_each (named_in w) (elements_at w) others (map named b)) k),
          exact-each others b h.1 (kept-right kept (elements_read w e (map named b)) (reads_each (named_in w) (elements_at w) others (map named b)) k),
        )

        exact-sum : {m : _} (row : Row_of-FlatSigned m) (us : List AbsOutcome) (u : Outcome) (b : List Value) → AreWholeSigned n.families row → AreKept kept (reads_signed (named_in w) (elements_at w) row (map named b)) → Just us (as_place u) →
            Just (may_sum w kept a row us (map named b)) (as_place (flat_sum n s row u b))
        exact-sum end_of-FlatSigned us u b h k j = j
        exact-sum (more_of-FlatSigned minus e others) us u b h k j =
            exact-sum others (pairs (λ u v. as_place (add minus (valued u) (valued v)) ∷ []) us (May e b)) (add minus u (flat_outcome n s e b)) b h.1
            (kept-right kept (elements_read w e (map named b)) (reads_signed (named_in w) (elements_at w) others (map named b)) k)
            (just-is (ap (λ o. as_place (add minus o (valued (Is e b)))) (valued-is u) ∙ ap (λ o. as_place (add minus u o)) (valued-is (flat_outcome n s e b)))
            (just-pairs (λ u v. as_place (add minus (valued u) (valued v)) ∷ []) j (exact e b h.0 (kept-left kept (elements_read w e (map named b)) (reads_signed (named_in w) (elements_at w) others (map named b)) k))
            (just-one (as_place (add minus (valued (as_place u)) (valued (Is e b)))))))

        exact-listed : (e : FlatExpr) (b : List Value) → IsWhole n.families e → AreKept kept (elements_read w e (map named b)) → EachJust (may_listed w kept a e (map named b)) (map as_place (flat_listed n s e b))
        exact-listed (List' shape members at) b h k = exact-members members b h k
        exact-listed _ b h k = tt

        pub exact-members : {m : _} (row : Row_of-FlatMember m) (b : List Value) → AreWholeMembers n.families row → AreKept kept (reads_members (named_in w) (elements_at w) row (map named b)) →
            EachJust (may_members w kept a row (map named b)) (map as_place (flat_members n s row b))
        exact-members end_of-FlatMember b h k = tt
        exact-members (more_of-FlatMember (One e) others) b h k = (
          exact e b h.0 (kept-left kept (elements_read w e (map named b)) (reads_members (named_in w) (elements_at w) others (map named b)) k),
          exact-members others b h.1 (kept-right kept (elements_read w e (map named b)) (reads_members (named_in w) (elements_at w) others (map named b)) k),
        )
        exact-members (more_of-FlatMember (SpanOf span at) others) b h k =
            numbers-are (numbers_from span.low (span.high + 1 - span.low)) (may_members w kept a others (map named b)) (flat_members n s others b) (exact-members others b h k)
