-- The outcomes of expressions of a well-formed case are at classes and rests whose numbers fit a byte.
use Rattle.std.proofs.Common.{◌≡◌, ℕ, zero, suc, ◌+◌, ◌-◌, ◌≤◌, List, [], ◌∷◌, ◌++◌, map, Bool, true, false, if◌then◌else◌, refl, sym, ap, subst, ◌∙◌, inl, inr, Option, Some, None, option_map, nat_le, arith}
use Rattle.std.specs.List.{flat_map, slice_get, zip}
use Rattle.smv_core.specs.Values.{number, constant, scalar, ordinal, Outcome, Truth, add, modulo, numbers_from, not_of, iff_of, conjunction, disjunction, implication}
use Rattle.smv_core.specs.Values as values
use Rattle.smv_core.specs.FlatMeaning as flat
use Rattle.smv_core.specs.FlatMeaning.{simple_in}
use Rattle.smv_core.specs.Outcome.{branch}
use Rattle.smv_core.specs.declared.flat.Family.{Family}
use Rattle.smv_core.specs.declared.flat.SetInfo.{SetInfo}
use Rattle.smv_core.specs.declared.flat.Simple.{Simple}
use Rattle.smv_core.specs.declared.flat.Simple.TheVariants.{Range, Enum, Set}
use Rattle.smv_core.specs.declared.flat.FlatExpr.{FlatExpr, Number, Read', Var, Loop, Constant, Not', And', Or', Implies', Iff', Compare', Within', Sum', Modulo', Choose', All', Any', List', Each', end_of-FlatExpr, more_of-FlatExpr, Row_of-FlatSigned, end_of-FlatSigned, more_of-FlatSigned}
use Rattle.smv_core.specs.declared.abstract_type.Rest.{Rest}
use Rattle.smv_core.specs.declared.abstract_type.Rest.TheVariants as beside
use Rattle.law_obligations.specs.Sets.{Has, first, later, one_of_each, parts, pairs, all_there}
use Rattle.law_obligations.specs.Places.{Place, named, rest, World, places_of, named_of, rests_of, rests_beside, named_in, rests_in, places_in, AbsOutcome, valued, as_place, equal_places, where_defined, may_compare, bind_place}
use Rattle.law_obligations.specs.May.{AbsState, Kept, seen, shown, place_within, quantified, places_at, may_read, may, may_each, may_sum, may_listed}
use Rattle.law_obligations.specs.Pictures.{IsAbsState}
use Rattle.law_obligations.proofs.Members.{Has-cases, Has-from_map, Has-uncons}
use Rattle.law_obligations.proofs.Spots.{numbers-Has}
use Rattle.law_obligations.proofs.OneOfEach.{Has-from_flat_map, get_Has}
use Rattle.law_obligations.specs.Readings.{PosedCase}
use Rattle.smv_problem.specs.WellFormed.{AreOf, IsWellFormed}

-- a class or a rest below 256
abbrev pub Narrow : Place → Type 0
Narrow (named (scalar t k)) = k ≤ 255
Narrow (named (ordinal t k)) = k ≤ 255
Narrow (rest (scalar t g)) = g ≤ 255
Narrow (rest (ordinal t g)) = g ≤ 255
Narrow _ = Unit {0}

abbrev pub IsNarrow : AbsOutcome → Type 0
IsNarrow (Some p) = Narrow p
IsNarrow None = Unit {0}

-- ---- lists of outcomes

abbrev AllNarrow : List AbsOutcome → Type 0
AllNarrow us = (u : AbsOutcome) → Has us u → IsNarrow u

one_narrow : (v : AbsOutcome) → IsNarrow v → AllNarrow (v ∷ [])
one_narrow v n _ first = n
one_narrow v n u (later h) = elim h [ ]

maps : {X : Type 0} (f : X → AbsOutcome) (xs : List X) → ((x : X) → IsNarrow (f x)) → AllNarrow (map f xs)
maps f xs each u h = let r = Has-from_map f xs h in subst IsNarrow (sym r.2) (each r.0)

flats : {X : Type 0} (f : X → List AbsOutcome) (xs : List X) → ((x : X) → Has xs x → AllNarrow (f x)) → AllNarrow (flat_map f xs)
flats f xs each u h = let r = Has-from_flat_map f xs h in each r.0 r.1 u r.2

paired : {X Y : Type 0} (f : X → Y → List AbsOutcome) (xs : List X) (ys : List Y) → ((x : X) (y : Y) → AllNarrow (f x y)) → AllNarrow (pairs f xs ys)
paired f xs ys each = flats (λ x. flat_map (f x) ys) xs (λ x h. flats (f x) ys (λ y k. each x y))

shown_narrow : (t : Truth) → IsNarrow (shown t)
shown_narrow (Some true) = tt
shown_narrow (Some false) = tt
shown_narrow None = tt

add_narrow : (minus : Bool) (x y : Outcome) → IsNarrow (as_place (add minus x y))
add_narrow false (Some (number m)) (Some (number n)) = at (nat_le (m + n) 511)
  where
    at : (b : Bool) → IsNarrow (as_place (if b then Some (number (m + n)) else None))
    at true = tt
    at false = tt
add_narrow true (Some (number m)) (Some (number n)) = at (nat_le n m)
  where
    at : (b : Bool) → IsNarrow (as_place (if b then Some (number (m - n)) else None))
    at true = tt
    at false = tt
add_narrow false None y = tt
add_narrow false (Some (constant c)) y = tt
add_narrow false (Some (scalar t k)) y = tt
add_narrow false (Some (ordinal t k)) y = tt
add_narrow false (Some (number m)) None = tt
add_narrow false (Some (number m)) (Some (constant c)) = tt
add_narrow false (Some (number m)) (Some (scalar t k)) = tt
add_narrow false (Some (number m)) (Some (ordinal t k)) = tt
add_narrow true None y = tt
add_narrow true (Some (constant c)) y = tt
add_narrow true (Some (scalar t k)) y = tt
add_narrow true (Some (ordinal t k)) y = tt
add_narrow true (Some (number m)) None = tt
add_narrow true (Some (number m)) (Some (constant c)) = tt
add_narrow true (Some (number m)) (Some (scalar t k)) = tt
add_narrow true (Some (number m)) (Some (ordinal t k)) = tt

modulo_narrow : (x : Outcome) (by : ℕ) → IsNarrow (as_place (modulo x by))
modulo_narrow None by = tt
modulo_narrow (Some (number m)) zero = tt
modulo_narrow (Some (number m)) (suc n) = tt
modulo_narrow (Some (constant c)) by = tt
modulo_narrow (Some (scalar t k)) by = tt
modulo_narrow (Some (ordinal t k)) by = tt

-- ---- expressions

module _ (w : World) (kept : Kept) (a : AbsState)
    (places : (t : Simple) (p : Place) → Has (places_in w t) p → Narrow p)
    (state : (family : ℕ) (f : Family) (ps : List Place) → slice_get w.classes.families family ≡ Some f → kept family ps ≡ true → Narrow (a family ps)) where
  read_narrow : (family : ℕ) (o : Option Family) → slice_get w.classes.families family ≡ o → (us : List AbsOutcome) → AllNarrow (may_read w kept a family o us)
  read_narrow family None e us = one_narrow None none
    where
      none : IsNarrow None
      none = tt
  read_narrow family (Some f) e us = at (all_there (map (λ (t, u). place_within (places_in w t) u) (zip f.over us)))
    where
      some : (p : Place) → Narrow p → IsNarrow (Some p)
      some p n = n

      none : IsNarrow None
      none = tt

      every : AllNarrow (map Some (places_in w f.value))
      every u h = let r = Has-from_map Some (places_in w f.value) h in subst IsNarrow (sym r.2) (some r.0 (places f.value r.0 r.1))

      at : (o : Option (List Place)) → AllNarrow (places_at w kept a family f o)
      at None = one_narrow None none
      at (Some ps) = by_test (kept family ps) refl
        where
          by_test : (b : Bool) → kept family ps ≡ b → AllNarrow (if b then Some (a family ps) ∷ [] else map Some (places_in w f.value))
          by_test true k = one_narrow (Some (a family ps)) (some (a family ps) (state family f ps e k))
          by_test false k = every

  bound_narrow : (b : List Place) → ((p : Place) → Has b p → Narrow p) → (var : ℕ) → IsNarrow (slice_get b var)
  bound_narrow b each var = at (slice_get b var) refl
    where
      at : (o : Option Place) → slice_get b var ≡ o → IsNarrow o
      at None e = tt
      at (Some p) e = each p (get_Has b var p e)

  sum_narrow : {m : _} (row : Row_of-FlatSigned m) (us : List AbsOutcome) (b : List Place) → AllNarrow us → AllNarrow (may_sum w kept a row us b)
  sum_narrow end_of-FlatSigned us b n = n
  sum_narrow (more_of-FlatSigned minus e others) us b n =
      sum_narrow others (pairs (λ u v. as_place (add minus (valued u) (valued v)) ∷ []) us (may w kept a e b)) b
      (paired (λ u v. as_place (add minus (valued u) (valued v)) ∷ []) us (may w kept a e b) (λ u v. one_narrow (as_place (add minus (valued u) (valued v))) (add_narrow minus (valued u) (valued v))))

  quantified_narrow : (join : List Truth → Truth) (at_named : List (List AbsOutcome)) (at_rests : List AbsOutcome) → AllNarrow (quantified join at_named at_rests)
  quantified_narrow join at_named at_rests = paired (λ us vs. shown (join (map seen (us ++ vs))) ∷ []) (one_of_each at_named) (parts at_rests) (λ us vs. one_narrow (shown (join (map seen (us ++ vs)))) (shown_narrow (join (map seen (us ++ vs)))))

  plain : (u : AbsOutcome) → IsNarrow u → AllNarrow (u ∷ [])
  plain u n = one_narrow u n

  number_narrow : (k : ℕ) → IsNarrow (Some (named (number k)))
  number_narrow k = tt

  constant_narrow : (o : Option (List ℕ)) → IsNarrow (as_place (option_map constant o))
  constant_narrow None = tt
  constant_narrow (Some name) = tt

  none_narrow : IsNarrow None
  none_narrow = tt

  branch_narrow : (t : Truth) (xs ys : List AbsOutcome) → AllNarrow xs → AllNarrow ys → AllNarrow (branch (None ∷ []) t xs ys)
  branch_narrow None xs ys n m = one_narrow None none_narrow
  branch_narrow (Some true) xs ys n m = n
  branch_narrow (Some false) xs ys n m = m

  pub may_narrow : (e : FlatExpr) (b : List Place) → ((p : Place) → Has b p → Narrow p) → AllNarrow (may w kept a e b)
  may_narrow (Number value place) b each = plain (Some (named (number value))) (number_narrow value)
  may_narrow (Read' family shape indexes place) b each =
      flats (may_read w kept a family (slice_get w.classes.families family)) (one_of_each (may_each w kept a indexes b)) (λ us h. read_narrow family (slice_get w.classes.families family) refl us)
  may_narrow (Var var place) b each = plain (slice_get b var) (bound_narrow b each var)
  may_narrow (Loop value place) b each = plain (Some (named (number value))) (number_narrow value)
  may_narrow (Constant list value place) b each = plain (as_place (option_map constant (slice_get _ value))) (constant_narrow (slice_get _ value))
  may_narrow (Not' shape (more_of-FlatExpr e end_of-FlatExpr) place) b each = maps (λ u. shown (not_of (seen u))) (may w kept a e b) (λ u. shown_narrow (not_of (seen u)))
  may_narrow (And' shape row) b each = maps (λ us. shown (conjunction (map seen us))) (one_of_each (may_each w kept a row b)) (λ us. shown_narrow (conjunction (map seen us)))
  may_narrow (Or' shape row) b each = maps (λ us. shown (disjunction (map seen us))) (one_of_each (may_each w kept a row b)) (λ us. shown_narrow (disjunction (map seen us)))
  may_narrow (Implies' shape row) b each = maps (λ us. shown (implication (map seen us))) (one_of_each (may_each w kept a row b)) (λ us. shown_narrow (implication (map seen us)))
  may_narrow (Iff' l (more_of-FlatExpr left end_of-FlatExpr) r (more_of-FlatExpr right end_of-FlatExpr)) b each =
      paired (λ u v. shown (iff_of (seen u) (seen v)) ∷ []) (may w kept a left b) (may w kept a right b) (λ u v. one_narrow (shown (iff_of (seen u) (seen v))) (shown_narrow (iff_of (seen u) (seen v))))
  may_narrow (Compare' op l (more_of-FlatExpr left end_of-FlatExpr) r (more_of-FlatExpr right end_of-FlatExpr)) b each =
      paired (λ u v. map shown (may_compare op u v)) (may w kept a left b) (may w kept a right b) (λ u v. maps shown (may_compare op u v) shown_narrow)
  may_narrow (Within' l (more_of-FlatExpr left end_of-FlatExpr) r (more_of-FlatExpr set end_of-FlatExpr)) b each =
      paired (λ u vs. map (λ ts. shown (disjunction ts)) (one_of_each (map (where_defined equal_places u) vs))) (may w kept a left b) (one_of_each (may_listed w kept a set b))
      (λ u vs. maps (λ ts. shown (disjunction ts)) (one_of_each (map (where_defined equal_places u) vs)) (λ ts. shown_narrow (disjunction ts)))
  may_narrow (Sum' f (more_of-FlatExpr head end_of-FlatExpr) shape more) b each = sum_narrow more (may w kept a head b) b (may_narrow head b each)
  may_narrow (Modulo' shape (more_of-FlatExpr e end_of-FlatExpr) by place) b each = maps (λ u. as_place (modulo (valued u) by)) (may w kept a e b) (λ u. modulo_narrow (valued u) by)
  may_narrow (Choose' c (more_of-FlatExpr test end_of-FlatExpr) l (more_of-FlatExpr left end_of-FlatExpr) r (more_of-FlatExpr right end_of-FlatExpr)) b each =
      let yes = may_narrow left b each in
      let no = may_narrow right b each in
      flats (λ u. branch (None ∷ []) (seen u) (may w kept a left b) (may w kept a right b)) (may w kept a test b) (λ u h. branch_narrow (seen u) (may w kept a left b) (may w kept a right b) yes no)
  may_narrow (All' shape (more_of-FlatExpr body end_of-FlatExpr) var over place) b each =
      quantified_narrow conjunction (map (λ p. may w kept a body (bind_place b var p)) (named_in w over)) (flat_map (λ p. may w kept a body (bind_place b var p)) (rests_in w over))
  may_narrow (Any' shape (more_of-FlatExpr body end_of-FlatExpr) var over place) b each =
      quantified_narrow disjunction (map (λ p. may w kept a body (bind_place b var p)) (named_in w over)) (flat_map (λ p. may w kept a body (bind_place b var p)) (rests_in w over))
  may_narrow (List' shape members place) b each = plain None none_narrow
  may_narrow (Each' var over test place) b each = plain None none_narrow

-- ---- places of types

rest_small : (r : Rest) (n g : ℕ) → n ≤ 256 → (r ≡ beside.Gaps → n ≤ 255) → Has (rests_beside r n) g → g ≤ 255
rest_small beside.None n g small gaps h = elim h [ ]
rest_small beside.One n g small gaps h = elim (Has-uncons h) [ inl e ↦ omega (arith, e) | inr k ↦ elim k [ ] ]
rest_small beside.Gaps n g small gaps h = let b = numbers-Has 0 (n + 1) g h in let l = gaps refl in omega (arith, b, l)

module _ (c : PosedCase) (well : IsWellFormed c) where
  abbrev w : World
  w = c.problem.world

  of_info : (info : SetInfo) → Has w.classes.sets info → (b : Bool) (p : Place) → Has (places_of w (if b then values.ordset info.name else values.scalarset info.name)) p → Narrow p
  of_info info there b p h = at b h
    where
      class_small : (k : ℕ) → Has (numbers_from 0 (w.classes.sizes info.name)) k → k ≤ 255
      class_small k h = let n = numbers-Has 0 (w.classes.sizes info.name) k h in let few = well.classes info there in omega (arith, n, few)

      gap_small : (g : ℕ) → Has (rests_beside (w.rests info.name) (w.classes.sizes info.name)) g → g ≤ 255
      gap_small g h = rest_small (w.rests info.name) (w.classes.sizes info.name) g (well.classes info there) (well.gaps info there) h

      at : (b : Bool) → Has (places_of w (if b then values.ordset info.name else values.scalarset info.name)) p → Narrow p
      at true h = elim (Has-cases (named_of w (values.ordset info.name)) (rests_of w (values.ordset info.name)) h) [
        | inl l ↦
            let r = Has-from_map named (map (ordinal info.name) (numbers_from 0 (w.classes.sizes info.name))) l in
            let q = Has-from_map (ordinal info.name) (numbers_from 0 (w.classes.sizes info.name)) r.1 in
            subst Narrow (sym (r.2 ∙ ap named q.2)) (class_small q.0 q.1)
        | inr l ↦
            let r = Has-from_map (λ g. rest (ordinal info.name g)) (rests_beside (w.rests info.name) (w.classes.sizes info.name)) l in
            subst Narrow (sym r.2) (gap_small r.0 r.1)
      ]
      at false h = elim (Has-cases (named_of w (values.scalarset info.name)) (rests_of w (values.scalarset info.name)) h) [
        | inl l ↦
            let r = Has-from_map named (map (scalar info.name) (numbers_from 0 (w.classes.sizes info.name))) l in
            let q = Has-from_map (scalar info.name) (numbers_from 0 (w.classes.sizes info.name)) r.1 in
            subst Narrow (sym (r.2 ∙ ap named q.2)) (class_small q.0 q.1)
        | inr l ↦
            let r = Has-from_map (λ g. rest (scalar info.name g)) (rests_beside (w.rests info.name) (w.classes.sizes info.name)) l in
            subst Narrow (sym r.2) (gap_small r.0 r.1)
      ]

  pub type_narrow : (t : Simple) (p : Place) → Has (places_in w t) p → Narrow p
  type_narrow (Range low high) p h = elim (Has-cases (named_of w (simple_in w.classes (Range low high))) [] h) [
    | inl l ↦
        let r = Has-from_map named (map number (numbers_from low _)) l in
        let q = Has-from_map number (numbers_from low _) r.1 in
        subst Narrow (sym (r.2 ∙ ap named q.2)) tt
    | inr k ↦ elim k [ ]
  ]
  type_narrow (Enum list) p h = elim (Has-cases (named_of w (simple_in w.classes (Enum list))) [] h) [
    | inl l ↦
        let r = Has-from_map named (map constant _) l in
        let q = Has-from_map constant _ r.1 in
        subst Narrow (sym (r.2 ∙ ap named q.2)) tt
    | inr k ↦ elim k [ ]
  ]
  type_narrow (Set set) p h = at (slice_get w.classes.sets set) refl h
    where
      at : (o : Option SetInfo) → slice_get w.classes.sets set ≡ o → Has (places_of w (flat.set_type o)) p → Narrow p
      at None e h = elim h [ ]
      at (Some info) e h = of_info info (get_Has w.classes.sets set info e) info.ordered p h

  bindings_narrow : (over : List Simple) (b : List Place) → AreOf w over b → (p : Place) → Has b p → Narrow p
  bindings_narrow [] [] are p h = elim h [ ]
  bindings_narrow [] (q ∷ b) are p h = absurd are
  bindings_narrow (t ∷ over) [] are p h = elim h [ ]
  bindings_narrow (t ∷ over) (q ∷ b) are _ first = type_narrow t q are.0
  bindings_narrow (t ∷ over) (q ∷ b) are p (later h) = bindings_narrow over b are.1 p h

  -- the outcomes of an expression in a state of the case
  pub outcomes_narrow : (a : AbsState) → IsAbsState w c.problem.kept a → (e : FlatExpr) (over : List Simple) (b : List Place) → AreOf w over b → (u : AbsOutcome) → Has (may w c.problem.kept a e b) u → IsNarrow u
  outcomes_narrow a state e over b are =
      may_narrow w c.problem.kept a type_narrow (λ family f ps is k. type_narrow f.value (a family ps) (state.is_somewhere family f is ps k)) e b (bindings_narrow over b are)
