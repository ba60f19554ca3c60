-- Outcomes do not change when the values of scalarsets are exchanged throughout.
use Rattle.std.proofs.Common.{◌≡◌, ℕ, zero, suc, ◌+◌, ◌-◌, ◌<◌, ◌≤◌, List, [], ◌∷◌, ◌++◌, map, zip, Some, None, Option, option_map, unwrap_or, filter, true, false, Bool, cond, ◌&&◌, ◌||◌, ◌⊎◌, inl, inr, ⊎_elim, refl, sym, ap, ◌∙◌, subst, nat_eq, nat_le, arith}
use Rattle.std.specs.List.{list_any}
use Rattle.std.specs.Prelude.{not}
use Rattle.std.proofs.Common.{Contains}
use Rattle.std.proofs.lemmas.List.Elements.{Contains-append_right}
use Rattle.std.proofs.lemmas.Bool.{eq-eqb, eqb-true}
use Rattle.std.proofs.lemmas.Slice.Eq.{bytes_eq-Decides}
use Rattle.std.specs.Str.{bytes_eq}
use Rattle.smv_core.specs.Values.{Name, Path, Value, number, constant, scalar, ordinal, Simple, range, choice, scalarset, ordset, Sizes, values_of, numbers_from, Outcome, Truth, truth, same, is_in, bit, not_of, and_of, or_of, iff_of, conjunction, disjunction, implication, equal, below, compare, add, modulo, value_in, all_defined}
use Rattle.smv_core.specs.Types.{Family, find_name, values_over, simple, values_or_none}
use Rattle.smv_core.specs.Outcome.{allowed_by, fit, meets, is_true, State, Scene, Bindings, outcome, truths, indexes, sum_with, listed, members_of, branch, or_signal, element_at, variable_at, family_at, fields_of}
use Rattle.smv_core.specs.declared.tree.Op.{Op}
use Rattle.smv_core.specs.declared.tree.Op.TheVariants.{Equal, Differ, Less, AtMost, Greater, AtLeast}
use Rattle.smv_core.specs.declared.tree.Part.{Field, At}
use Rattle.smv_core.specs.declared.tree.Member.{One, Span as SpanOf}
use Rattle.smv_core.specs.declared.tree.Expr.{Expr, Number, Signal', Not', And', Or', Implies', Iff', Compare', Within', Sum', Modulo', Choose', All', Any', List', Each', Held-Expr-Each-2, None', Some', Row_of-Expr, end_of-Expr, more_of-Expr, Row_of-Part, end_of-Part, more_of-Part, Row_of-Member, end_of-Member, more_of-Member, Row_of-Signed, end_of-Signed, more_of-Signed, items-the_row-Part}
use Rattle.std.specs.Option.{is_none}
use Rattle.law_lists.proofs.Booleans.{same_tests}
use Rattle.smv_core.specs.Outcome.{same_path}
use Rattle.smv_core.specs.Walk.{Element, Walk, walk, walk_parts, walk_held, walk_arms, first, first_of, if_walk, unless_nothing, assigned, is_other, is_label, steps_of, same_kind, indexes_of}
use Rattle.law_meaning.specs.Exchange.{Exchanges, exchanged, exchanged_outcome, exchanged_bindings, exchanged_element}
use Rattle.smv_core.specs.declared.tree.Kind.{Kind}
use Rattle.smv_core.specs.declared.tree.Path.{out-Path}
use Rattle.smv_core.specs.declared.tree.Stmt.{Stmt, Assign, Block', If', Switch', Default', For', Forall', Held-Stmt-If-2, Row_of-Stmt, end_of-Stmt, more_of-Stmt, Row_of-Arm, end_of-Arm, more_of-Arm}
use Rattle.smv_core.specs.declared.tree.Stmt as stmt

-- one of the list is this
abbrev pub Has : {X : Type 0} → List X → X → Type 0
Has [] x = ⊥
Has (y ∷ ys) x = (y ≡ x) ⊎ Has ys x

pub has-map : {X Y : Type 0} (h : X → Y) (xs : List X) (x : X) → Has xs x → Has (map h xs) (h x)
has-map h [] x p = p
has-map h (y ∷ ys) x (inl e) = inl (ap h e)
has-map h (y ∷ ys) x (inr p) = inr (has-map h ys x p)

pub has-unmap : {X Y : Type 0} (h : X → Y) (xs : List X) (y : Y) → Has (map h xs) y → (x : X) × Has xs x × (h x ≡ y)
has-unmap h [] y p = absurd p
has-unmap h (x ∷ xs) y (inl e) = (x, inl refl, e)
has-unmap h (x ∷ xs) y (inr p) = let q = has-unmap h xs y p in (q.0, inr q.1, q.2)

-- a conjunction is told by the members of its list
false-in : (us : List Truth) → Has us (Some false) → conjunction us ≡ Some false
false-in [] p = absurd p
false-in (u ∷ us) (inl e) = rw (e) refl
false-in (u ∷ us) (inr p) = rw (false-in us p) (last u)
  where
    last : (u : Truth) → and_of u (Some false) ≡ Some false
    last None = refl
    last (Some false) = refl
    last (Some true) = refl

in-false : (us : List Truth) → conjunction us ≡ Some false → Has us (Some false)
in-false [] e = absurd (cc)
in-false (Some false ∷ us) e = inl refl
in-false (Some true ∷ us) e = by_rest (conjunction us) (in-false us) e
  where
    by_rest : (r : Truth) → (r ≡ Some false → Has us (Some false)) → and_of (Some true) r ≡ Some false → Has (Some true ∷ us) (Some false)
    by_rest None h e = absurd (cc)
    by_rest (Some false) h e = inr (h refl)
    by_rest (Some true) h e = absurd (cc)
in-false (None ∷ us) e = by_rest (conjunction us) (in-false us) e
  where
    by_rest : (r : Truth) → (r ≡ Some false → Has us (Some false)) → and_of None r ≡ Some false → Has (None ∷ us) (Some false)
    by_rest None h e = absurd (cc)
    by_rest (Some false) h e = inr (h refl)
    by_rest (Some true) h e = absurd (cc)

in-true : (us : List Truth) → conjunction us ≡ Some true → (u : Truth) → Has us u → u ≡ Some true
in-true [] e u p = absurd p
in-true (v ∷ us) e u p = by_both v (conjunction us) refl e (in-true us) p
  where
    by_both : (w r : Truth) → v ≡ w → and_of w r ≡ Some true → (r ≡ Some true → (u : Truth) → Has us u → u ≡ Some true) → Has (v ∷ us) u → u ≡ Some true
    by_both (Some true) (Some true) same_v e h (inl q) = sym q ∙ same_v
    by_both (Some true) (Some true) same_v e h (inr q) = h refl u q
    by_both (Some true) (Some false) same_v e h q = absurd (cc)
    by_both (Some true) None same_v e h q = absurd (cc)
    by_both (Some false) r same_v e h q = absurd (cc)
    by_both None (Some true) same_v e h q = absurd (cc)
    by_both None (Some false) same_v e h q = absurd (cc)
    by_both None None same_v e h q = absurd (cc)

true-in : (us : List Truth) → ((u : Truth) → Has us u → u ≡ Some true) → conjunction us ≡ Some true
true-in [] h = refl
true-in (u ∷ us) h = rw (h u (inl refl), true-in us (λ v p. h v (inr p))) refl

-- lists with the same members have one conjunction
conjunction-same : (us ws : List Truth) → ((u : Truth) → Has us u → Has ws u) → ((u : Truth) → Has ws u → Has us u) → conjunction us ≡ conjunction ws
conjunction-same us ws there back = by_left (conjunction us) refl
  where
    by_right : (r : Truth) → conjunction us ≡ None → conjunction ws ≡ r → None ≡ r
    by_right None e f = refl
    by_right (Some false) e f = sym e ∙ false-in us (back (Some false) (in-false ws f))
    by_right (Some true) e f = sym e ∙ true-in us (λ u p. in-true ws f u (there u p))

    by_left : (r : Truth) → conjunction us ≡ r → conjunction us ≡ conjunction ws
    by_left None e = e ∙ by_right (conjunction ws) e refl
    by_left (Some false) e = e ∙ sym (false-in ws (there (Some false) (in-false us e)))
    by_left (Some true) e = e ∙ sym (true-in ws (λ u p. in-true us e u (back u p)))

or-by_and : (u v : Truth) → or_of u v ≡ not_of (and_of (not_of u) (not_of v))
or-by_and None None = refl
or-by_and None (Some false) = refl
or-by_and None (Some true) = refl
or-by_and (Some false) None = refl
or-by_and (Some false) (Some false) = refl
or-by_and (Some false) (Some true) = refl
or-by_and (Some true) None = refl
or-by_and (Some true) (Some false) = refl
or-by_and (Some true) (Some true) = refl

not-not : (u : Truth) → not_of (not_of u) ≡ u
not-not None = refl
not-not (Some false) = refl
not-not (Some true) = refl

disjunction-by_conjunction : (us : List Truth) → disjunction us ≡ not_of (conjunction (map not_of us))
disjunction-by_conjunction [] = refl
disjunction-by_conjunction (u ∷ us) = or-by_and u (disjunction us) ∙ ap (λ w. not_of (and_of (not_of u) w)) (ap not_of (disjunction-by_conjunction us) ∙ not-not (conjunction (map not_of us)))

truth-ren : (f : Name → ℕ → ℕ) (u : Outcome) → truth (exchanged_outcome f u) ≡ truth u
truth-ren f None = refl
truth-ren f (Some (number zero)) = refl
truth-ren f (Some (number (suc zero))) = refl
truth-ren f (Some (number (suc (suc n)))) = refl
truth-ren f (Some (constant a)) = refl
truth-ren f (Some (scalar t n)) = refl
truth-ren f (Some (ordinal t n)) = refl

ren-bit : (f : Name → ℕ → ℕ) (u : Truth) → bit u ≡ exchanged_outcome f (bit u)
ren-bit f None = refl
ren-bit f (Some false) = refl
ren-bit f (Some true) = refl

pub numbers-have : (first k n : ℕ) → first ≤ n → n < first + k → Has (numbers_from first k) n
numbers-have first zero n low high = absurd (omega (arith, low, high))
numbers-have first (suc k) n low high = ⊎_elim (λ e. inl e) (λ lt. inr (numbers-have (first + 1) k n (omega (arith, lt)) (omega (arith, high)))) (eq_or_above first n low)
  where
    eq_or_above : (a b : ℕ) → a ≤ b → (a ≡ b) ⊎ (a < b)
    eq_or_above a b h = grind (arith, h)

pub have-numbers : (first k n : ℕ) → Has (numbers_from first k) n → n < first + k
have-numbers first zero n p = absurd p
have-numbers first (suc k) n (inl e) = omega (arith, e)
have-numbers first (suc k) n (inr p) = let h = have-numbers (first + 1) k n p in omega (arith, h)

nat-refl : (n : ℕ) → nat_eq n n ≡ true
nat-refl n = eq-eqb n n refl

bytes-refl : (t : Name) → bytes_eq t t ≡ true
bytes-refl t = (bytes_eq-Decides t t).1 refl

any-has : {X : Type 0} (test : X → Bool) (xs : List X) → list_any test xs ≡ true → (x : X) × Has xs x × (test x ≡ true)
any-has test [] e = absurd (cc)
any-has {X} test (x ∷ xs) e = by_test (test x) refl e (any-has test xs)
  where
    by_test : (b : Bool) → test x ≡ b → (b || list_any test xs) ≡ true → (list_any test xs ≡ true → (y : X) × Has xs y × (test y ≡ true)) → (y : X) × Has (x ∷ xs) y × (test y ≡ true)
    by_test true h e rest = (x, inl refl, h)
    by_test false h e rest = let q = rest e in (q.0, inr q.1, q.2)

has-any : {X : Type 0} (test : X → Bool) (xs : List X) (x : X) → Has xs x → test x ≡ true → list_any test xs ≡ true
has-any test [] x p e = absurd p
has-any test (y ∷ ys) x (inl q) e = rw (q, e) refl
has-any test (y ∷ ys) x (inr p) e = by_test (test y) (has-any test ys x p e)
  where
    by_test : (b : Bool) → list_any test ys ≡ true → (b || list_any test ys) ≡ true
    by_test true h = refl
    by_test false h = h

module _ (sizes : Sizes) (f g : Name → ℕ → ℕ) (ex : Exchanges sizes f g) where
  open ex use {there_back, back_there, keeps, keeps_back}

  nat-ren : (t : Name) (m n : ℕ) → nat_eq (f t m) (f t n) ≡ nat_eq m n
  nat-ren t m n = same_tests (nat_eq (f t m) (f t n)) (nat_eq m n)
      (λ e. eq-eqb m n (sym (back_there t m) ∙ ap (g t) (eqb-true (f t m) (f t n) e) ∙ back_there t n))
      (λ e. eq-eqb (f t m) (f t n) (ap (f t) (eqb-true m n e)))

  same-ren : (u v : Value) → same (exchanged f u) (exchanged f v) ≡ same u v
  same-ren (scalar t m) (scalar u n) = by_name (bytes_eq t u) (bytes_eq-Decides t u).0
    where
      by_name : (b : Bool) → (b ≡ true → t ≡ u) → (b && nat_eq (f t m) (f u n)) ≡ (b && nat_eq m n)
      by_name true h = subst (λ w. nat_eq (f t m) (f w n) ≡ nat_eq m n) (h refl) (nat-ren t m n)
      by_name false h = refl
  same-ren (scalar t m) (number n) = refl
  same-ren (scalar t m) (constant n) = refl
  same-ren (scalar t m) (ordinal u n) = refl
  same-ren (number m) (number n) = refl
  same-ren (number m) (constant n) = refl
  same-ren (number m) (scalar u n) = refl
  same-ren (number m) (ordinal u n) = refl
  same-ren (constant m) (number n) = refl
  same-ren (constant m) (constant n) = refl
  same-ren (constant m) (scalar u n) = refl
  same-ren (constant m) (ordinal u n) = refl
  same-ren (ordinal t m) (number n) = refl
  same-ren (ordinal t m) (constant n) = refl
  same-ren (ordinal t m) (scalar u n) = refl
  same-ren (ordinal t m) (ordinal u n) = refl

  -- each value of a type has its new one in the type, and is the new one of some value of the type
  there : (t : Simple) (v : Value) → Has (values_of sizes t) v → Has (values_of sizes t) (exchanged f v)
  there (range low high) v p = let q = has-unmap number (numbers_from low (high + 1 - low)) v p in subst (λ w. Has (map number (numbers_from low (high + 1 - low))) (exchanged f w)) q.2 (has-map number _ q.0 q.1)
  there (choice names) v p = let q = has-unmap constant names v p in subst (λ w. Has (map constant names) (exchanged f w)) q.2 (has-map constant names q.0 q.1)
  there (ordset t) v p = let q = has-unmap (ordinal t) (numbers_from 0 (sizes t)) v p in subst (λ w. Has (map (ordinal t) (numbers_from 0 (sizes t))) (exchanged f w)) q.2 (has-map (ordinal t) _ q.0 q.1)
  there (scalarset t) v p =
      let q = has-unmap (scalar t) (numbers_from 0 (sizes t)) v p in
      let low = have-numbers 0 (sizes t) q.0 q.1 in
      let new : f t q.0 < 0 + sizes t = let k = keeps t q.0 (omega (arith, low)) in omega (arith, k) in
      subst (λ w. Has (map (scalar t) (numbers_from 0 (sizes t))) (exchanged f w)) q.2 (has-map (scalar t) (numbers_from 0 (sizes t)) (f t q.0) (numbers-have 0 (sizes t) (f t q.0) (omega arith) new))

  back : (t : Simple) (v : Value) → Has (values_of sizes t) v → (w : Value) × Has (values_of sizes t) w × (exchanged f w ≡ v)
  back (range low high) v p = let q = has-unmap number (numbers_from low (high + 1 - low)) v p in (number q.0, has-map number _ q.0 q.1, q.2)
  back (choice names) v p = let q = has-unmap constant names v p in (constant q.0, has-map constant names q.0 q.1, q.2)
  back (ordset t) v p = let q = has-unmap (ordinal t) (numbers_from 0 (sizes t)) v p in (ordinal t q.0, has-map (ordinal t) _ q.0 q.1, q.2)
  back (scalarset t) v p =
      let q = has-unmap (scalar t) (numbers_from 0 (sizes t)) v p in
      let low = have-numbers 0 (sizes t) q.0 q.1 in
      let old : g t q.0 < 0 + sizes t = let k = keeps_back t q.0 (omega (arith, low)) in omega (arith, k) in
      (scalar t (g t q.0), has-map (scalar t) (numbers_from 0 (sizes t)) (g t q.0) (numbers-have 0 (sizes t) (g t q.0) (omega arith) old), ap (scalar t) (there_back t q.0) ∙ q.2)

  is_in-ren : (t : Simple) (v : Value) → is_in (values_of sizes t) (exchanged f v) ≡ is_in (values_of sizes t) v
  is_in-ren t v = same_tests (is_in (values_of sizes t) (exchanged f v)) (is_in (values_of sizes t) v) old new
    where
      old : is_in (values_of sizes t) (exchanged f v) ≡ true → is_in (values_of sizes t) v ≡ true
      old e =
          let q = any-has (same (exchanged f v)) (values_of sizes t) e in
          let r = back t q.0 q.1 in
          let same_old : same v r.0 ≡ true = sym (same-ren v r.0) ∙ ap (same (exchanged f v)) r.2 ∙ q.2 in
          has-any (same v) (values_of sizes t) r.0 r.1 same_old

      new : is_in (values_of sizes t) v ≡ true → is_in (values_of sizes t) (exchanged f v) ≡ true
      new e =
          let q = any-has (same v) (values_of sizes t) e in
          has-any (same (exchanged f v)) (values_of sizes t) (exchanged f q.0) (there t q.0 q.1) (same-ren v q.0 ∙ q.2)

  value_in-ren : (t : Simple) (u : Outcome) → value_in (values_of sizes t) (exchanged_outcome f u) ≡ exchanged_outcome f (value_in (values_of sizes t) u)
  value_in-ren t None = refl
  value_in-ren t (Some v) = rw (is_in-ren t v) (by_test (is_in (values_of sizes t) v))
    where
      by_test : (b : Bool) → cond b (Some (exchanged f v)) None ≡ exchanged_outcome f (cond b (Some v) None)
      by_test true = refl
      by_test false = refl

  more_defined : (o : Outcome) (xs ys : List Outcome) → all_defined xs ≡ option_map (map (exchanged f)) (all_defined ys) → all_defined (exchanged_outcome f o ∷ xs) ≡ option_map (map (exchanged f)) (all_defined (o ∷ ys))
  more_defined None xs ys h = refl
  more_defined (Some v) xs ys h = ap (option_map (λ vs. exchanged f v ∷ vs)) h ∙ last (all_defined ys)
    where
      last : (r : Option (List Value)) → option_map (λ vs. exchanged f v ∷ vs) (option_map (map (exchanged f)) r) ≡ option_map (map (exchanged f)) (option_map (λ vs. v ∷ vs) r)
      last None = refl
      last (Some vs) = refl

  abbrev in_types : List Simple → List Outcome → List Outcome
  in_types over us = map (λ (t, u). value_in (values_of sizes t) u) (zip over us)

  all_defined-ren : (over : List Simple) (us : List Outcome) → all_defined (in_types over (map (exchanged_outcome f) us)) ≡ option_map (map (exchanged f)) (all_defined (in_types over us))
  all_defined-ren [] us = refl
  all_defined-ren (t ∷ over) [] = refl
  all_defined-ren (t ∷ over) (u ∷ us) =
      ap (λ o. all_defined (o ∷ in_types over (map (exchanged_outcome f) us))) (value_in-ren t u) ∙ more_defined (value_in (values_of sizes t) u) (in_types over (map (exchanged_outcome f) us)) (in_types over us) (all_defined-ren over us)

  map-map : (h : Truth → Truth) (F : Value → Truth) (vs : List Value) → map h (map F vs) ≡ map (λ v. h (F v)) vs
  map-map h F [] = refl
  map-map h F (v ∷ vs) = ap (λ l. h (F v) ∷ l) (map-map h F vs)

  -- a conjunction over all values of a type
  conjunction-ren : (t : Option Simple) (F G : Value → Truth) → ((v : Value) → G (exchanged f v) ≡ F v) → conjunction (map G (values_or_none sizes t)) ≡ conjunction (map F (values_or_none sizes t))
  conjunction-ren None F G h = refl
  conjunction-ren (Some t) F G h = conjunction-same (map G (values_of sizes t)) (map F (values_of sizes t)) old new
    where
      old : (u : Truth) → Has (map G (values_of sizes t)) u → Has (map F (values_of sizes t)) u
      old u p = let q = has-unmap G (values_of sizes t) u p in let r = back t q.0 q.1 in
          subst (Has (map F (values_of sizes t))) (sym (h r.0) ∙ ap G r.2 ∙ q.2) (has-map F (values_of sizes t) r.0 r.1)

      new : (u : Truth) → Has (map F (values_of sizes t)) u → Has (map G (values_of sizes t)) u
      new u p = let q = has-unmap F (values_of sizes t) u p in
          subst (Has (map G (values_of sizes t))) (h q.0 ∙ q.2) (has-map G (values_of sizes t) (exchanged f q.0) (there t q.0 q.1))

  disjunction-ren : (t : Option Simple) (F G : Value → Truth) → ((v : Value) → G (exchanged f v) ≡ F v) → disjunction (map G (values_or_none sizes t)) ≡ disjunction (map F (values_or_none sizes t))
  disjunction-ren t F G h =
      disjunction-by_conjunction (map G (values_or_none sizes t)) ∙ ap (λ l. not_of (conjunction l)) (map-map not_of G (values_or_none sizes t))
      ∙ ap not_of (conjunction-ren t (λ v. not_of (F v)) (λ v. not_of (G v)) (λ v. ap not_of (h v)))
      ∙ sym (disjunction-by_conjunction (map F (values_or_none sizes t)) ∙ ap (λ l. not_of (conjunction l)) (map-map not_of F (values_or_none sizes t)))

  equal-ren : (u v : Outcome) → equal (exchanged_outcome f u) (exchanged_outcome f v) ≡ equal u v
  equal-ren None v = refl
  equal-ren (Some u) None = refl
  equal-ren (Some u) (Some v) = ap Some (same-ren u v)

  below-ren : (u v : Outcome) → below (exchanged_outcome f u) (exchanged_outcome f v) ≡ below u v
  below-ren None v = refl
  below-ren (Some (number m)) None = refl
  below-ren (Some (number m)) (Some (number n)) = refl
  below-ren (Some (number m)) (Some (constant a)) = refl
  below-ren (Some (number m)) (Some (scalar t n)) = refl
  below-ren (Some (number m)) (Some (ordinal t n)) = refl
  below-ren (Some (constant a)) v = refl
  below-ren (Some (scalar t m)) v = refl
  below-ren (Some (ordinal t m)) None = refl
  below-ren (Some (ordinal t m)) (Some (number n)) = refl
  below-ren (Some (ordinal t m)) (Some (constant a)) = refl
  below-ren (Some (ordinal t m)) (Some (scalar u n)) = refl
  below-ren (Some (ordinal t m)) (Some (ordinal u n)) = refl

  compare-ren : (op : Op) (u v : Outcome) → compare op (exchanged_outcome f u) (exchanged_outcome f v) ≡ compare op u v
  compare-ren Equal u v = equal-ren u v
  compare-ren Differ u v = ap not_of (equal-ren u v)
  compare-ren Less u v = below-ren u v
  compare-ren AtMost u v = ap not_of (below-ren v u)
  compare-ren Greater u v = below-ren v u
  compare-ren AtLeast u v = ap not_of (below-ren u v)

  add-ren : (minus : Bool) (u v : Outcome) → add minus (exchanged_outcome f u) (exchanged_outcome f v) ≡ exchanged_outcome f (add minus u v)
  add-ren false None v = refl
  add-ren true None v = refl
  add-ren false (Some (number m)) None = refl
  add-ren true (Some (number m)) None = refl
  add-ren false (Some (number m)) (Some (number n)) = by_test (nat_le (m + n) 511)
    where
      by_test : (b : Bool) → cond b (Some (number (m + n))) None ≡ exchanged_outcome f (cond b (Some (number (m + n))) None)
      by_test true = refl
      by_test false = refl
  add-ren true (Some (number m)) (Some (number n)) = by_test (nat_le n m)
    where
      by_test : (b : Bool) → cond b (Some (number (m - n))) None ≡ exchanged_outcome f (cond b (Some (number (m - n))) None)
      by_test true = refl
      by_test false = refl
  add-ren false (Some (number m)) (Some (constant a)) = refl
  add-ren true (Some (number m)) (Some (constant a)) = refl
  add-ren false (Some (number m)) (Some (scalar t n)) = refl
  add-ren true (Some (number m)) (Some (scalar t n)) = refl
  add-ren false (Some (number m)) (Some (ordinal t n)) = refl
  add-ren true (Some (number m)) (Some (ordinal t n)) = refl
  add-ren false (Some (constant a)) v = refl
  add-ren true (Some (constant a)) v = refl
  add-ren false (Some (scalar t m)) v = refl
  add-ren true (Some (scalar t m)) v = refl
  add-ren false (Some (ordinal t m)) v = refl
  add-ren true (Some (ordinal t m)) v = refl

  modulo-ren : (u : Outcome) (k : ℕ) → modulo (exchanged_outcome f u) k ≡ exchanged_outcome f (modulo u k)
  modulo-ren None k = refl
  modulo-ren (Some (number m)) zero = refl
  modulo-ren (Some (number m)) (suc k) = refl
  modulo-ren (Some (constant a)) k = refl
  modulo-ren (Some (scalar t n)) k = refl
  modulo-ren (Some (ordinal t n)) k = refl

  branch-ren : (o : Truth) (u v : Outcome) → branch None o (exchanged_outcome f u) (exchanged_outcome f v) ≡ exchanged_outcome f (branch None o u v)
  branch-ren None u v = refl
  branch-ren (Some false) u v = refl
  branch-ren (Some true) u v = refl

  find-ren : (b : Bindings) (name : Name) → find_name (exchanged_bindings f b) name ≡ exchanged_outcome f (find_name b name)
  find-ren [] name = refl
  find-ren ((other, v) ∷ b) name = by_test (bytes_eq other name) (find-ren b name)
    where
      by_test : (t : Bool) → find_name (exchanged_bindings f b) name ≡ exchanged_outcome f (find_name b name) → cond t (Some (exchanged f v)) (find_name (exchanged_bindings f b) name) ≡ exchanged_outcome f (cond t (Some v) (find_name b name))
      by_test true h = refl
      by_test false h = h

  variable-ren : (b : Bindings) (path : Path) → variable_at (exchanged_bindings f b) path ≡ exchanged_outcome f (variable_at b path)
  variable-ren b [] = refl
  variable-ren b (name ∷ []) = find-ren b name
  variable-ren b (name ∷ other ∷ more) = refl

  numbers-ren : (ns : List ℕ) → map (λ n. Some (number n)) ns ≡ map (exchanged_outcome f) (map (λ n. Some (number n)) ns)
  numbers-ren [] = refl
  numbers-ren (n ∷ ns) = ap (λ l. Some (number n) ∷ l) (numbers-ren ns)

  map-append : (us ws : List Outcome) → map (exchanged_outcome f) (us ++ ws) ≡ map (exchanged_outcome f) us ++ map (exchanged_outcome f) ws
  map-append [] ws = refl
  map-append (u ∷ us) ws = ap (λ l. exchanged_outcome f u ∷ l) (map-append us ws)

  equals-ren : (u : Outcome) (us : List Outcome) → map (equal (exchanged_outcome f u)) (map (exchanged_outcome f) us) ≡ map (equal u) us
  equals-ren u [] = refl
  equals-ren u (w ∷ us) = rw (equal-ren u w) (ap (λ l. equal u w ∷ l) (equals-ren u us))

  equals-along : (u w : Outcome) (us ws : List Outcome) → w ≡ exchanged_outcome f u → ws ≡ map (exchanged_outcome f) us → map (equal w) ws ≡ map (equal u) us
  equals-along u w us ws h k = rw (h, k) (equals-ren u us)

  -- in a state that gives each exchanged element the exchanged value
  module _ (types : List (Name × List Family)) (families : List Family) (instance : Path) (s t : State) (are_exchanged : (p : Path) (vs : List Value) → t p (map (exchanged f) vs) ≡ exchanged f (s p vs)) where
    abbrev here : Scene
    here = record { types = types; families = families; sizes = sizes; instance = instance }

    element-ren : (fam : Family) (us : List Outcome) → element_at sizes t fam (map (exchanged_outcome f) us) ≡ exchanged_outcome f (element_at sizes s fam us)
    element-ren fam us = ap (option_map (t fam.path)) (all_defined-ren fam.over us) ∙ last (all_defined (in_types fam.over us))
      where
        last : (r : Option (List Value)) → option_map (t fam.path) (option_map (map (exchanged f)) r) ≡ exchanged_outcome f (option_map (s fam.path) r)
        last None = refl
        last (Some vs) = ap Some (are_exchanged fam.path vs)

    read-ren : (o : Outcome) (fam : Option Family) (path : Path) (us : List Outcome) → or_signal sizes t (exchanged_outcome f o) fam path (map (exchanged_outcome f) us) ≡ exchanged_outcome f (or_signal sizes s o fam path us)
    read-ren (Some v) fam path us = refl
    read-ren None (Some fam) path us = element-ren fam us
    read-ren None None [] us = refl
    read-ren None None (name ∷ []) us = refl
    read-ren None None (name ∷ other ∷ more) us = refl

    truth-of : (u w : Outcome) → u ≡ exchanged_outcome f w → truth u ≡ truth w
    truth-of u w h = ap truth h ∙ truth-ren f w

    bits : (u w : Truth) → u ≡ w → bit u ≡ exchanged_outcome f (bit w)
    bits u w h = ap bit h ∙ ren-bit f w

    mutual
      pub outcome-ren : (e : Expr) (b : Bindings) → outcome here t e (exchanged_bindings f b) ≡ exchanged_outcome f (outcome here s e b)
      outcome-ren (Number value at) b = refl
      outcome-ren (Signal' shape parts at) b =
          let path = fields_of (items-the_row-Part _ parts) in
          rw (variable-ren b path, indexes-ren parts b) (read-ren (variable_at b path) (family_at families (instance ++ path)) path (indexes here s parts b))
      outcome-ren (Not' shape (more_of-Expr e end_of-Expr) at) b = bits _ (not_of (truth (outcome here s e b))) (ap not_of (truth-of _ (outcome here s e b) (outcome-ren e b)))
      outcome-ren (And' shape parts) b = bits _ (conjunction (truths here s parts b)) (ap conjunction (truths-ren parts b))
      outcome-ren (Or' shape parts) b = bits _ (disjunction (truths here s parts b)) (ap disjunction (truths-ren parts b))
      outcome-ren (Implies' shape parts) b = bits _ (implication (truths here s parts b)) (ap implication (truths-ren parts b))
      outcome-ren (Iff' l (more_of-Expr left end_of-Expr) r (more_of-Expr right end_of-Expr)) b =
          bits _ (iff_of (truth (outcome here s left b)) (truth (outcome here s right b))) (rw (truth-of _ (outcome here s left b) (outcome-ren left b), truth-of _ (outcome here s right b) (outcome-ren right b)) refl)
      outcome-ren (Compare' op l (more_of-Expr left end_of-Expr) r (more_of-Expr right end_of-Expr)) b =
          bits _ (compare op (outcome here s left b) (outcome here s right b)) (rw (outcome-ren left b, outcome-ren right b) (compare-ren op (outcome here s left b) (outcome here s right b)))
      outcome-ren (Within' l (more_of-Expr left end_of-Expr) r (more_of-Expr set end_of-Expr)) b =
          bits _ (disjunction (map (equal (outcome here s left b)) (listed here s set b))) (ap disjunction (equals-along (outcome here s left b) (outcome here t left (exchanged_bindings f b)) (listed here s set b) (listed here t set (exchanged_bindings f b)) (outcome-ren left b) (listed-ren set b)))
      outcome-ren (Sum' a (more_of-Expr first end_of-Expr) shape more) b = sum-ren more (outcome here t first (exchanged_bindings f b)) (outcome here s first b) b (outcome-ren first b)
      outcome-ren (Modulo' shape (more_of-Expr e end_of-Expr) by at) b = ap (λ u. modulo u by) (outcome-ren e b) ∙ modulo-ren (outcome here s e b) by
      outcome-ren (Choose' c (more_of-Expr test end_of-Expr) l (more_of-Expr left end_of-Expr) r (more_of-Expr right end_of-Expr)) b =
          rw (truth-of _ (outcome here s test b) (outcome-ren test b), outcome-ren left b, outcome-ren right b) (branch-ren (truth (outcome here s test b)) (outcome here s left b) (outcome here s right b))
      outcome-ren (All' shape (more_of-Expr body end_of-Expr) var over at) b =
          bits _ (conjunction (map (λ v. truth (outcome here s body ((var.name, v) ∷ b))) (values_over types sizes over)))
          (conjunction-ren (simple types over) (λ v. truth (outcome here s body ((var.name, v) ∷ b))) (λ v. truth (outcome here t body ((var.name, v) ∷ exchanged_bindings f b))) (λ v. truth-of _ (outcome here s body ((var.name, v) ∷ b)) (outcome-ren body ((var.name, v) ∷ b))))
      outcome-ren (Any' shape (more_of-Expr body end_of-Expr) var over at) b =
          bits _ (disjunction (map (λ v. truth (outcome here s body ((var.name, v) ∷ b))) (values_over types sizes over)))
          (disjunction-ren (simple types over) (λ v. truth (outcome here s body ((var.name, v) ∷ b))) (λ v. truth (outcome here t body ((var.name, v) ∷ exchanged_bindings f b))) (λ v. truth-of _ (outcome here s body ((var.name, v) ∷ b)) (outcome-ren body ((var.name, v) ∷ b))))
      outcome-ren (List' shape members at) b = refl
      outcome-ren (Each' var over test at) b = refl

      truths-ren : {m : _} (parts : Row_of-Expr m) (b : Bindings) → truths here t parts (exchanged_bindings f b) ≡ truths here s parts b
      truths-ren end_of-Expr b = refl
      truths-ren (more_of-Expr e rest) b = rw (truth-of _ (outcome here s e b) (outcome-ren e b)) (ap (λ l. truth (outcome here s e b) ∷ l) (truths-ren rest b))

      indexes-ren : {m : _} (parts : Row_of-Part m) (b : Bindings) → indexes here t parts (exchanged_bindings f b) ≡ map (exchanged_outcome f) (indexes here s parts b)
      indexes-ren end_of-Part b = refl
      indexes-ren (more_of-Part (Field word) rest) b = indexes-ren rest b
      indexes-ren (more_of-Part (At index) rest) b = rw (outcome-ren index b) (ap (λ l. exchanged_outcome f (outcome here s index b) ∷ l) (indexes-ren rest b))

      sum-ren : {m : _} (more : Row_of-Signed m) (u w : Outcome) (b : Bindings) → u ≡ exchanged_outcome f w → sum_with here t more u (exchanged_bindings f b) ≡ exchanged_outcome f (sum_with here s more w b)
      sum-ren end_of-Signed u w b h = h
      sum-ren (more_of-Signed minus e rest) u w b h = sum-ren rest (add minus u (outcome here t e (exchanged_bindings f b))) (add minus w (outcome here s e b)) b (rw (h, outcome-ren e b) (add-ren minus w (outcome here s e b)))

      listed-ren : (set : Expr) (b : Bindings) → listed here t set (exchanged_bindings f b) ≡ map (exchanged_outcome f) (listed here s set b)
      listed-ren (List' shape members at) b = members-ren members b
      listed-ren _ b = refl

      members-ren : {m : _} (members : Row_of-Member m) (b : Bindings) → members_of here t members (exchanged_bindings f b) ≡ map (exchanged_outcome f) (members_of here s members b)
      members-ren end_of-Member b = refl
      members-ren (more_of-Member (One e) rest) b = rw (outcome-ren e b) (ap (λ l. exchanged_outcome f (outcome here s e b) ∷ l) (members-ren rest b))
      members-ren (more_of-Member (SpanOf span at) rest) b =
          rw (members-ren rest b) (ap (λ l. l ++ map (exchanged_outcome f) (members_of here s rest b)) (numbers-ren (numbers_from span.low (span.high + 1 - span.low)))
          ∙ sym (map-append (map (λ n. Some (number n)) (numbers_from span.low (span.high + 1 - span.low))) (members_of here s rest b)))

  -- the second list has the new values of those of the first, and no others
  abbrev pub Pictured : List Value → List Value → Type 0
  Pictured vs ws = ((v : Value) → Has vs v → Has ws (exchanged f v)) × ((w : Value) → Has ws w → (v : Value) × Has vs v × (exchanged f v ≡ w))

  pictured-map : (vs : List Value) → Pictured vs (map (exchanged f) vs)
  pictured-map vs = (λ v p. has-map (exchanged f) vs v p, λ w p. has-unmap (exchanged f) vs w p)

  has-filter : (F : Value → Bool) (vs : List Value) (v : Value) → Has vs v → F v ≡ true → Has (filter F vs) v
  has-filter F [] v p e = absurd p
  has-filter F (x ∷ vs) v (inl q) e = rw (q, e) (inl refl)
  has-filter F (x ∷ vs) v (inr p) e = by_test (F x) (has-filter F vs v p e)
    where
      by_test : (b : Bool) → Has (filter F vs) v → Has (cond b (x ∷ filter F vs) (filter F vs)) v
      by_test true h = inr h
      by_test false h = h

  filter-has : (F : Value → Bool) (vs : List Value) (v : Value) → Has (filter F vs) v → Has vs v × (F v ≡ true)
  filter-has F [] v p = absurd p
  filter-has F (x ∷ vs) v p = by_test (F x) refl (filter-has F vs v) p
    where
      by_test : (b : Bool) → F x ≡ b → (Has (filter F vs) v → Has vs v × (F v ≡ true)) → Has (cond b (x ∷ filter F vs) (filter F vs)) v → Has (x ∷ vs) v × (F v ≡ true)
      by_test true e h (inl q) = (inl q, subst (λ y. F y ≡ true) q e)
      by_test true e h (inr q) = let r = h q in (inr r.0, r.1)
      by_test false e h q = let r = h q in (inr r.0, r.1)

  pictured-filter : (t : Option Simple) (F G : Value → Bool) → ((v : Value) → G (exchanged f v) ≡ F v) → Pictured (filter F (values_or_none sizes t)) (filter G (values_or_none sizes t))
  pictured-filter None F G h = (λ v p. absurd p, λ w p. absurd p)
  pictured-filter (Some t) F G h = (
    λ v p. let q = filter-has F (values_of sizes t) v p in has-filter G (values_of sizes t) (exchanged f v) (there t v q.0) (h v ∙ q.1),
    λ w p. let q = filter-has G (values_of sizes t) w p in let r = back t w q.0 in (r.0, has-filter F (values_of sizes t) r.0 r.1 (sym (h r.0) ∙ ap G r.2 ∙ q.1), r.2),
  )

  -- a target's type
  module _ (target : Simple) where
    abbrev pub every : List Value
    every = values_of sizes target

    abbrev in_every : List Outcome → List Outcome
    in_every us = map (value_in every) us

    pictured-every : Pictured every every
    pictured-every = (there target, back target)

    in_every-ren : (us : List Outcome) → all_defined (in_every (map (exchanged_outcome f) us)) ≡ option_map (map (exchanged f)) (all_defined (in_every us))
    in_every-ren [] = refl
    in_every-ren (u ∷ us) =
        ap (λ o. all_defined (o ∷ in_every (map (exchanged_outcome f) us))) (value_in-ren target u) ∙ more_defined (value_in every u) (in_every (map (exchanged_outcome f) us)) (in_every us) (in_every-ren us)

    fit-ren : (us : List Outcome) → Pictured (fit every us) (fit every (map (exchanged_outcome f) us))
    fit-ren [] = pictured-every
    fit-ren (u ∷ us) = subst (λ r. Pictured (unwrap_or (all_defined (in_every (u ∷ us))) every) (unwrap_or r every)) (sym (in_every-ren (u ∷ us))) (by_values (all_defined (in_every (u ∷ us))))
      where
        by_values : (r : Option (List Value)) → Pictured (unwrap_or r every) (unwrap_or (option_map (map (exchanged f)) r) every)
        by_values None = pictured-every
        by_values (Some vs) = pictured-map vs

    all-in : (xs : List Value) → ((v : Value) → Has xs v → is_in every v ≡ true) → all_defined (in_every (map Some xs)) ≡ Some xs
    all-in [] h = refl
    all-in (x ∷ xs) h = ap (λ b. all_defined (cond b (Some x) None ∷ in_every (map Some xs))) (h x (inl refl)) ∙ ap (option_map (λ vs. x ∷ vs)) (all-in xs (λ v p. h v (inr p)))

    one-out : (xs : List Value) (v : Value) → Has xs v → is_in every v ≡ false → all_defined (in_every (map Some xs)) ≡ None
    one-out [] v p out = absurd p
    one-out (x ∷ xs) v (inl e) out = ap (λ b. all_defined (cond b (Some x) None ∷ in_every (map Some xs))) (ap (is_in every) e ∙ out)
    one-out (x ∷ xs) v (inr p) out = by_test (is_in every x) (one-out xs v p out)
      where
        by_test : (b : Bool) → all_defined (in_every (map Some xs)) ≡ None → all_defined (cond b (Some x) None ∷ in_every (map Some xs)) ≡ None
        by_test true h = ap (option_map (λ vs. x ∷ vs)) h
        by_test false h = refl

    decide : (xs : List Value) → ((v : Value) → Has xs v → is_in every v ≡ true) ⊎ ((v : Value) × Has xs v × (is_in every v ≡ false))
    decide [] = inl (λ v p. absurd p)
    decide (x ∷ xs) = by_test (is_in every x) refl (decide xs)
      where
        by_test : (b : Bool) → is_in every x ≡ b → ((v : Value) → Has xs v → is_in every v ≡ true) ⊎ ((v : Value) × Has xs v × (is_in every v ≡ false)) →
            ((v : Value) → Has (x ∷ xs) v → is_in every v ≡ true) ⊎ ((v : Value) × Has (x ∷ xs) v × (is_in every v ≡ false))
        by_test false e h = inr (x, inl refl, e)
        by_test true e (inr q) = inr (q.0, inr q.1, q.2)
        by_test true e (inl h) = inl (λ v p. ⊎_elim (λ q. ap (is_in every) (sym q) ∙ e) (λ q. h v q) p)

    fit-sets : (xs ys : List Value) → Pictured xs ys → Pictured (fit every (map Some xs)) (fit every (map Some ys))
    fit-sets [] [] p = pictured-every
    fit-sets [] (y ∷ ys) p = absurd ((p.1 y (inl refl)).1)
    fit-sets (x ∷ xs) [] p = absurd (p.0 x (inl refl))
    fit-sets (x ∷ xs) (y ∷ ys) p = by_case (decide (x ∷ xs))
      where
        by_case : ((v : Value) → Has (x ∷ xs) v → is_in every v ≡ true) ⊎ ((v : Value) × Has (x ∷ xs) v × (is_in every v ≡ false)) → Pictured (fit every (map Some (x ∷ xs))) (fit every (map Some (y ∷ ys)))
        by_case (inl h) =
            let all : (w : Value) → Has (y ∷ ys) w → is_in every w ≡ true = λ w q. let r = p.1 w q in ap (is_in every) (sym r.2) ∙ is_in-ren target r.0 ∙ h r.0 r.1 in
            subst (λ r. Pictured (unwrap_or r every) (fit every (map Some (y ∷ ys)))) (sym (all-in (x ∷ xs) h)) (subst (λ r. Pictured (x ∷ xs) (unwrap_or r every)) (sym (all-in (y ∷ ys) all)) p)
        by_case (inr q) =
            let out = one-out (y ∷ ys) (exchanged f q.0) (p.0 q.0 q.1) (is_in-ren target q.0 ∙ q.2) in
            subst (λ r. Pictured (unwrap_or r every) (fit every (map Some (y ∷ ys)))) (sym (one-out (x ∷ xs) q.0 q.1 q.2)) (subst (λ r. Pictured every (unwrap_or r every)) (sym out) pictured-every)

    branch-pictured : (o : Truth) (a b c d : List Value) → Pictured a c → Pictured b d → Pictured (branch every o a b) (branch every o c d)
    branch-pictured None a b c d p q = pictured-every
    branch-pictured (Some true) a b c d p q = p
    branch-pictured (Some false) a b c d p q = q

    module _ (types : List (Name × List Family)) (families : List Family) (instance : Path) (s t : State) (are_exchanged : (p : Path) (vs : List Value) → t p (map (exchanged f) vs) ≡ exchanged f (s p vs)) where
      abbrev there_scene : Scene
      there_scene = record { types = types; families = families; sizes = sizes; instance = instance }

      same_truth : (e : Expr) (b : Bindings) → truth (outcome there_scene t e (exchanged_bindings f b)) ≡ truth (outcome there_scene s e b)
      same_truth e b = ap truth (outcome-ren types families instance s t are_exchanged e b) ∙ truth-ren f (outcome there_scene s e b)

      meets-ren : (test : Held-Expr-Each-2) (b : Bindings) → meets there_scene t test (exchanged_bindings f b) ≡ meets there_scene s test b
      meets-ren None' b = refl
      meets-ren (Some' shape (more_of-Expr test end_of-Expr)) b = ap is_true (same_truth test b)

      pub allowed_by-ren : (e : Expr) (b : Bindings) → Pictured (allowed_by there_scene s every e b) (allowed_by there_scene t every e (exchanged_bindings f b))
      allowed_by-ren (List' shape members at) b = rw (members-ren types families instance s t are_exchanged members b) (fit-ren (members_of there_scene s members b))
      allowed_by-ren (Each' var over test at) b = fit-sets _ _
          (pictured-filter (simple types over) (λ v. meets there_scene s test ((var.name, v) ∷ b)) (λ v. meets there_scene t test ((var.name, v) ∷ exchanged_bindings f b)) (λ v. meets-ren test ((var.name, v) ∷ b)))
      allowed_by-ren (Choose' c (more_of-Expr test end_of-Expr) l (more_of-Expr left end_of-Expr) r (more_of-Expr right end_of-Expr)) b =
          rw (same_truth test b) (branch-pictured (truth (outcome there_scene s test b)) (allowed_by there_scene s every left b) (allowed_by there_scene s every right b)
          (allowed_by there_scene t every left (exchanged_bindings f b)) (allowed_by there_scene t every right (exchanged_bindings f b)) (allowed_by-ren left b) (allowed_by-ren right b))
      allowed_by-ren e b = rw (outcome-ren types families instance s t are_exchanged e b) (fit-ren (outcome there_scene s e b ∷ []))

      -- both Nothing, or both a set, one pictured by the other
      abbrev pub PicturedWalk : Walk → Walk → Type 0
      PicturedWalk None None = Unit {0}
      PicturedWalk (Some vs) (Some ws) = Pictured vs ws
      PicturedWalk _ _ = ⊥

      pictured-none : (v w : Walk) → PicturedWalk v w → is_none w ≡ is_none v
      pictured-none None None p = refl
      pictured-none (Some vs) (Some ws) p = refl
      pictured-none None (Some ws) p = absurd p
      pictured-none (Some vs) None p = absurd p

      pictured-first_of : (v w v' w' : Walk) → PicturedWalk v v' → PicturedWalk w w' → PicturedWalk (first_of v w) (first_of v' w')
      pictured-first_of None w None w' p q = q
      pictured-first_of (Some vs) w (Some vs') w' p q = p
      pictured-first_of None w (Some vs') w' p q = absurd p
      pictured-first_of (Some vs) w None w' p q = absurd p

      pictured-unless : (v w v' w' : Walk) → PicturedWalk v v' → PicturedWalk w w' → PicturedWalk (unless_nothing every v w) (unless_nothing every v' w')
      pictured-unless None None None None p q = tt
      pictured-unless None (Some ws) None (Some ws') p q = pictured-every
      pictured-unless (Some vs) w (Some vs') w' p q = pictured-every
      pictured-unless None (Some ws) None None p q = absurd q
      pictured-unless None None None (Some ws') p q = absurd q
      pictured-unless None w (Some vs') w' p q = absurd p
      pictured-unless (Some vs) w None w' p q = absurd p

      pictured-if : (o : Truth) (v w v' w' : Walk) → PicturedWalk v v' → PicturedWalk w w' → PicturedWalk (if_walk every o v w) (if_walk every o v' w')
      pictured-if None v w v' w' p q = pictured-unless v w v' w' p q
      pictured-if (Some true) v w v' w' p q = p
      pictured-if (Some false) v w v' w' p q = q

      pictured-first : {X : Type 0} (W V : X → Walk) (xs : List X) → ((x : X) → Contains xs x → PicturedWalk (W x) (V x)) → PicturedWalk (first (map W xs)) (first (map V xs))
      pictured-first W V [] h = tt
      pictured-first W V (x ∷ xs) h =
          pictured-first_of (W x) (first (map W xs)) (V x) (first (map V xs)) (h x (0, omega arith, refl)) (pictured-first W V xs (λ y p. h y (Contains-append_right (x ∷ []) xs y p)))

      -- at most one value gives a result
      abbrev pub IsSingle : (Value → Walk) → Type 0
      IsSingle W = (v w : Value) → is_none (W v) ≡ false → is_none (W w) ≡ false → v ≡ w

      first-none : (W : Value → Walk) (vs : List Value) → ((v : Value) → Has vs v → is_none (W v) ≡ true) → first (map W vs) ≡ None
      first-none W [] h = refl
      first-none W (v ∷ vs) h = by_walk (W v) (h v (inl refl)) (first-none W vs (λ w p. h w (inr p)))
        where
          by_walk : (u : Walk) → is_none u ≡ true → first (map W vs) ≡ None → first_of u (first (map W vs)) ≡ None
          by_walk None e rest = rest
          by_walk (Some us) e rest = absurd (cc)

      first-one : (W : Value → Walk) (vs : List Value) (v : Value) → Has vs v → is_none (W v) ≡ false → ((w : Value) → Has vs w → is_none (W w) ≡ false → w ≡ v) → first (map W vs) ≡ W v
      first-one W [] v p g only = absurd p
      first-one W (x ∷ vs) v p g only = by_walk (W x) refl p (λ q. first-one W vs v q g (λ w r. only w (inr r)))
        where
          none_some : (u : Walk) → u ≡ None → is_none u ≡ false → ⊥
          none_some None e h = cc
          none_some (Some us) e h = cc

          by_walk : (u : Walk) → W x ≡ u → Has (x ∷ vs) v → (Has vs v → first (map W vs) ≡ W v) → first_of u (first (map W vs)) ≡ W v
          by_walk (Some us) e q rest = sym e ∙ ap W (only x (inl refl) (ap is_none e))
          by_walk None e (inr q) rest = rest q
          by_walk None e (inl q) rest = absurd (none_some (W v) (sym (ap W q) ∙ e) g)

      some_gives : (W : Value → Walk) (vs : List Value) → ((v : Value) → Has vs v → is_none (W v) ≡ true) ⊎ ((v : Value) × Has vs v × (is_none (W v) ≡ false))
      some_gives W [] = inl (λ v p. absurd p)
      some_gives W (x ∷ vs) = by_test (is_none (W x)) refl (some_gives W vs)
        where
          by_test : (b : Bool) → is_none (W x) ≡ b → ((v : Value) → Has vs v → is_none (W v) ≡ true) ⊎ ((v : Value) × Has vs v × (is_none (W v) ≡ false)) →
              ((v : Value) → Has (x ∷ vs) v → is_none (W v) ≡ true) ⊎ ((v : Value) × Has (x ∷ vs) v × (is_none (W v) ≡ false))
          by_test false e h = inr (x, inl refl, e)
          by_test true e (inr q) = inr (q.0, inr q.1, q.2)
          by_test true e (inl h) = inl (λ v p. ⊎_elim (λ q. ap (λ y. is_none (W y)) (sym q) ∙ e) (λ q. h v q) p)

      -- over all values of a type the first result does not depend on their order
      pictured-all : (ty : Option Simple) (W V : Value → Walk) → ((v : Value) → PicturedWalk (W v) (V (exchanged f v))) → IsSingle W → PicturedWalk (first (map W (values_or_none sizes ty))) (first (map V (values_or_none sizes ty)))
      pictured-all None W V h single = tt
      pictured-all (Some ty) W V h single = ⊎_elim nothing one (some_gives W (values_of sizes ty))
        where
          nothing : ((v : Value) → Has (values_of sizes ty) v → is_none (W v) ≡ true) → PicturedWalk (first (map W (values_of sizes ty))) (first (map V (values_of sizes ty)))
          nothing none =
              let none' : (w : Value) → Has (values_of sizes ty) w → is_none (V w) ≡ true =
              λ w p. let r = back ty w p in ap (λ y. is_none (V y)) (sym r.2) ∙ pictured-none (W r.0) (V (exchanged f r.0)) (h r.0) ∙ none r.0 r.1 in
              subst (λ u. PicturedWalk u (first (map V (values_of sizes ty)))) (sym (first-none W (values_of sizes ty) none)) (subst (λ u. PicturedWalk None u) (sym (first-none V (values_of sizes ty) none')) tt)

          one : (v : Value) × Has (values_of sizes ty) v × (is_none (W v) ≡ false) → PicturedWalk (first (map W (values_of sizes ty))) (first (map V (values_of sizes ty)))
          one q =
              let v = q.0 in
              let is_first = first-one W (values_of sizes ty) v q.1 q.2 (λ w p g. single w v g q.2) in
              let only : (w : Value) → Has (values_of sizes ty) w → is_none (V w) ≡ false → w ≡ exchanged f v =
              λ w p g. let r = back ty w p in sym r.2 ∙ ap (exchanged f) (single r.0 v (sym (pictured-none (W r.0) (V (exchanged f r.0)) (h r.0)) ∙ ap (λ y. is_none (V y)) r.2 ∙ g) q.2) in
              let is_first' = first-one V (values_of sizes ty) (exchanged f v) (there ty v q.1) (pictured-none (W v) (V (exchanged f v)) (h v) ∙ q.2) only in
              subst (λ u. PicturedWalk u (first (map V (values_of sizes ty)))) (sym is_first) (subst (λ u. PicturedWalk (W v) u) (sym is_first') (h v))

      outcomes-ren : (es : List Expr) (b : Bindings) → map (λ e. outcome there_scene t e (exchanged_bindings f b)) es ≡ map (exchanged_outcome f) (map (λ e. outcome there_scene s e b) es)
      outcomes-ren [] b = refl
      outcomes-ren (e ∷ es) b = rw (outcome-ren types families instance s t are_exchanged e b) (ap (λ l. exchanged_outcome f (outcome there_scene s e b) ∷ l) (outcomes-ren es b))

      is_other-ren : (u : Outcome) (v : Value) → is_other (exchanged_outcome f u) (exchanged f v) ≡ is_other u v
      is_other-ren None v = refl
      is_other-ren (Some u) v = ap not (same-ren u v)

      others-ren : (us : List Outcome) (vs : List Value) → list_any (λ (u, v). is_other u v) (zip (map (exchanged_outcome f) us) (map (exchanged f) vs)) ≡ list_any (λ (u, v). is_other u v) (zip us vs)
      others-ren [] vs = refl
      others-ren (u ∷ us) [] = refl
      others-ren (u ∷ us) (v ∷ vs) = rw (is_other-ren u v, others-ren us vs) refl

      none-ren : (u : Outcome) → is_none (exchanged_outcome f u) ≡ is_none u
      none-ren None = refl
      none-ren (Some v) = refl

      nones-ren : (us : List Outcome) → list_any is_none (map (exchanged_outcome f) us) ≡ list_any is_none us
      nones-ren [] = refl
      nones-ren (u ∷ us) = rw (none-ren u, nones-ren us) refl

      labels-ren : (on : Outcome) (labels : List Expr) (b : Bindings) → map (λ label. equal (exchanged_outcome f on) (outcome there_scene t label (exchanged_bindings f b))) labels ≡ map (λ label. equal on (outcome there_scene s label b)) labels
      labels-ren on [] b = refl
      labels-ren on (e ∷ labels) b = rw (outcome-ren types families instance s t are_exchanged e b, equal-ren on (outcome there_scene s e b)) (ap (λ l. equal on (outcome there_scene s e b) ∷ l) (labels-ren on labels b))

      module _ (kind : Kind) (x : Element) where
        abbrev here_walk : Stmt → Bindings → Walk
        here_walk = walk there_scene s kind x every

        abbrev there_walk : Stmt → Bindings → Walk
        there_walk = walk there_scene t kind (exchanged_element f x) every

        assigned-ren : (es : List Expr) (value : Expr) (b : Bindings) → PicturedWalk
            (assigned there_scene s kind x every (map (λ e. outcome there_scene s e b) es) value b)
            (assigned there_scene t kind (exchanged_element f x) every (map (λ e. outcome there_scene t e (exchanged_bindings f b)) es) value (exchanged_bindings f b))
        assigned-ren es value b =
            let us = map (λ e. outcome there_scene s e b) es in
            rw (outcomes-ren es b, others-ren us x.indexes, nones-ren us) (by_tests (list_any (λ (u, v). is_other u v) (zip us x.indexes)) (list_any is_none us))
          where
            by_tests : (p q : Bool) → PicturedWalk (cond p None (cond q (Some every) (Some (allowed_by there_scene s every value b)))) (cond p None (cond q (Some every) (Some (allowed_by there_scene t every value (exchanged_bindings f b)))))
            by_tests true q = tt
            by_tests false true = pictured-every
            by_tests false false = allowed_by-ren value b

        pictured-cond : (p : Bool) (v w : Walk) → PicturedWalk v w → PicturedWalk (cond p v None) (cond p w None)
        pictured-cond true v w h = h
        pictured-cond false v w h = tt

        -- at each `forall` in the statement at most one value gives a result
        abbrev mutual
          pub IsSingleIn : Stmt → Bindings → Type 0
          IsSingleIn (Assign which left value at) b = Unit {0}
          IsSingleIn (Block' shape parts) b = AreSingleIn parts b
          IsSingleIn (If' test l (more_of-Stmt left end_of-Stmt) right at) b = IsSingleIn left b × HeldIsSingle right b
          IsSingleIn (Switch' on shape arms other at) b = HeldIsSingle other b × ArmsAreSingle arms b
          IsSingleIn (Default' l (more_of-Stmt left end_of-Stmt) r (more_of-Stmt right end_of-Stmt) at) b = IsSingleIn left b × IsSingleIn right b
          IsSingleIn (For' var from to closed step shape (more_of-Stmt body end_of-Stmt) at) b = (n : ℕ) → Contains (steps_of from to closed step) n → IsSingleIn body ((var.name, number n) ∷ b)
          IsSingleIn (Forall' var over shape (more_of-Stmt body end_of-Stmt) at) b = ((v : Value) → IsSingleIn body ((var.name, v) ∷ b)) × IsSingle (λ v. here_walk body ((var.name, v) ∷ b))

          pub AreSingleIn : {m : _} → Row_of-Stmt m → Bindings → Type 0
          AreSingleIn end_of-Stmt b = Unit {0}
          AreSingleIn (more_of-Stmt part rest) b = IsSingleIn part b × AreSingleIn rest b

          pub HeldIsSingle : Held-Stmt-If-2 → Bindings → Type 0
          HeldIsSingle stmt.None' b = Unit {0}
          HeldIsSingle (stmt.Some' shape (more_of-Stmt part end_of-Stmt)) b = IsSingleIn part b

          pub ArmsAreSingle : {m : _} → Row_of-Arm m → Bindings → Type 0
          ArmsAreSingle end_of-Arm b = Unit {0}
          ArmsAreSingle (more_of-Arm labels body rest) b = IsSingleIn body b × ArmsAreSingle rest b

        mutual
          pub walk-ren : (act : Stmt) (b : Bindings) → IsSingleIn act b → PicturedWalk (here_walk act b) (there_walk act (exchanged_bindings f b))
          walk-ren (Assign which left value at) b h =
              pictured-cond (same_kind which kind && same_path (instance ++ fields_of (out-Path left).parts) x.path) _ _ (assigned-ren (indexes_of (out-Path left).parts) value b)
          walk-ren (Block' shape parts) b h = parts-ren parts b h
          walk-ren (If' test l (more_of-Stmt left end_of-Stmt) right at) b h =
              rw (same_truth test b) (pictured-if (truth (outcome there_scene s test b)) (here_walk left b) (walk_held there_scene s kind x every right b)
              (there_walk left (exchanged_bindings f b)) (walk_held there_scene t kind (exchanged_element f x) every right (exchanged_bindings f b)) (walk-ren left b h.0) (held-ren right b h.1))
          walk-ren (Switch' on shape arms other at) b h =
              rw (outcome-ren types families instance s t are_exchanged on b) (arms-ren arms (outcome there_scene s on b) (walk_held there_scene s kind x every other b) (walk_held there_scene t kind (exchanged_element f x) every other (exchanged_bindings f b)) b (held-ren other b h.0) h.1)
          walk-ren (Default' l (more_of-Stmt left end_of-Stmt) r (more_of-Stmt right end_of-Stmt) at) b h =
              pictured-first_of (here_walk right b) (here_walk left b) (there_walk right (exchanged_bindings f b)) (there_walk left (exchanged_bindings f b)) (walk-ren right b h.1) (walk-ren left b h.0)
          walk-ren (For' var from to closed step shape (more_of-Stmt body end_of-Stmt) at) b h =
              pictured-first (λ n. here_walk body ((var.name, number n) ∷ b)) (λ n. there_walk body ((var.name, number n) ∷ exchanged_bindings f b)) (steps_of from to closed step) (λ n p. walk-ren body ((var.name, number n) ∷ b) (h n p))
          walk-ren (Forall' var over shape (more_of-Stmt body end_of-Stmt) at) b h =
              pictured-all (simple types over) (λ v. here_walk body ((var.name, v) ∷ b)) (λ v. there_walk body ((var.name, v) ∷ exchanged_bindings f b)) (λ v. walk-ren body ((var.name, v) ∷ b) (h.0 v)) h.1

          parts-ren : {m : _} (parts : Row_of-Stmt m) (b : Bindings) → AreSingleIn parts b → PicturedWalk (walk_parts there_scene s kind x every parts b) (walk_parts there_scene t kind (exchanged_element f x) every parts (exchanged_bindings f b))
          parts-ren end_of-Stmt b h = tt
          parts-ren (more_of-Stmt part rest) b h =
              pictured-first_of (here_walk part b) (walk_parts there_scene s kind x every rest b) (there_walk part (exchanged_bindings f b)) (walk_parts there_scene t kind (exchanged_element f x) every rest (exchanged_bindings f b)) (walk-ren part b h.0) (parts-ren rest b h.1)

          held-ren : (part : Held-Stmt-If-2) (b : Bindings) → HeldIsSingle part b → PicturedWalk (walk_held there_scene s kind x every part b) (walk_held there_scene t kind (exchanged_element f x) every part (exchanged_bindings f b))
          held-ren stmt.None' b h = tt
          held-ren (stmt.Some' shape (more_of-Stmt part end_of-Stmt)) b h = walk-ren part b h

          arms-ren : {m : _} (arms : Row_of-Arm m) (on : Outcome) (w w' : Walk) (b : Bindings) → PicturedWalk w w' → ArmsAreSingle arms b →
              PicturedWalk (walk_arms there_scene s kind x every arms on w b) (walk_arms there_scene t kind (exchanged_element f x) every arms (exchanged_outcome f on) w' (exchanged_bindings f b))
          arms-ren end_of-Arm on w w' b p h = p
          arms-ren (more_of-Arm labels body rest) on w w' b p h =
              rw (ap disjunction (labels-ren on labels b)) (pictured-if (is_label there_scene s kind x every on labels b) (here_walk body b) (walk_arms there_scene s kind x every rest on w b)
              (there_walk body (exchanged_bindings f b)) (walk_arms there_scene t kind (exchanged_element f x) every rest (exchanged_outcome f on) w' (exchanged_bindings f b)) (walk-ren body b h.0) (arms-ren rest on w w' b p h.1))
