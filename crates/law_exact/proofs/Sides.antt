-- Where each value is a class and what is read is kept, a right side may allow exactly what it allows, and allows that for certain.
use Rattle.std.proofs.Common.{◌≡◌, ℕ, suc, ◌+◌, ◌-◌, List, [], ◌∷◌, ◌++◌, map, Bool, true, false, not, if◌then◌else◌, ◌&&◌, ◌||◌, refl, sym, ap, subst, ◌∙◌, inl, inr, Some, None, unwrap_or, arith}
use Rattle.std.specs.List.{list_any, list_all, filter, flat_map}
use Rattle.smv_core.specs.Values.{Value, number, Outcome, Truth, truth, numbers_from, same, is_in, all_defined}
use Rattle.smv_core.specs.Outcome.{branch, fit, is_true}
use Rattle.smv_core.specs.FlatMeaning.{Numbered, FlatState, bind, values_in, flat_outcome, flat_members, flat_meets, flat_allowed_by}
use Rattle.smv_core.specs.declared.flat.Simple.{Simple as FlatSimple}
use Rattle.smv_core.specs.declared.flat.FlatMember.{One, Span as SpanOf}
use Rattle.smv_core.specs.declared.flat.FlatExpr.{FlatExpr, Choose', List', Each', Held-FlatExpr-Each-2, None', Some', end_of-FlatExpr, more_of-FlatExpr, Row_of-FlatMember, end_of-FlatMember, more_of-FlatMember}
use Rattle.law_obligations.specs.Sets.{Has, first, later}
use Rattle.law_obligations.specs.Places.{Place, named, same_place, is_among, named_in, places_in, AbsOutcome, as_place, bind_place}
use Rattle.law_obligations.specs.May.{AbsState, Kept, seen, may, may_members}
use Rattle.law_obligations.specs.Right.{gives, is_outside, gives_surely, same_outcome, gives_only, may_give_some, is_false, is_neither, chosen_surely, may_meet, must_meet, may_allow, must_allow, must_give_some}
use Rattle.law_obligations.specs.Reads.{reads_members, reads_held}
use Rattle.law_obligations.specs.Cones.{elements_at, elements_read}
use Rattle.law_obligations.specs.Whole.{IsWhole, AreWholeMembers, IsWholeHeld}
use Rattle.law_obligations.proofs.Members.{Has-map, Has-flat_map, any-found, any-some, all-holds}
use Rattle.law_obligations.proofs.Same.{same-itself, same-is, is_in-Has, Has-is_in, same_place-itself}
use Rattle.law_obligations.proofs.Fitted.{GivesValue, itself, outside, fit_is, given_fits}
use Rattle.law_exact.specs.Exact.{AreKept, Shows, IsNoSet, AreNoSets, HasMember, IsSide}
use Rattle.law_exact.proofs.Justs.{Just, just-is, just-map, EachJust, just-any, just-all, all-map, any-each, all-each-same, any-joined}
use Rattle.law_exact.proofs.Outcomes.{seen-is, bind-named, among-is, kept-left, kept-right, w, named_are, places_are, exact, exact-members}
use Rattle.law_lists.proofs.Booleans.{same_tests}
use Rattle.law_lists.proofs.Anys.{any-map}

-- ---- tests

pub same-turned : (u v : Value) → same u v ≡ same v u
same-turned u v = same_tests (same u v) (same v u) (λ e. subst (λ x. same x u ≡ true) (same-is u v e) (same-itself u)) (λ e. subst (λ x. same x v ≡ true) (same-is v u e) (same-itself v))

pub or-false : (b : Bool) → (b || false) ≡ b
or-false true = refl
or-false false = refl

and-true : (b : Bool) → (b && true) ≡ b
and-true true = refl
and-true false = refl

absorbed : (x g r : Bool) → (x ≡ true → g ≡ true) → (x || (g || r)) ≡ (g || r)
absorbed false g r h = refl
absorbed true true r h = refl
absorbed true false r h = absurd (let e = h refl in cc (e))

any-or : {X : Type 0} (p q : X → Bool) (xs : List X) → list_any (λ x. p x || q x) xs ≡ (list_any p xs || list_any q xs)
any-or p q [] = refl
any-or p q (x ∷ xs) = ap (λ b. (p x || q x) || b) (any-or p q xs) ∙ again (p x) (q x) (list_any p xs) (list_any q xs)
  where
    again : (a b c d : Bool) → ((a || b) || (c || d)) ≡ ((a || c) || (b || d))
    again true b c d = refl
    again false true true d = refl
    again false true false d = refl
    again false false c d = refl

any-filter : {X : Type 0} (p m : X → Bool) (xs : List X) → list_any (λ x. m x && p x) xs ≡ list_any p (filter m xs)
any-filter p m [] = refl
any-filter {X} p m (x ∷ xs) = at (m x) (any-filter p m xs)
  where
    at : (b : Bool) → list_any (λ x. m x && p x) xs ≡ list_any p (filter m xs) → ((b && p x) || list_any (λ x. m x && p x) xs) ≡ list_any p (if b then x ∷ filter m xs else filter m xs)
    at true h = ap (λ c. p x || c) h
    at false h = h

abbrev is_empty : {X : Type 0} → List X → Bool
is_empty [] = true
is_empty (x ∷ xs) = false

none-filter : {X : Type 0} (m : X → Bool) (xs : List X) → list_all (λ x. not (m x)) xs ≡ is_empty (filter m xs)
none-filter m [] = refl
none-filter {X} m (x ∷ xs) = at (m x) (none-filter m xs)
  where
    at : (b : Bool) → list_all (λ x. not (m x)) xs ≡ is_empty (filter m xs) → (not b && list_all (λ x. not (m x)) xs) ≡ is_empty (if b then x ∷ filter m xs else filter m xs)
    at true h = refl
    at false h = h

-- ---- what outcomes give a value of a type

module _ (vals : List Value) (v : Value) where
  -- an outcome gives the value: its own, or any where it is outside the type
  abbrev pub given : Outcome → Bool
  given None = is_in vals v
  given (Some u) = if is_in vals u then same u v else is_in vals v

  pub fit-one : (o : Outcome) → is_in (fit vals (o ∷ [])) v ≡ given o
  fit-one None = refl
  fit-one (Some u) = at (is_in vals u)
    where
      at : (b : Bool) → is_in (unwrap_or (all_defined ((if b then Some u else None) ∷ [])) vals) v ≡ (if b then same u v else is_in vals v)
      at true = or-false (same v u) ∙ same-turned v u
      at false = refl

  gives-given : (o : Outcome) → GivesValue vals o v → given o ≡ true
  gives-given _ (itself _ h) = rw (is_in-Has h) (same-itself v)
  gives-given None (outside _ _ o h) = is_in-Has h
  gives-given (Some u) (outside _ _ o h) = rw o (is_in-Has h)

  given-gives : (o : Outcome) → given o ≡ true → GivesValue vals o v
  given-gives None e = outside None v tt (Has-is_in vals v e)
  given-gives (Some u) e = at (is_in vals u) refl e
    where
      at : (b : Bool) → is_in vals u ≡ b → (if b then same u v else is_in vals v) ≡ true → GivesValue vals (Some u) v
      at true q e = subst (λ x. GivesValue vals (Some x) v) (sym (same-is u v e)) (itself v (subst (Has vals) (same-is u v e) (Has-is_in vals u q)))
      at false q e = outside (Some u) v q (Has-is_in vals v e)

  pub many-given : (o : Outcome) (os : List Outcome) → is_in (fit vals (o ∷ os)) v ≡ list_any given (o ∷ os)
  many-given o os = same_tests (is_in (fit vals (o ∷ os)) v) (list_any given (o ∷ os)) to from
    where
      to : is_in (fit vals (o ∷ os)) v ≡ true → list_any given (o ∷ os) ≡ true
      to e = elim (fit_is vals (o ∷ os) v (Has-is_in (fit vals (o ∷ os)) v e)).1 [
        | inl q ↦ absurd (cc (q))
        | inr r ↦ any-found given r.1 (gives-given r.0 r.2)
      ]

      from : list_any given (o ∷ os) ≡ true → is_in (fit vals (o ∷ os)) v ≡ true
      from e = let r = any-some given (o ∷ os) e in is_in-Has (given_fits vals (o ∷ os) v (r.0, r.1, given-gives r.0 r.2))

  -- in an abstract state
  abbrev every : List Place
  every = map named vals

  pub gives-is : (o : Outcome) → gives every (as_place o) (named v) ≡ given o
  gives-is None = among-is vals v
  gives-is (Some u) = ap (λ b. if b then same u v else is_among every (named v)) (among-is vals u) ∙ ap (λ c. if is_in vals u then same u v else c) (among-is vals v)

  pub surely-is : (o : Outcome) → gives_surely every (as_place o) (named v) ≡ given o
  surely-is None = among-is vals v
  surely-is (Some u) =
      ap (λ b. if b then same u v && true else is_among every (named v)) (among-is vals u) ∙
      (ap (λ c. if is_in vals u then same u v && true else c) (among-is vals v) ∙
      ap (λ c. if is_in vals u then c else is_in vals v) (and-true (same u v)))

  outside-given : (o : Outcome) → (is_outside every (as_place o) && is_among every (named v)) ≡ true → given o ≡ true
  outside-given None e = sym (among-is vals v) ∙ e
  outside-given (Some u) e = at (is_in vals u) (subst (λ b. (not b && is_among every (named v)) ≡ true) (among-is vals u) e)
    where
      at : (b : Bool) → (not b && is_among every (named v)) ≡ true → (if b then same u v else is_in vals v) ≡ true
      at true e = absurd (cc (e))
      at false e = sym (among-is vals v) ∙ e

  -- comprehensions: those of these values that pass a test
  module _ (m : Value → Bool) (us : List Value) where
    abbrev passing : List Value
    passing = filter m us

    each-may : is_in (fit vals (map Some passing)) v ≡ (list_any (λ u. m u && given (Some u)) us || (list_all (λ u. not (m u)) us && is_in vals v))
    each-may = at passing refl
      where
        at : (fs : List Value) → passing ≡ fs → is_in (fit vals (map Some passing)) v ≡ (list_any (λ u. m u && given (Some u)) us || (list_all (λ u. not (m u)) us && is_in vals v))
        at [] e =
            ap (λ fs. is_in (fit vals (map Some fs)) v) e ∙
            sym (ap (λ b. b || (list_all (λ u. not (m u)) us && is_in vals v)) (any-filter (λ u. given (Some u)) m us ∙ ap (list_any (λ u. given (Some u))) e) ∙
            ap (λ b. b && is_in vals v) (none-filter m us ∙ ap is_empty e))
        at (f ∷ fs) e =
            ap (λ fs. is_in (fit vals (map Some fs)) v) e ∙
            (many-given (Some f) (map Some fs) ∙
            (any-map given Some (f ∷ fs) ∙
            sym (ap (λ b. b || (list_all (λ u. not (m u)) us && is_in vals v)) (any-filter (λ u. given (Some u)) m us ∙ ap (list_any (λ u. given (Some u))) e) ∙
            (ap (λ b. list_any (λ u. given (Some u)) (f ∷ fs) || (b && is_in vals v)) (none-filter m us ∙ ap is_empty e) ∙ or-false (list_any (λ u. given (Some u)) (f ∷ fs))))))

    each-must : is_in vals v ≡ true → is_in (fit vals (map Some passing)) v ≡
        ((list_all (λ u. not (m u)) us && is_in vals v) || ((list_any (λ u. m u && not (is_in vals u)) us && is_in vals v) || list_any (λ u. m u && same u v) us))
    each-must inside =
        rw (any-filter (λ u. not (is_in vals u)) m us, any-filter (λ u. same u v) m us, none-filter m us, inside) (at passing)
      where
        split : (u : Value) → given (Some u) ≡ (not (is_in vals u) || same u v)
        split u = rw inside (by_test (is_in vals u))
          where
            by_test : (b : Bool) → (if b then same u v else true) ≡ (not b || same u v)
            by_test true = refl
            by_test false = refl

        at : (fs : List Value) → is_in (fit vals (map Some fs)) v ≡ ((is_empty fs && true) || ((list_any (λ u. not (is_in vals u)) fs && true) || list_any (λ u. same u v) fs))
        at [] = inside
        at (f ∷ fs) =
            many-given (Some f) (map Some fs) ∙
            (any-map given Some (f ∷ fs) ∙
            (any-each (λ u. given (Some u)) (λ u. not (is_in vals u) || same u v) (f ∷ fs) (λ u k. split u) ∙
            (any-or (λ u. not (is_in vals u)) (λ u. same u v) (f ∷ fs) ∙
            ap (λ b. b || list_any (λ u. same u v) (f ∷ fs)) (sym (and-true (list_any (λ u. not (is_in vals u)) (f ∷ fs)))))))

-- an only outcome is certain
only-sure : (every : List Place) (us : List AbsOutcome) (u : AbsOutcome) (p : Place) → Just us u → gives_only every us p ≡ gives_surely every u p
only-sure every [] u p h = elim h.0 [ ]
only-sure every (x ∷ us) u p h =
    ap (λ b. b && gives_surely every x p) (all-holds (same_outcome x) us (λ y k. subst (λ z. same_outcome x z ≡ true) (h.1 x first ∙ sym (h.1 y (later k))) (itself-same x))) ∙
    ap (λ x. gives_surely every x p) (h.1 x first)
  where
    itself-same : (u : AbsOutcome) → same_outcome u u ≡ true
    itself-same None = refl
    itself-same (Some p) = same_place-itself p

each-any : {X Y : Type 0} (g : X → Bool) (f : Y → X) (xss : List (List X)) (ys : List Y) → EachJust xss (map f ys) → list_any (λ xs. list_any g xs) xss ≡ list_any (λ y. g (f y)) ys
each-any g f [] [] h = refl
each-any g f [] (y ∷ ys) h = elim h [ ]
each-any g f (xs ∷ xss) [] h = elim h [ ]
each-any g f (xs ∷ xss) (y ∷ ys) h = ap (λ b. b || list_any (λ xs. list_any g xs) xss) (just-any g h.0) ∙ ap (λ b. g (f y) || b) (each-any g f xss ys h.1)

some-is : (every : List Place) (p : Place) (uss : List (List AbsOutcome)) (o : Outcome) (os : List Outcome) → EachJust uss (map as_place (o ∷ os)) → may_give_some every uss p ≡ list_any (λ o. gives every (as_place o) p) (o ∷ os)
some-is every p [] o os h = elim h [ ]
some-is every p (us ∷ uss) o os h = each-any (λ u. gives every u p) as_place (us ∷ uss) (o ∷ os) h

-- a condition that is certain
chosen-is : (cs : List Truth) (c : Truth) (l r e : Bool) → Just cs c → chosen_surely cs l r e ≡ branch e c l r
chosen-is cs c l r e h =
    ap (λ b. if b then l else if list_all is_false cs then r else if list_all is_neither cs then e else l && r) (just-all is_true h) ∙
    (ap (λ b. if is_true c then l else if b then r else if list_all is_neither cs then e else l && r) (just-all is_false h) ∙
    (ap (λ b. if is_true c then l else if is_false c then r else if b then e else l && r) (just-all is_neither h) ∙ at c))
  where
    at : (c : Truth) → (if is_true c then l else if is_false c then r else if is_neither c then e else l && r) ≡ branch e c l r
    at None = refl
    at (Some true) = refl
    at (Some false) = refl

branch-in : (c : Truth) (every left right : List Value) (v : Value) → branch (is_in every v) c (is_in left v) (is_in right v) ≡ is_in (branch every c left right) v
branch-in None every left right v = refl
branch-in (Some true) every left right v = refl
branch-in (Some false) every left right v = refl

no-set-side : (e : FlatExpr) → IsNoSet e → IsSide e
no-set-side (List' shape members at) h = elim h [ ]
no-set-side (Each' var over test at) h = elim h [ ]
no-set-side (Choose' c test l (more_of-FlatExpr left end_of-FlatExpr) r (more_of-FlatExpr right end_of-FlatExpr)) h = (no-set-side left h.0, no-set-side right h.1)
no-set-side _ h = tt

module _ (n : Numbered) (s : FlatState) where
  -- what is no set gives what its outcome gives
  no-set-allows : (vals : List Value) (v : Value) (e : FlatExpr) (b : List Value) → IsNoSet e → is_in (flat_allowed_by n s vals e b) v ≡ given vals v (flat_outcome n s e b)
  no-set-allows vals v (List' shape members at) b h = elim h [ ]
  no-set-allows vals v (Each' var over test at) b h = elim h [ ]
  no-set-allows vals v (Choose' c (more_of-FlatExpr test end_of-FlatExpr) l (more_of-FlatExpr left end_of-FlatExpr) r (more_of-FlatExpr right end_of-FlatExpr)) b h =
      at (truth (flat_outcome n s test b)) (no-set-allows vals v left b h.0) (no-set-allows vals v right b h.1)
    where
      at : (t : Truth) → is_in (flat_allowed_by n s vals left b) v ≡ given vals v (flat_outcome n s left b) → is_in (flat_allowed_by n s vals right b) v ≡ given vals v (flat_outcome n s right b) →
          is_in (branch vals t (flat_allowed_by n s vals left b) (flat_allowed_by n s vals right b)) v ≡ given vals v (branch None t (flat_outcome n s left b) (flat_outcome n s right b))
      at None p q = refl
      at (Some true) p q = p
      at (Some false) p q = q
  no-set-allows vals v e b h = fit-one vals v (flat_outcome n s e b)

  -- a listed set has a member
  members-some : {m : _} (row : Row_of-FlatMember m) (b : List Value) → HasMember row → (o : Outcome) × (os : List Outcome) × (flat_members n s row b ≡ o ∷ os)
  members-some end_of-FlatMember b h = elim h [ ]
  members-some (more_of-FlatMember (One e) others) b h = (flat_outcome n s e b, flat_members n s others b, refl)
  members-some (more_of-FlatMember (SpanOf span at) others) b h =
      let e : span.high + 1 - span.low ≡ suc (span.high - span.low) = omega (arith, h) in (
        Some (number span.low),
        map (λ k. Some (number k)) (numbers_from (span.low + 1) (span.high - span.low)) ++ flat_members n s others b,
        ap (λ k. map (λ k. Some (number k)) (numbers_from span.low k) ++ flat_members n s others b) e,
      )

  module _ (kept : Kept) (a : AbsState) (shows : Shows kept a s) where
    -- conditions of comprehensions
    may-meets : (test : Held-FlatExpr-Each-2) (b : List Value) → IsWholeHeld n.families test → AreKept kept (reads_held (named_in (w n)) (elements_at (w n)) test (map named b)) →
        may_meet (w n) kept a test (map named b) ≡ flat_meets n s test b
    may-meets None' b h k = refl
    may-meets (Some' shape (more_of-FlatExpr test end_of-FlatExpr)) b h k = just-any (λ u. is_true (seen u)) (exact n s kept a shows test b h k) ∙ ap is_true (seen-is (flat_outcome n s test b))

    must-meets : (test : Held-FlatExpr-Each-2) (b : List Value) → IsWholeHeld n.families test → AreKept kept (reads_held (named_in (w n)) (elements_at (w n)) test (map named b)) →
        must_meet (w n) kept a test (map named b) ≡ flat_meets n s test b
    must-meets None' b h k = refl
    must-meets (Some' shape (more_of-FlatExpr test end_of-FlatExpr)) b h k = just-all (λ u. is_true (seen u)) (exact n s kept a shows test b h k) ∙ ap is_true (seen-is (flat_outcome n s test b))

    held-kept : (test : Held-FlatExpr-Each-2) (b : List Value) (var : ℕ) (over : FlatSimple) (v : Value) → Has (values_in n over) v →
        AreKept kept (flat_map (λ p. reads_held (named_in (w n)) (elements_at (w n)) test (bind_place (map named b) var p)) (named_in (w n) over)) →
        AreKept kept (reads_held (named_in (w n)) (elements_at (w n)) test (map named (bind b var v)))
    held-kept test b var over v m k x i = k x (Has-flat_map (λ p. reads_held (named_in (w n)) (elements_at (w n)) test (bind_place (map named b) var p)) (subst (λ ps. Has ps (named v)) (sym (named_are n over)) (Has-map named m))
        (subst (λ ps. Has (reads_held (named_in (w n)) (elements_at (w n)) test ps) x) (sym (bind-named b var v)) i))

    module _ (vals : List Value) (v : Value) where
      abbrev MayGive : FlatExpr → List Value → Bool
      MayGive e b = may_allow (w n) kept a (map named vals) e (map named b) (named v)

      abbrev MustGive : FlatExpr → List Value → Bool
      MustGive e b = must_allow (w n) kept a (map named vals) e (map named b) (named v)

      abbrev Gives : FlatExpr → List Value → Bool
      Gives e b = is_in (flat_allowed_by n s vals e b) v

      -- a comprehension, over its values
      each-may-is : (test : Held-FlatExpr-Each-2) (var : ℕ) (over : FlatSimple) (at : ℕ) (b : List Value) → IsWholeHeld n.families test →
          AreKept kept (flat_map (λ p. reads_held (named_in (w n)) (elements_at (w n)) test (bind_place (map named b) var p)) (named_in (w n) over)) →
          MayGive (Each' var over test at) b ≡ Gives (Each' var over test at) b
      each-may-is test var over at b h k =
          let m : Value → Bool = λ u. flat_meets n s test (bind b var u) in
          let us = values_in n over in
          let meet : (u : Value) → Has us u → may_meet (w n) kept a test (bind_place (map named b) var (named u)) ≡ m u =
          λ u i. ap (may_meet (w n) kept a test) (bind-named b var u) ∙ may-meets test (bind b var u) h (held-kept test b var over u i k) in
          let sure : (u : Value) → Has us u → must_meet (w n) kept a test (bind_place (map named b) var (named u)) ≡ m u =
          λ u i. ap (must_meet (w n) kept a test) (bind-named b var u) ∙ must-meets test (bind b var u) h (held-kept test b var over u i k) in
          let left : list_any (λ q. may_meet (w n) kept a test (bind_place (map named b) var q) && gives (map named vals) (Some q) (named v)) (places_in (w n) over) ≡ list_any (λ u. m u && given vals v (Some u)) us =
          ap (list_any (λ q. may_meet (w n) kept a test (bind_place (map named b) var q) && gives (map named vals) (Some q) (named v))) (places_are n over) ∙
          (any-map (λ q. may_meet (w n) kept a test (bind_place (map named b) var q) && gives (map named vals) (Some q) (named v)) named us ∙
          any-each (λ u. may_meet (w n) kept a test (bind_place (map named b) var (named u)) && gives (map named vals) (Some (named u)) (named v)) (λ u. m u && given vals v (Some u)) us
          (λ u i. ap (λ c. c && gives (map named vals) (Some (named u)) (named v)) (meet u i) ∙ ap (λ c. m u && c) (gives-is vals v (Some u)))) in
          let right : list_all (λ q. not (must_meet (w n) kept a test (bind_place (map named b) var q))) (named_in (w n) over) ≡ list_all (λ u. not (m u)) us =
          ap (list_all (λ q. not (must_meet (w n) kept a test (bind_place (map named b) var q)))) (named_are n over) ∙
          (all-map (λ q. not (must_meet (w n) kept a test (bind_place (map named b) var q))) named us ∙
          all-each-same (λ u. not (must_meet (w n) kept a test (bind_place (map named b) var (named u)))) (λ u. not (m u)) us (λ u i. ap not (sure u i))) in
          ap (λ c. c || (list_all (λ q. not (must_meet (w n) kept a test (bind_place (map named b) var q))) (named_in (w n) over) && is_among (map named vals) (named v))) left ∙
          (ap (λ c. list_any (λ u. m u && given vals v (Some u)) us || (c && is_among (map named vals) (named v))) right ∙
          (ap (λ c. list_any (λ u. m u && given vals v (Some u)) us || (list_all (λ u. not (m u)) us && c)) (among-is vals v) ∙ sym (each-may vals v m us)))

      each-must-is : is_in vals v ≡ true → (test : Held-FlatExpr-Each-2) (var : ℕ) (over : FlatSimple) (at : ℕ) (b : List Value) → IsWholeHeld n.families test →
          AreKept kept (flat_map (λ p. reads_held (named_in (w n)) (elements_at (w n)) test (bind_place (map named b) var p)) (named_in (w n) over)) →
          MustGive (Each' var over test at) b ≡ Gives (Each' var over test at) b
      each-must-is inside test var over at b h k =
          let m : Value → Bool = λ u. flat_meets n s test (bind b var u) in
          let us = values_in n over in
          let P : Place → Bool = λ q. may_meet (w n) kept a test (bind_place (map named b) var q) in
          let Q : Place → Bool = λ q. must_meet (w n) kept a test (bind_place (map named b) var q) in
          let meet : (u : Value) → Has us u → P (named u) ≡ m u = λ u i. ap (may_meet (w n) kept a test) (bind-named b var u) ∙ may-meets test (bind b var u) h (held-kept test b var over u i k) in
          let sure : (u : Value) → Has us u → Q (named u) ≡ m u = λ u i. ap (must_meet (w n) kept a test) (bind-named b var u) ∙ must-meets test (bind b var u) h (held-kept test b var over u i k) in
          let nothing : list_all (λ q. not (P q)) (places_in (w n) over) ≡ list_all (λ u. not (m u)) us =
          ap (list_all (λ q. not (P q))) (places_are n over) ∙ (all-map (λ q. not (P q)) named us ∙ all-each-same (λ u. not (P (named u))) (λ u. not (m u)) us (λ u i. ap not (meet u i))) in
          let out : list_any (λ q. Q q && not (is_among (map named vals) q)) (named_in (w n) over) ≡ list_any (λ u. m u && not (is_in vals u)) us =
          ap (list_any (λ q. Q q && not (is_among (map named vals) q))) (named_are n over) ∙
          (any-map (λ q. Q q && not (is_among (map named vals) q)) named us ∙
          any-each (λ u. Q (named u) && not (is_among (map named vals) (named u))) (λ u. m u && not (is_in vals u)) us (λ u i. ap (λ c. c && not (is_among (map named vals) (named u))) (sure u i) ∙ ap (λ c. m u && not c) (among-is vals u))) in
          let own : list_any (λ q. Q q && same_place q (named v)) (places_in (w n) over) ≡ list_any (λ u. m u && same u v) us =
          ap (list_any (λ q. Q q && same_place q (named v))) (places_are n over) ∙
          (any-map (λ q. Q q && same_place q (named v)) named us ∙ any-each (λ u. Q (named u) && same u v) (λ u. m u && same u v) us (λ u i. ap (λ c. c && same u v) (sure u i))) in
          ap (λ c. (c && is_among (map named vals) (named v)) || ((list_any (λ q. Q q && not (is_among (map named vals) q)) (named_in (w n) over) && is_among (map named vals) (named v)) || list_any (λ q. Q q && same_place q (named v)) (places_in (w n) over))) nothing ∙
          (ap (λ c. (list_all (λ u. not (m u)) us && is_among (map named vals) (named v)) || ((c && is_among (map named vals) (named v)) || list_any (λ q. Q q && same_place q (named v)) (places_in (w n) over))) out ∙
          (ap (λ c. (list_all (λ u. not (m u)) us && is_among (map named vals) (named v)) || ((list_any (λ u. m u && not (is_in vals u)) us && is_among (map named vals) (named v)) || c)) own ∙
          (ap (λ c. (list_all (λ u. not (m u)) us && c) || ((list_any (λ u. m u && not (is_in vals u)) us && c) || list_any (λ u. m u && same u v) us)) (among-is vals v) ∙
          sym (each-must vals v m us inside))))

      pub may-side : (e : FlatExpr) (b : List Value) → IsSide e → IsWhole n.families e → AreKept kept (elements_read (w n) e (map named b)) → may_allow (w n) kept a (map named vals) e (map named b) (named v) ≡ is_in (flat_allowed_by n s vals e b) v
      may-side (List' shape members at) b side h k =
          let r = members-some members b side.0 in
          some-is (map named vals) (named v) (may_members (w n) kept a members (map named b)) r.0 r.1 (subst (λ os. EachJust (may_members (w n) kept a members (map named b)) (map as_place os)) r.2 (exact-members n s kept a shows members b h k)) ∙
          (any-each (λ o. gives (map named vals) (as_place o) (named v)) (given vals v) (r.0 ∷ r.1) (λ o i. gives-is vals v o) ∙
          (sym (many-given vals v r.0 r.1) ∙ ap (λ os. is_in (fit vals os) v) (sym r.2)))
      may-side (Each' var over test at) b side h k = each-may-is test var over at b h k
      may-side (Choose' c (more_of-FlatExpr test end_of-FlatExpr) l (more_of-FlatExpr left end_of-FlatExpr) r (more_of-FlatExpr right end_of-FlatExpr)) b side h k =
          let front = kept-left kept (elements_read (w n) test (map named b) ++ elements_read (w n) left (map named b)) (elements_read (w n) right (map named b)) k in
          just-any (λ u. branch (is_among (map named vals) (named v)) (seen u) (MayGive left b) (MayGive right b))
          (exact n s kept a shows test b h.0 (kept-left kept (elements_read (w n) test (map named b)) (elements_read (w n) left (map named b)) front)) ∙
          (ap (λ t. branch (is_among (map named vals) (named v)) t (MayGive left b) (MayGive right b)) (seen-is (flat_outcome n s test b)) ∙
          (ap (λ c. branch c (truth (flat_outcome n s test b)) (MayGive left b) (MayGive right b)) (among-is vals v) ∙
          (ap (λ c. branch (is_in vals v) (truth (flat_outcome n s test b)) c (MayGive right b)) (may-side left b side.0 h.1 (kept-right kept (elements_read (w n) test (map named b)) (elements_read (w n) left (map named b)) front)) ∙
          (ap (λ c. branch (is_in vals v) (truth (flat_outcome n s test b)) (Gives left b) c) (may-side right b side.1 h.2 (kept-right kept (elements_read (w n) test (map named b) ++ elements_read (w n) left (map named b)) (elements_read (w n) right (map named b)) k)) ∙
          branch-in (truth (flat_outcome n s test b)) vals (flat_allowed_by n s vals left b) (flat_allowed_by n s vals right b) v))))
      may-side e b side h k = just-any (λ u. gives (map named vals) u (named v)) (exact n s kept a shows e b h k) ∙ (gives-is vals v (flat_outcome n s e b) ∙ sym (fit-one vals v (flat_outcome n s e b)))

      numbers-give : (ks : List ℕ) → list_any (λ us. list_any (λ u. gives_surely (map named vals) u (named v)) us) (map (λ k. Some (named (number k)) ∷ []) ks ++ []) ≡ list_any (given vals v) (map (λ k. Some (number k)) ks)
      numbers-give [] = refl
      numbers-give (k ∷ ks) =
          ap (λ c. c || list_any (λ us. list_any (λ u. gives_surely (map named vals) u (named v)) us) (map (λ k. Some (named (number k)) ∷ []) ks ++ [])) (or-false (gives_surely (map named vals) (Some (named (number k))) (named v)) ∙ surely-is vals v (Some (number k))) ∙
          ap (λ c. given vals v (Some (number k)) || c) (numbers-give ks)

      module _ (inside : is_in vals v ≡ true) where
        mutual
          pub must-side : (e : FlatExpr) (b : List Value) → IsSide e → IsWhole n.families e → AreKept kept (elements_read (w n) e (map named b)) → must_allow (w n) kept a (map named vals) e (map named b) (named v) ≡ is_in (flat_allowed_by n s vals e b) v
          must-side (List' shape members at) b side h k =
              let r = members-some members b side.0 in
              must-members members b side.1 h k ∙ (ap (list_any (given vals v)) r.2 ∙ (sym (many-given vals v r.0 r.1) ∙ ap (λ os. is_in (fit vals os) v) (sym r.2)))
          must-side (Each' var over test at) b side h k = each-must-is inside test var over at b h k
          must-side (Choose' c (more_of-FlatExpr test end_of-FlatExpr) l (more_of-FlatExpr left end_of-FlatExpr) r (more_of-FlatExpr right end_of-FlatExpr)) b side h k =
              let front = kept-left kept (elements_read (w n) test (map named b) ++ elements_read (w n) left (map named b)) (elements_read (w n) right (map named b)) k in
              let conds : Just (map seen (may (w n) kept a test (map named b))) (truth (flat_outcome n s test b)) = just-is (seen-is (flat_outcome n s test b))
              (just-map seen (exact n s kept a shows test b h.0 (kept-left kept (elements_read (w n) test (map named b)) (elements_read (w n) left (map named b)) front))) in
              chosen-is (map seen (may (w n) kept a test (map named b))) (truth (flat_outcome n s test b)) (MustGive left b) (MustGive right b) (is_among (map named vals) (named v)) conds ∙
              (ap (λ c. branch c (truth (flat_outcome n s test b)) (MustGive left b) (MustGive right b)) (among-is vals v) ∙
              (ap (λ c. branch (is_in vals v) (truth (flat_outcome n s test b)) c (MustGive right b)) (must-side left b side.0 h.1 (kept-right kept (elements_read (w n) test (map named b)) (elements_read (w n) left (map named b)) front)) ∙
              (ap (λ c. branch (is_in vals v) (truth (flat_outcome n s test b)) (Gives left b) c) (must-side right b side.1 h.2 (kept-right kept (elements_read (w n) test (map named b) ++ elements_read (w n) left (map named b)) (elements_read (w n) right (map named b)) k)) ∙
              branch-in (truth (flat_outcome n s test b)) vals (flat_allowed_by n s vals left b) (flat_allowed_by n s vals right b) v)))
          must-side e b side h k =
              only-sure (map named vals) (may (w n) kept a e (map named b)) (as_place (flat_outcome n s e b)) (named v) (exact n s kept a shows e b h k) ∙ (surely-is vals v (flat_outcome n s e b) ∙ sym (fit-one vals v (flat_outcome n s e b)))

          must-members : {m : _} (row : Row_of-FlatMember m) (b : List Value) → AreNoSets row → AreWholeMembers n.families row → AreKept kept (reads_members (named_in (w n)) (elements_at (w n)) row (map named b)) →
              must_give_some (w n) kept a (map named vals) row (map named b) (named v) ≡ list_any (given vals v) (flat_members n s row b)
          must-members end_of-FlatMember b side h k = refl
          must-members (more_of-FlatMember (One e) others) b side h k =
              let mine = kept-left kept (elements_read (w n) e (map named b)) (reads_members (named_in (w n)) (elements_at (w n)) others (map named b)) k in
              let o = flat_outcome n s e b in
              let rest = must_give_some (w n) kept a (map named vals) others (map named b) (named v) in
              ap (λ c. (c && is_among (map named vals) (named v)) || (MustGive e b || rest)) (just-all (is_outside (map named vals)) (exact n s kept a shows e b h.0 mine)) ∙
              (ap (λ c. (is_outside (map named vals) (as_place o) && is_among (map named vals) (named v)) || (c || rest)) (must-side e b (no-set-side e side.0) h.0 mine ∙ no-set-allows vals v e b side.0) ∙
              (absorbed (is_outside (map named vals) (as_place o) && is_among (map named vals) (named v)) (given vals v o) rest (outside-given vals v o) ∙
              ap (λ c. given vals v o || c) (must-members others b side.1 h.1 (kept-right kept (elements_read (w n) e (map named b)) (reads_members (named_in (w n)) (elements_at (w n)) others (map named b)) k))))
          must-members (more_of-FlatMember (SpanOf span at) others) b side h k =
              let ks = numbers_from span.low (span.high + 1 - span.low) in
              ap (λ c. list_any (λ us. list_any (λ u. gives_surely (map named vals) u (named v)) us) (map (λ k. Some (named (number k)) ∷ []) ks ++ []) || c) (must-members others b side h k) ∙
              (ap (λ c. c || list_any (given vals v) (flat_members n s others b)) (numbers-give ks) ∙
              sym (any-joined (given vals v) (map (λ k. Some (number k)) ks) (flat_members n s others b)))
