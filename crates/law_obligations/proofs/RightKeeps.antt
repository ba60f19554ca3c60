-- What a right side allows, it may allow in the picture; and what it allows there for certain, it allows.
use Rattle.std.proofs.Common.{◌≡◌, ℕ, ◌+◌, ◌-◌, List, [], ◌∷◌, ◌++◌, map, Bool, true, false, not, if◌then◌else◌, ◌&&◌, ◌||◌, refl, sym, ap, subst, ◌∙◌, inl, inr, Some, None}
use Rattle.std.specs.List.{list_any, list_all, filter}
use Rattle.std.proofs.lemmas.Bool.{or_cases, not-true, cases_Bool}
use Rattle.law_lists.proofs.Booleans.{either_left, either_right, and_both, left_of, right_of}
use Rattle.smv_core.specs.Values.{Name, Value, number, Outcome, Truth, truth, numbers_from, is_in, Simple, range, choice, scalarset, ordset}
use Rattle.smv_core.specs.Outcome.{branch, fit, is_true}
use Rattle.smv_core.specs.FlatMeaning.{Numbered, FlatState, bind, values_in, simple_in, flat_outcome, flat_members, flat_meets, flat_allowed_by}
use Rattle.smv_core.specs.declared.flat.Simple.{Simple as FlatSimple}
use Rattle.smv_core.specs.declared.flat.FlatMember.{One, Span as SpanOf}
use Rattle.smv_core.specs.declared.flat.FlatExpr.{FlatExpr, Choose', List', Each', Held-FlatExpr-Each-2, None', Some', end_of-FlatExpr, more_of-FlatExpr, Row_of-FlatMember, end_of-FlatMember, more_of-FlatMember}
use Rattle.smv_core.specs.declared.abstract_type.AbsType.{AbsType}
use Rattle.law_obligations.specs.Sets.{Has, first, later}
use Rattle.law_obligations.specs.Places.{Place, named, rest, World, world, named_of, rests_of, places_of, named_in, places_in, same_place, is_named, is_among, AbsOutcome, bind_place}
use Rattle.law_obligations.specs.May.{AbsState, Kept, seen, may, may_members}
use Rattle.law_obligations.specs.Right.{gives, is_outside, gives_surely, same_outcome, gives_only, may_give_some, is_false, is_neither, chosen_surely, may_meet, must_meet, may_allow, must_allow, must_give_some}
use Rattle.law_obligations.specs.Pictures.{Placing, placed, ArePlaced, IsState, IsPicture, IsValue, AreValues}
use Rattle.law_obligations.proofs.Members.{Has-right, Has-cases, Has-map, Has-from_map, Picks, any-found, any-some, all-each, all-holds}
use Rattle.law_obligations.proofs.Members.Picks.{more as one_more}
use Rattle.law_obligations.proofs.Same.{same_place-itself, same_place-is, Has-is_in, is_among-Has}
use Rattle.law_obligations.proofs.Facts.{IsOutcome, AreOutcomes, placed_outcome, of_type, same_in, back}
use Rattle.law_obligations.proofs.Operators.{seen_placed}
use Rattle.law_obligations.proofs.Fitted.{IsOut, GivesValue, itself, outside, SomeGives, Given, fit_is, given_fits}
use Rattle.law_obligations.proofs.MayKeeps.{bind_are, bind_placed, outcome_is, members_are, keeps, keeps_members}
use Rattle.law_obligations.proofs.Lookups.{Has-filter, Has-from_filter}

false_true : {b : Bool} → b ≡ false → b ≡ true → ⊥
false_true p q = cc

-- a place of a type that is no rest is one of its classes
pub named_here : (w : World) (t : Simple) (q : Place) → Has (places_of w t) q → is_named q ≡ true → Has (named_of w t) q
named_here w t q h e = elim (Has-cases (named_of w t) (rests_of w t) h) [ inl l ↦ l | inr r ↦ absurd (at_rest t r) ]
  where
    no_rest : {X : Type 0} (f : X → Value) (xs : List X) → Has (map (λ x. rest (f x)) xs) q → ⊥
    no_rest f xs r = let g = Has-from_map (λ x. rest (f x)) xs r in false_true refl (subst (λ z. is_named z ≡ true) g.2 e)

    at_rest : (t : Simple) → Has (rests_of w t) q → ⊥
    at_rest (range low high) r = elim r [ ]
    at_rest (choice names) r = elim r [ ]
    at_rest (scalarset t) r = no_rest _ _ r
    at_rest (ordset t) r = no_rest _ _ r

same_outcome-is : (u v : AbsOutcome) → same_outcome u v ≡ true → u ≡ v
same_outcome-is None None h = refl
same_outcome-is (Some p) (Some q) h = ap Some (same_place-is p q h)
same_outcome-is None (Some q) h = absurd (cc)
same_outcome-is (Some p) None h = absurd (cc)

-- an only outcome is each
only_is : (every : List Place) (us : List AbsOutcome) (u : AbsOutcome) (p : Place) → Has us u → gives_only every us p ≡ true → gives_surely every u p ≡ true
only_is every [] u p h e = elim h [ ]
only_is every (u ∷ us) _ p first e = right_of (list_all (same_outcome u) us) (gives_surely every u p) e
only_is every (x ∷ us) u p (later h) e =
    subst (λ y. gives_surely every y p ≡ true) (same_outcome-is x u (all-each (same_outcome x) (left_of (list_all (same_outcome x) us) (gives_surely every x p) e) h))
    (right_of (list_all (same_outcome x) us) (gives_surely every x p) e)

-- what is chosen for certain is so in the branch that is taken
chosen_is : (cs : List Truth) (c : Truth) (l r e : Bool) → Has cs c → chosen_surely cs l r e ≡ true → ((c ≡ Some true) → l ≡ true) × ((c ≡ Some false) → r ≡ true)
chosen_is cs c l r e h k = at (list_all is_true cs) (list_all is_false cs) (list_all is_neither cs) refl refl refl k
  where
    clash : {a b : Bool} → Some a ≡ Some b → a ≡ b
    clash e = cc

    never : {a : Bool} → a ≡ true → a ≡ false → ⊥
    never p q = cc

    at : (p q n : Bool) → list_all is_true cs ≡ p → list_all is_false cs ≡ q → list_all is_neither cs ≡ n → (if p then l else if q then r else if n then e else l && r) ≡ true →
        ((c ≡ Some true) → l ≡ true) × ((c ≡ Some false) → r ≡ true)
    at true q n a b d k = (λ i. k, λ i. absurd (never (subst (λ z. is_true z ≡ true) i (all-each is_true a h)) refl))
    at false true n a b d k = (λ i. absurd (never (subst (λ z. is_false z ≡ true) i (all-each is_false b h)) refl), λ i. k)
    at false false true a b d k =
        (λ i. absurd (never (subst (λ z. is_neither z ≡ true) i (all-each is_neither d h)) refl), λ i. absurd (never (subst (λ z. is_neither z ≡ true) i (all-each is_neither d h)) refl))
    at false false false a b d k = (λ i. left_of l r k, λ i. right_of l r k)

-- a member's own may set
picks_find : (spots : Placing) (xss : List (List AbsOutcome)) (us : List Outcome) (u : Outcome) → Picks xss (map (placed_outcome spots) us) → Has us u →
    (xs : List AbsOutcome) × Has xss xs × Has xs (placed_outcome spots u)
picks_find spots xss [] u p h = elim h [ ]
picks_find spots _ (u ∷ us) _ (one_more {xs = xs} h others) first = (xs, first, h)
picks_find spots _ (y ∷ us) u (one_more {xss = xss} h others) (later k) = let r = picks_find spots xss us u others k in (r.0, later r.1, r.2)

module _ (n : Numbered) (types : Name → AbsType) (spots : Placing) (facts : ArePlaced n (world n types) spots)
    (s : FlatState) (is_state : IsState n s) (kept : Kept) (a : AbsState) (picture : IsPicture n spots kept s a) (t : FlatSimple) where
  abbrev values : List Value
  values = values_in n t

  abbrev every : List Place
  every = places_in (world n types) t

  here : (v : Value) → Has values v → is_among every (placed spots v) ≡ true
  here v h = is_among-Has ((facts t).is_somewhere v h)

  -- what an outcome gives, its place gives
  gives_placed : (u : Outcome) (v : Value) → IsOutcome n u → GivesValue values u v → gives every (placed_outcome spots u) (placed spots v) ≡ true
  gives_placed _ _ p (itself v h) = rw (here v h) (same_place-itself (placed spots v))
  gives_placed None v p (outside _ _ o h) = here v h
  gives_placed (Some x) v p (outside _ _ o h) = rw (sym (same_in n types spots facts t x p) ∙ o) (here v h)

  -- what its place gives for certain, an outcome gives
  surely_gives : (u : Outcome) (v : Value) → IsOutcome n u → Has values v → gives_surely every (placed_outcome spots u) (placed spots v) ≡ true → GivesValue values u v
  surely_gives None v p h e = outside None v tt h
  surely_gives (Some x) v p h e = at (is_in values x) refl (rw (sym (same_in n types spots facts t x p)) at e)
    where
      at : (b : Bool) → is_in values x ≡ b → (if b then same_place (placed spots x) (placed spots v) && is_named (placed spots x) else is_among every (placed spots v)) ≡ true → GivesValue values (Some x) v
      at true i k =
          let same_spot = same_place-is (placed spots x) (placed spots v) (left_of (same_place (placed spots x) (placed spots v)) (is_named (placed spots x)) k) in
          let inside = Has-is_in values x i in
          let one = (facts t).class_has_one x v inside h
          (named_here (world n types) (simple_in n t) (placed spots x) ((facts t).is_somewhere x inside) (right_of (same_place (placed spots x) (placed spots v)) (is_named (placed spots x)) k)) same_spot in
          subst (λ y. GivesValue values (Some y) v) (sym one) (itself v h)
      at false i k = outside (Some x) v i h

  outside_placed : (u : Outcome) → IsOutcome n u → is_outside every (placed_outcome spots u) ≡ true → IsOut values u
  outside_placed None p e = tt
  outside_placed (Some x) p e = same_in n types spots facts t x p ∙ not-true (is_among every (placed spots x)) e

  -- conditions of comprehensions
  meets_may : (test : Held-FlatExpr-Each-2) (b : List Value) (var : ℕ) (x : Value) → AreValues n b → IsValue n x → flat_meets n s test (bind b var x) ≡ true →
      may_meet (world n types) kept a test (bind_place (map (placed spots) b) var (placed spots x)) ≡ true
  meets_may None' b var x h k e = refl
  meets_may (Some' shape (more_of-FlatExpr cond end_of-FlatExpr)) b var x h k e =
      subst (λ ps. list_any (λ u. is_true (seen u)) (may (world n types) kept a cond ps) ≡ true) (bind_placed spots b var x)
      (any-found (λ u. is_true (seen u)) (keeps n types spots facts s is_state kept a picture cond (bind b var x) (bind_are n b var x h k))
      (ap is_true (seen_placed spots (flat_outcome n s cond (bind b var x))) ∙ e))

  must_meets : (test : Held-FlatExpr-Each-2) (b : List Value) (var : ℕ) (x : Value) → AreValues n b → IsValue n x →
      must_meet (world n types) kept a test (bind_place (map (placed spots) b) var (placed spots x)) ≡ true → flat_meets n s test (bind b var x) ≡ true
  must_meets None' b var x h k e = refl
  must_meets (Some' shape (more_of-FlatExpr cond end_of-FlatExpr)) b var x h k e =
      ap is_true (sym (seen_placed spots (flat_outcome n s cond (bind b var x))))
      ∙ all-each (λ u. is_true (seen u)) (subst (λ ps. list_all (λ u. is_true (seen u)) (may (world n types) kept a cond ps) ≡ true) (sym (bind_placed spots b var x)) e)
      (keeps n types spots facts s is_state kept a picture cond (bind b var x) (bind_are n b var x h k))

  -- a listed set
  some_may : (xss : List (List AbsOutcome)) (us : List Outcome) (v : Value) → Picks xss (map (placed_outcome spots) us) → ((u : Outcome) → Has us u → IsOutcome n u) → Has values v → Given values us v →
      may_give_some every xss (placed spots v) ≡ true
  some_may [] us v p known h g = here v h
  some_may (xs ∷ xss) [] v p known h g = elim p [ ]
  some_may (xs ∷ xss) (u ∷ us) v p known h (inl e) = absurd (cc)
  some_may (xs ∷ xss) (u ∷ us) v p known h (inr (y, k, g)) =
      let r = picks_find spots (xs ∷ xss) (u ∷ us) y p k in
      any-found (λ us. list_any (λ u. gives every u (placed spots v)) us) r.1 (any-found (λ u. gives every u (placed spots v)) r.2 (gives_placed y v (known y k) g))

  only_one : {X : Type 0} {x y : X} → Has (x ∷ []) y → y ≡ x
  only_one first = refl
  only_one (later h) = elim h [ ]

  each_is : (us : List Outcome) (u : Outcome) → AreOutcomes n us → Has us u → IsOutcome n u
  each_is [] u p h = elim h [ ]
  each_is (u ∷ us) _ p first = p.0
  each_is (x ∷ us) u p (later h) = each_is us u p.1 h

  abbrev B : List Value → List Place
  B b = map (placed spots) b

  plain_may : (e : FlatExpr) (b : List Value) (v : Value) → AreValues n b → Has (fit values (flat_outcome n s e b ∷ [])) v →
      Has values v × (list_any (λ u. gives every u (placed spots v)) (may (world n types) kept a e (B b)) ≡ true)
  plain_may e b v h k = let r = fit_is values (flat_outcome n s e b ∷ []) v k in (
    r.0,
    elim r.1 [
      | inl i ↦ absurd (cc)
      | inr g ↦ any-found (λ u. gives every u (placed spots v)) (keeps n types spots facts s is_state kept a picture e b h)
          (gives_placed (flat_outcome n s e b) v (outcome_is n types spots facts s is_state e b h) (subst (λ u. GivesValue values u v) (only_one g.1) g.2))
    ],
  )

  abbrev listed_by : Held-FlatExpr-Each-2 → ℕ → FlatSimple → List Value → List Value
  listed_by test var over b = filter (λ v. flat_meets n s test (bind b var v)) (values_in n over)

  empty_map : {X Y : Type 0} (f : X → Y) (xs : List X) → map f xs ≡ [] → (x : X) → Has xs x → ⊥
  empty_map f [] e x h = elim h [ ]
  empty_map f (y ∷ xs) e x h = cc

  each_may : (var : ℕ) (over : FlatSimple) (test : Held-FlatExpr-Each-2) (b : List Value) (v : Value) → AreValues n b → Has values v → Given values (map Some (listed_by test var over b)) v →
      (list_any (λ q. may_meet (world n types) kept a test (bind_place (B b) var q) && gives every (Some q) (placed spots v)) (places_in (world n types) over)
      || (list_all (λ q. not (must_meet (world n types) kept a test (bind_place (B b) var q))) (named_in (world n types) over) && is_among every (placed spots v))) ≡ true
  each_may var over test b v h k (inl e) =
      either_right (list_any (λ q. may_meet (world n types) kept a test (bind_place (B b) var q) && gives every (Some q) (placed spots v)) (places_in (world n types) over))
      (and_both (all-holds (λ q. not (must_meet (world n types) kept a test (bind_place (B b) var q))) (named_in (world n types) over)
      (λ q hq. let x = (facts over).class_has_value q hq in elim (cases_Bool (must_meet (world n types) kept a test (bind_place (B b) var q))) [
        | inl m ↦ absurd (empty_map Some (listed_by test var over b) e x.0 (Has-filter (λ v. flat_meets n s test (bind b var v)) x.1
            (must_meets test b var x.0 h (of_type n over x.0 x.1) (subst (λ z. must_meet (world n types) kept a test (bind_place (B b) var z) ≡ true) (sym x.2) m))))
        | inr m ↦ ap not m
      ]))
      (here v k))
  each_may var over test b v h k (inr (y, hy, g)) =
      let x = Has-from_map Some (listed_by test var over b) hy in
      let f = Has-from_filter (λ v. flat_meets n s test (bind b var v)) (values_in n over) x.1 in
      let known = of_type n over x.0 f.0 in
      either_left (list_all (λ q. not (must_meet (world n types) kept a test (bind_place (B b) var q))) (named_in (world n types) over) && is_among every (placed spots v))
      (any-found (λ q. may_meet (world n types) kept a test (bind_place (B b) var q) && gives every (Some q) (placed spots v)) ((facts over).is_somewhere x.0 f.0)
      (and_both (meets_may test b var x.0 h known f.1) (gives_placed (Some x.0) v known (subst (λ u. GivesValue values u v) x.2 g))))

  chosen_may : (c : Truth) (u : Outcome) (us ws : List Value) (l r : Bool) (v : Value) → truth u ≡ c → (Has us v → Has values v × (l ≡ true)) → (Has ws v → Has values v × (r ≡ true)) →
      Has (branch values c us ws) v → Has values v × (branch (is_among every (placed spots v)) (seen (placed_outcome spots u)) l r ≡ true)
  chosen_may None u us ws l r v e p q h = (h, rw (seen_placed spots u ∙ e) (here v h))
  chosen_may (Some true) u us ws l r v e p q h = let k = p h in (k.0, rw (seen_placed spots u ∙ e) k.1)
  chosen_may (Some false) u us ws l r v e p q h = let k = q h in (k.0, rw (seen_placed spots u ∙ e) k.1)

  -- what a right side allows, it may allow in the picture
  pub right_may : (e : FlatExpr) (b : List Value) (v : Value) → AreValues n b → Has (flat_allowed_by n s values e b) v →
      Has values v × (may_allow (world n types) kept a every e (map (placed spots) b) (placed spots v) ≡ true)
  right_may (List' shape members place) b v h k =
      let r = fit_is values (flat_members n s members b) v k in (
        r.0,
        some_may (may_members (world n types) kept a members (B b)) (flat_members n s members b) v (keeps_members n types spots facts s is_state kept a picture members b h)
            (λ u i. each_is (flat_members n s members b) u (members_are n types spots facts s is_state members b h) i) r.0 r.1,
      )
  right_may (Each' var over test place) b v h k =
      let r = fit_is values (map Some (listed_by test var over b)) v k in (r.0, each_may var over test b v h r.0 r.1)
  right_may (Choose' c (more_of-FlatExpr test end_of-FlatExpr) l (more_of-FlatExpr left end_of-FlatExpr) r (more_of-FlatExpr right end_of-FlatExpr)) b v h k =
      let x = chosen_may (truth (flat_outcome n s test b)) (flat_outcome n s test b) (flat_allowed_by n s values left b) (flat_allowed_by n s values right b)
      (may_allow (world n types) kept a every left (B b) (placed spots v)) (may_allow (world n types) kept a every right (B b) (placed spots v)) v refl
      (λ i. right_may left b v h i) (λ i. right_may right b v h i) k in (
        x.0,
        any-found (λ u. branch (is_among every (placed spots v)) (seen u) (may_allow (world n types) kept a every left (B b) (placed spots v)) (may_allow (world n types) kept a every right (B b) (placed spots v)))
            (keeps n types spots facts s is_state kept a picture test b h) x.1,
      )
  right_may e b v h k = plain_may e b v h k

  -- the other way
  plain_must : (e : FlatExpr) (b : List Value) (v : Value) → AreValues n b → Has values v → gives_only every (may (world n types) kept a e (B b)) (placed spots v) ≡ true → GivesValue values (flat_outcome n s e b) v
  plain_must e b v h k m = surely_gives (flat_outcome n s e b) v (outcome_is n types spots facts s is_state e b h) k
      (only_is every (may (world n types) kept a e (B b)) (placed_outcome spots (flat_outcome n s e b)) (placed spots v) (keeps n types spots facts s is_state kept a picture e b h) m)

  one_fits : (u : Outcome) (v : Value) → GivesValue values u v → Has (fit values (u ∷ [])) v
  one_fits u v g = given_fits values (u ∷ []) v (u, first, g)

  branch_gives : (c : Truth) (x y : Outcome) (v : Value) → Has values v → ((c ≡ Some true) → GivesValue values x v) → ((c ≡ Some false) → GivesValue values y v) → GivesValue values (branch None c x y) v
  branch_gives None x y v h p q = outside None v tt h
  branch_gives (Some true) x y v h p q = p refl
  branch_gives (Some false) x y v h p q = q refl

  branch_fits : (c : Truth) (us ws : List Value) (v : Value) → Has values v → ((c ≡ Some true) → Has us v) → ((c ≡ Some false) → Has ws v) → Has (branch values c us ws) v
  branch_fits None us ws v h p q = h
  branch_fits (Some true) us ws v h p q = p refl
  branch_fits (Some false) us ws v h p q = q refl

  number_known : (ks : List ℕ) (v : Value) (others : List Outcome) → Has values v → list_any (λ us. list_any (λ u. gives_surely every u (placed spots v)) us) (map (λ k. Some (named (number k)) ∷ []) ks ++ []) ≡ true →
      SomeGives values (map (λ k. Some (number k)) ks ++ others) v
  number_known [] v others h e = absurd (false_true refl e)
  number_known (k ∷ ks) v others h e = elim (or_cases (list_any (λ u. gives_surely every u (placed spots v)) (Some (named (number k)) ∷ [])) _ e) [
    | inl i ↦ elim (or_cases (gives_surely every (Some (named (number k))) (placed spots v)) false i) [
      | inl j ↦ (Some (number k), first, surely_gives (Some (number k)) v tt h j)
      | inr j ↦ absurd (false_true refl j)
    ]
    | inr i ↦ let r = number_known ks v others h i in (r.0, later r.1, r.2)
  ]

  each_must : (var : ℕ) (over : FlatSimple) (test : Held-FlatExpr-Each-2) (b : List Value) (v : Value) → AreValues n b → Has values v →
      ((list_all (λ q. not (may_meet (world n types) kept a test (bind_place (B b) var q))) (places_in (world n types) over) && is_among every (placed spots v))
      || ((list_any (λ q. must_meet (world n types) kept a test (bind_place (B b) var q) && not (is_among every q)) (named_in (world n types) over) && is_among every (placed spots v))
      || list_any (λ q. must_meet (world n types) kept a test (bind_place (B b) var q) && same_place q (placed spots v)) (places_in (world n types) over))) ≡ true →
      Has (fit values (map Some (listed_by test var over b))) v
  each_must var over test b v h k e = elim (or_cases (list_all (λ q. not (may_meet (world n types) kept a test (bind_place (B b) var q))) (places_in (world n types) over) && is_among every (placed spots v)) _ e) [
    | inl i ↦ by_none (listed_by test var over b) (λ x g. let f = Has-from_filter (λ v. flat_meets n s test (bind b var v)) (values_in n over) g in
        false_true (not-true (may_meet (world n types) kept a test (bind_place (B b) var (placed spots x)))
        (all-each (λ q. not (may_meet (world n types) kept a test (bind_place (B b) var q))) (left_of _ _ i) ((facts over).is_somewhere x f.0)))
        (meets_may test b var x h (of_type n over x f.0) f.1))
    | inr i ↦ elim (or_cases (list_any (λ q. must_meet (world n types) kept a test (bind_place (B b) var q) && not (is_among every q)) (named_in (world n types) over) && is_among every (placed spots v)) _ i) [
      | inl j ↦ by_outside (any-some (λ q. must_meet (world n types) kept a test (bind_place (B b) var q) && not (is_among every q)) (named_in (world n types) over) (left_of _ _ j))
      | inr j ↦ by_itself (any-some (λ q. must_meet (world n types) kept a test (bind_place (B b) var q) && same_place q (placed spots v)) (places_in (world n types) over) j)
    ]
  ]
    where
      by_none : (xs : List Value) → ((x : Value) → Has xs x → ⊥) → Has (fit values (map Some xs)) v
      by_none [] g = k
      by_none (x ∷ xs) g = absurd (g x first)

      by_outside : (q : Place) × Has (named_in (world n types) over) q × ((must_meet (world n types) kept a test (bind_place (B b) var q) && not (is_among every q)) ≡ true) → Has (fit values (map Some (listed_by test var over b))) v
      by_outside (q, hq, m) =
          let x = (facts over).class_has_value q hq in
          let known = of_type n over x.0 x.1 in
          let met = left_of (must_meet (world n types) kept a test (bind_place (B b) var q)) (not (is_among every q)) m in
          let out = not-true (is_among every q) (right_of (must_meet (world n types) kept a test (bind_place (B b) var q)) (not (is_among every q)) m) in
          given_fits values (map Some (listed_by test var over b)) v (
            Some x.0,
            Has-map Some (Has-filter (λ v. flat_meets n s test (bind b var v)) x.1 (must_meets test b var x.0 h known (subst (λ z. must_meet (world n types) kept a test (bind_place (B b) var z) ≡ true) (sym x.2) met))),
            outside (Some x.0) v (same_in n types spots facts t x.0 known ∙ subst (λ z. is_among every z ≡ false) (sym x.2) out) k,
          )

      by_itself : (q : Place) × Has (places_in (world n types) over) q × ((must_meet (world n types) kept a test (bind_place (B b) var q) && same_place q (placed spots v)) ≡ true) → Has (fit values (map Some (listed_by test var over b))) v
      by_itself (q, hq, m) =
          let is = same_place-is q (placed spots v) (right_of (must_meet (world n types) kept a test (bind_place (B b) var q)) (same_place q (placed spots v)) m) in
          let known = of_type n t v k in
          let inside = back n types spots facts over v known (subst (Has (places_in (world n types) over)) is hq) in
          let met = subst (λ z. must_meet (world n types) kept a test (bind_place (B b) var z) ≡ true) is (left_of (must_meet (world n types) kept a test (bind_place (B b) var q)) (same_place q (placed spots v)) m) in
          given_fits values (map Some (listed_by test var over b)) v
          (Some v, Has-map Some (Has-filter (λ v. flat_meets n s test (bind b var v)) inside (must_meets test b var v h known met)), itself v k)

  abbrev Must : FlatExpr → List Value → Value → Bool
  Must e b v = must_allow (world n types) kept a every e (B b) (placed spots v)

  test_is : (test : FlatExpr) (b : List Value) → AreValues n b → Has (map seen (may (world n types) kept a test (B b))) (truth (flat_outcome n s test b))
  test_is test b h = subst (Has (map seen (may (world n types) kept a test (B b)))) (seen_placed spots (flat_outcome n s test b)) (Has-map seen (keeps n types spots facts s is_state kept a picture test b h))

  -- an outcome gives what is certain of its expression; a set has no outcome of its own
  must_gives : (e : FlatExpr) (b : List Value) (v : Value) → AreValues n b → Has values v → Must e b v ≡ true → GivesValue values (flat_outcome n s e b) v
  must_gives (List' shape members place) b v h k m = outside None v tt k
  must_gives (Each' var over test place) b v h k m = outside None v tt k
  must_gives (Choose' c (more_of-FlatExpr test end_of-FlatExpr) l (more_of-FlatExpr left end_of-FlatExpr) r (more_of-FlatExpr right end_of-FlatExpr)) b v h k m =
      let chosen = chosen_is (map seen (may (world n types) kept a test (B b))) (truth (flat_outcome n s test b)) (Must left b v) (Must right b v) (is_among every (placed spots v)) (test_is test b h) m in
      branch_gives (truth (flat_outcome n s test b)) (flat_outcome n s left b) (flat_outcome n s right b) v k (λ i. must_gives left b v h k (chosen.0 i)) (λ i. must_gives right b v h k (chosen.1 i))
  must_gives e b v h k m = plain_must e b v h k m

  members_must : {m : _} (row : Row_of-FlatMember m) (b : List Value) (v : Value) → AreValues n b → Has values v → must_give_some (world n types) kept a every row (B b) (placed spots v) ≡ true →
      SomeGives values (flat_members n s row b) v
  members_must end_of-FlatMember b v h k e = absurd (false_true refl e)
  members_must (more_of-FlatMember (One x) others) b v h k e =
      elim (or_cases (list_all (is_outside every) (may (world n types) kept a x (B b)) && is_among every (placed spots v)) _ e) [
        | inl i ↦ (
          flat_outcome n s x b,
          first,
          outside (flat_outcome n s x b) v
              (outside_placed (flat_outcome n s x b) (outcome_is n types spots facts s is_state x b h)
              (all-each (is_outside every) (left_of (list_all (is_outside every) (may (world n types) kept a x (B b))) _ i) (keeps n types spots facts s is_state kept a picture x b h))) k,
        )
        | inr i ↦ elim (or_cases (Must x b v) _ i) [
          | inl j ↦ (flat_outcome n s x b, first, must_gives x b v h k j)
          | inr j ↦ let r = members_must others b v h k j in (r.0, later r.1, r.2)
        ]
      ]
  members_must (more_of-FlatMember (SpanOf span place) others) b v h k e =
      elim (or_cases (list_any (λ us. list_any (λ u. gives_surely every u (placed spots v)) us) (map (λ k. Some (named (number k)) ∷ []) (numbers_from span.low (span.high + 1 - span.low)) ++ [])) _ e) [
        | inl i ↦ number_known (numbers_from span.low (span.high + 1 - span.low)) v (flat_members n s others b) k i
        | inr i ↦ let r = members_must others b v h k i in (r.0, Has-right (map (λ k. Some (number k)) (numbers_from span.low (span.high + 1 - span.low))) r.1, r.2)
      ]

  -- what a right side allows in the picture for certain, it allows
  pub right_must : (e : FlatExpr) (b : List Value) (v : Value) → AreValues n b → Has values v →
      must_allow (world n types) kept a every e (map (placed spots) b) (placed spots v) ≡ true → Has (flat_allowed_by n s values e b) v
  right_must (List' shape members place) b v h k m = given_fits values (flat_members n s members b) v (members_must members b v h k m)
  right_must (Each' var over test place) b v h k m = each_must var over test b v h k m
  right_must (Choose' c (more_of-FlatExpr test end_of-FlatExpr) l (more_of-FlatExpr left end_of-FlatExpr) r (more_of-FlatExpr right end_of-FlatExpr)) b v h k m =
      let chosen = chosen_is (map seen (may (world n types) kept a test (B b))) (truth (flat_outcome n s test b)) (Must left b v) (Must right b v) (is_among every (placed spots v)) (test_is test b h) m in
      branch_fits (truth (flat_outcome n s test b)) (flat_allowed_by n s values left b) (flat_allowed_by n s values right b) v k (λ i. right_must left b v h k (chosen.0 i)) (λ i. right_must right b v h k (chosen.1 i))
  right_must e b v h k m = one_fits (flat_outcome n s e b) v (plain_must e b v h k m)
