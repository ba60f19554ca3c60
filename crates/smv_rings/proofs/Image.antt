-- A turn makes the image of a ring, and its look finds a violating step.
use Rattle.std.proofs.Common.{◌≡◌, ◌≢◌, ℕ, suc, ◌+◌, ◌*◌, ◌-◌, ◌/◌, ◌%◌, ◌<◌, ◌≤◌, Bool, true, false, eqb, cond, not, ◌&&◌, ◌||◌, ◌⊎◌, inl, inr, List, [], ◌∷◌, ◌++◌, refl, sym, ◌∙◌, ap, subst, arith, append_assoc}
use Rattle.std.proofs.lemmas.Bool.Decides.{nat_tests}
use Rattle.std.proofs.lemmas.Bool.{cases_lt}
use Rattle.bdd_store.specs.Graph.{with_at}
use Rattle.bdd_store.proofs.Walks.{with_other}
use Rattle.bdd_ops.specs.Functions.{Function, some_at, lowered, depends, FreeOf}
use Rattle.smv_rings.specs.Functions.{conj, DependsBelow}
use Rattle.smv_rings.proofs.Tables.{free_then}
use Rattle.smv_rings.specs.Lists.{Lists, State, both, at, all_of, AllBelow, IsCurrent, IsLists}
use Rattle.smv_rings.specs.Paths.{Steps}
use Rattle.smv_rings.specs.Schedule.{Act, after, reads_none, evens, vars, outs, joins, unread, forth, back, turn}
use Rattle.smv_rings.specs.Schedule.Act.{Join, Out, Look_at, Lower}
use Rattle.smv_rings.proofs.Early.{joined, FreeAll, IsEarly, and_true, true_and, early_sound, early_complete, NoLower, Has, behind, joined_outs, lower_outs, early_outs, outs_free}
use Rattle.smv_rings.proofs.Turns.{current_agree, next_agree, after_append, has_evens, evens_even, joins_then, joins_are, none_free, none_append, append_none, joined_joins, lower_joins, early_joins, joins_free}

pub append_nil : {A : Type 0} → (xs : List A) → xs ++ [] ≡ xs
append_nil [] = refl
append_nil (x ∷ xs) = ap (λ ys. x ∷ ys) (append_nil xs)

pub all_append : (fs gs : List Function) (a : ℕ → Bool) → all_of fs a ≡ true → all_of gs a ≡ true → all_of (fs ++ gs) a ≡ true
all_append [] gs a e g = g
all_append (f ∷ fs) gs a e g = let parts = and_true (f a) (all_of fs a) e in true_and (f a) (all_of (fs ++ gs) a) parts.0 (all_append fs gs a parts.1 g)

pub append_all : (fs gs : List Function) (a : ℕ → Bool) → all_of (fs ++ gs) a ≡ true → (all_of fs a ≡ true) × (all_of gs a ≡ true)
append_all [] gs a e = (refl, e)
append_all (f ∷ fs) gs a e =
    let parts = and_true (f a) (all_of (fs ++ gs) a) e in
    let more = append_all fs gs a parts.1 in
    (true_and (f a) (all_of fs a) parts.0 more.0, more.1)

pub below_some : (n v : ℕ) (p : Function) → DependsBelow n p → DependsBelow n (some_at v p)
below_some n v p below a c same = ap (λ x. x || p (with_at a v true)) (free_then n v p below false a c same) ∙ ap (λ x. p (with_at c v false) || x) (free_then n v p below true a c same)

pub below_after : (n : ℕ) (acts : List Act) (p : Function) → NoLower acts → DependsBelow n p → AllBelow n (joined acts) → DependsBelow n (after p acts)
below_after n [] p none below all = below
below_after n (Join f ∷ acts) p none below all = below_after n acts (conj p f) none (λ a c same. ap (λ x. x && f a) (below a c same) ∙ ap (λ x. p c && x) (all.0 a c same)) all.1
below_after n (Out v ∷ acts) p none below all = below_after n acts (some_at v p) none (below_some n v p below) all
below_after n (Look_at k f ∷ acts) p none below all = below_after n acts p none below all
below_after n (Lower ∷ acts) p none below all = absurd none

pub below_append : (n : ℕ) (fs gs : List Function) → AllBelow n fs → AllBelow n gs → AllBelow n (fs ++ gs)
below_append n [] gs f g = g
below_append n (x ∷ fs) gs f g = (f.0, below_append n fs gs f.1 g)

-- an assignment is that of two states
pub halves : (c : ℕ → Bool) (t : State) → ((v : ℕ) → v % 2 ≡ 1 → c v ≡ t (v / 2)) → c ≡ both (λ b. c (2 * b)) t
halves c t odd = λ i v. place v i
  where
    place : (v : ℕ) → c v ≡ cond (eqb (v % 2) 0) (c (2 * (v / 2))) (t (v / 2))
    place v = by_test (eqb (v % 2) 0) refl
      where
        by_test : (x : Bool) → eqb (v % 2) 0 ≡ x → c v ≡ cond x (c (2 * (v / 2))) (t (v / 2))
        by_test true e = ap c (let z : v % 2 ≡ 0 = grind (arith, nat_tests) in omega arith)
        by_test false e = odd v (let z : v % 2 ≢ 0 = grind (arith, nat_tests) in omega arith)

pub both_odd : (s t : State) (v : ℕ) → v % 2 ≡ 1 → both s t v ≡ t (v / 2)
both_odd s t v e = grind (arith, nat_tests)

pub both_even : (s t : State) (v : ℕ) → v % 2 ≡ 0 → both s t v ≡ s (v / 2)
both_even s t v e = grind (arith, nat_tests)

pub both_at : (c : ℕ → Bool) (v : ℕ) → v % 2 ≡ 0 → c v ≡ at (λ b. c (2 * b)) v
both_at c v e = ap c (omega arith) ∙ sym (both_even (λ b. c (2 * b)) (λ b. c (2 * b)) v e)

pub down_odd : (t : State) (v : ℕ) → v % 2 ≡ 1 → at t (v - 1) ≡ t (v / 2)
down_odd t v e = both_even t t (v - 1) (omega arith) ∙ ap t (omega arith)

pub current_pair : (n : ℕ) (p : Function) → DependsBelow n p → IsCurrent p → (s t : State) → p (both s t) ≡ p (at s)
current_pair n p below current s t = current_agree n p below current (both s t) (at s) (λ v e. both_even s t v e ∙ sym (both_even s s v e))

module _ (l : Lists) (ok : IsLists l) where
  later : List Function
  later = l.broken_step ∷ l.before_step

  none_test : List Function → ℕ → Bool
  none_test fs v = reads_none (vars l) fs v

  abbrev read_first : List Function → List Function → ℕ → Bool
  read_first fs gs v = reads_none (vars l) (fs ++ gs) v

  abbrev last_test : ℕ → Bool
  last_test v = depends (vars l) l.broken_step v && reads_none (vars l) l.before_step v

  abbrev unread_test : ℕ → Bool
  unread_test v = reads_none (vars l) (l.now_step ++ (l.broken_step ∷ l.before_step)) v

  abbrev forth_then : List Act → List Act
  forth_then rest = behind unread_test (joins_then l l.now_step (l.broken_step ∷ l.before_step) rest) (evens l.bits)

  abbrev back_acts : List Act
  back_acts = behind last_test (joins_then l l.before_step [] []) (evens l.bits)

  abbrev whole : List Act
  whole = forth_then back_acts

  forth_are : (rest : List Act) → forth l ++ rest ≡ forth_then rest
  forth_are rest = append_assoc (unread l) (joins l l.now_step (l.broken_step ∷ l.before_step)) rest ∙ ap (λ acts. unread l ++ acts) (joins_are l l.now_step (l.broken_step ∷ l.before_step) rest)

  back_are : back l ≡ back_acts ++ (Lower ∷ [])
  back_are =
      ap (λ acts. outs l l.broken_step l.before_step ++ (acts ++ (Lower ∷ []))) (sym (append_nil (joins l l.before_step [])) ∙ joins_are l l.before_step [] [])
      ∙ sym (append_assoc (outs l l.broken_step l.before_step) (joins_then l l.before_step [] []) (Lower ∷ []))

  pub turn_is : (p : Function) (k : ℕ) → after p (turn l k) ≡ lowered (after p whole)
  turn_is p k =
      after_append p (forth l) (Look_at (suc k) l.broken_step ∷ back l)
      ∙ ap (after (after p (forth l))) back_are
      ∙ after_append (after p (forth l)) back_acts (Lower ∷ [])
      ∙ ap lowered (sym (after_append p (forth l) back_acts) ∙ ap (after p) (forth_are back_acts))

  lower_back : NoLower back_acts
  lower_back = lower_outs last_test (joins_then l l.before_step [] []) (evens l.bits) (lower_joins l l.before_step [] [] tt)

  lower_whole : NoLower whole
  lower_whole = lower_outs unread_test (joins_then l l.now_step (l.broken_step ∷ l.before_step) back_acts) (evens l.bits) (lower_joins l l.now_step (l.broken_step ∷ l.before_step) back_acts lower_back)

  joined_back : joined back_acts ≡ l.before_step ++ []
  joined_back = joined_outs last_test (joins_then l l.before_step [] []) (evens l.bits) ∙ joined_joins l l.before_step [] []

  joined_whole : joined whole ≡ l.now_step ++ (l.before_step ++ [])
  joined_whole = joined_outs unread_test (joins_then l l.now_step (l.broken_step ∷ l.before_step) back_acts) (evens l.bits) ∙ joined_joins l l.now_step (l.broken_step ∷ l.before_step) back_acts ∙ ap (λ gs. l.now_step ++ gs) joined_back

  before_free : (v : ℕ) → reads_none (vars l) l.before_step v ≡ true → FreeAll v (joined back_acts)
  before_free v e = subst (FreeAll v) (sym (joined_back ∙ append_nil l.before_step)) (none_free l l.before_step ok.before_step v e)

  later_none : (v : ℕ) → reads_none (vars l) (l.broken_step ∷ l.before_step) v ≡ true → FreeOf v l.broken_step × (reads_none (vars l) l.before_step v ≡ true)
  later_none v e = let free = none_free l (l.broken_step ∷ l.before_step) (ok.broken_step, ok.before_step) v e in (free.0, (and_true (not (depends (vars l) l.broken_step v)) (reads_none (vars l) l.before_step v) e).1)

  free_append : (v : ℕ) (fs gs : List Function) → FreeAll v fs → FreeAll v gs → FreeAll v (fs ++ gs)
  free_append v [] gs f g = g
  free_append v (x ∷ fs) gs f g = (f.0, free_append v fs gs f.1 g)

  early_back : IsEarly [] back_acts
  early_back = early_outs last_test (joins_then l l.before_step [] []) [] (evens l.bits) (evens_even l.bits)
      (λ v e. (subst (FreeAll v) (sym (joined_joins l l.before_step [] [] ∙ append_nil l.before_step)) (none_free l l.before_step ok.before_step v (and_true (depends (vars l) l.broken_step v) (reads_none (vars l) l.before_step v) e).1), tt))
      (early_joins l [] l.before_step [] [] ok.before_step (λ v e. (tt, tt)) tt)

  early_forth : (tail : List Function) (rest : List Act) → ((v : ℕ) → reads_none (vars l) (l.broken_step ∷ l.before_step) v ≡ true → FreeAll v (joined rest) × FreeAll v tail) → IsEarly tail rest → IsEarly tail (forth_then rest)
  early_forth tail rest free early = early_outs unread_test (joins_then l l.now_step (l.broken_step ∷ l.before_step) rest) tail (evens l.bits) (evens_even l.bits)
      (λ v e.
      let none = append_none l l.now_step (l.broken_step ∷ l.before_step) v e in
      let more = free v none.1 in
      (subst (FreeAll v) (sym (joined_joins l l.now_step (l.broken_step ∷ l.before_step) rest)) (free_append v l.now_step (joined rest) (none_free l l.now_step ok.now_step v none.0) more.0), more.1))
      (early_joins l tail l.now_step (l.broken_step ∷ l.before_step) rest ok.now_step free early)

  early_whole : IsEarly [] whole
  early_whole = early_forth [] back_acts (λ v e. (before_free v (later_none v e).1, tt)) early_back

  early_look : IsEarly (l.broken_step ∷ []) (forth_then [])
  early_look = early_forth (l.broken_step ∷ []) [] (λ v e. (tt, ((later_none v e).0, tt))) tt

  -- each current variable is quantified
  whole_free : (p : Function) (b : ℕ) → b < l.bits → FreeOf (2 * b) (after p whole)
  whole_free p b lt = by_tests (reads_none (vars l) l.now_step v) (depends (vars l) l.broken_step v) (reads_none (vars l) l.before_step v) refl refl refl
    where
      v : ℕ
      v = 2 * b

      has : Has v (evens l.bits)
      has = has_evens l.bits b lt

      now_then : List Act
      now_then = joins_then l l.now_step (l.broken_step ∷ l.before_step) back_acts

      at_back : ((q : Function) → FreeOf v (after q back_acts)) → FreeOf v (after p whole)
      at_back free = subst (λ acts. FreeOf v (after p acts)) (forth_are back_acts) (subst (FreeOf v) (sym (after_append p (forth l) back_acts)) (free (after p (forth l))))

      before_then : List Act
      before_then = joins_then l l.before_step [] []

      by_tests : (x y z : Bool) → reads_none (vars l) l.now_step v ≡ x → depends (vars l) l.broken_step v ≡ y → reads_none (vars l) l.before_step v ≡ z → FreeOf v (after p whole)
      by_tests x y false e g h = at_back (λ q.
          subst (FreeOf v) (sym (after_append q (outs l l.broken_step l.before_step) (joins_then l l.before_step [] []))) (
          joins_free l l.before_step [] [] (after q (outs l l.broken_step l.before_step)) v ok.before_step tt has h refl tt))
      by_tests x true true e g h = at_back (λ q.
          outs_free last_test (joins_then l l.before_step [] []) v (evens l.bits) q (lower_joins l l.before_step [] [] tt) has (true_and (depends (vars l) l.broken_step v) (reads_none (vars l) l.before_step v) g h)
          (subst (FreeAll v) (sym (joined_joins l l.before_step [] [] ∙ append_nil l.before_step)) (none_free l l.before_step ok.before_step v h)))
      by_tests true false true e g h =
          let past : reads_none (vars l) (l.broken_step ∷ l.before_step) v ≡ true = true_and (not (depends (vars l) l.broken_step v)) (reads_none (vars l) l.before_step v) (ap not g) h in
          outs_free unread_test (joins_then l l.now_step (l.broken_step ∷ l.before_step) back_acts) v (evens l.bits) p (lower_joins l l.now_step (l.broken_step ∷ l.before_step) back_acts lower_back) has (none_append l l.now_step (l.broken_step ∷ l.before_step) v e past)
          (subst (FreeAll v) (sym (joined_joins l l.now_step (l.broken_step ∷ l.before_step) back_acts)) (free_append v l.now_step (joined back_acts) (none_free l l.now_step ok.now_step v e) (before_free v h)))
      by_tests false false true e g h =
          let past : reads_none (vars l) (l.broken_step ∷ l.before_step) v ≡ true = true_and (not (depends (vars l) l.broken_step v)) (reads_none (vars l) l.before_step v) (ap not g) h in
          subst (FreeOf v) (sym (after_append p (unread l) (joins_then l l.now_step (l.broken_step ∷ l.before_step) back_acts)))
          (joins_free l l.now_step (l.broken_step ∷ l.before_step) back_acts (after p (unread l)) v ok.now_step lower_back has e past (before_free v h))

  whole_below : (p : Function) → DependsBelow (2 * l.bits) p → DependsBelow (2 * l.bits) (after p whole)
  whole_below p below = below_after (2 * l.bits) whole p lower_whole below (subst (AllBelow (2 * l.bits)) (sym joined_whole) (below_append (2 * l.bits) l.now_step (l.before_step ++ []) ok.now_step (subst (AllBelow (2 * l.bits)) (sym (append_nil l.before_step)) ok.before_step)))

  whole_agree : (p : Function) → DependsBelow (2 * l.bits) p → (a c : ℕ → Bool) → ((v : ℕ) → v % 2 ≡ 1 → a v ≡ c v) → after p whole a ≡ after p whole c
  whole_agree p below a c same = next_agree l.bits (after p whole) (whole_below p below) (whole_free p) a c same

  -- the image: from a state of the set by a step in which everything holds
  pub image_to : (p : Function) (k : ℕ) → DependsBelow (2 * l.bits) p → IsCurrent p → (t : State) → after p (turn l k) (at t) ≡ true → (s : State) × (p (at s) ≡ true) × Steps l s t
  image_to p k below current t e =
      let is : after p whole (λ v. at t (v - 1)) ≡ true = sym (ap (λ f. f (at t)) (turn_is p k)) ∙ e in
      let found = early_sound [] whole p (λ v. at t (v - 1)) early_whole is refl in
      let s : State = λ b. found.0 (2 * b) in
      let pair : found.0 ≡ both s t = halves found.0 t (λ v odd. found.1 v odd ∙ down_odd t v odd) in
      let parts = append_all l.now_step (l.before_step ++ []) (both s t) (ap (all_of (l.now_step ++ (l.before_step ++ []))) (sym pair) ∙ ap (λ gs. all_of gs found.0) (sym joined_whole) ∙ found.3) in
      (s, sym (current_pair (2 * l.bits) p below current s t) ∙ ap p (sym pair) ∙ found.2, (parts.0, (append_all l.before_step [] (both s t) parts.1).0))

  pub image_from : (p : Function) (k : ℕ) → DependsBelow (2 * l.bits) p → IsCurrent p → (s t : State) → p (at s) ≡ true → Steps l s t → after p (turn l k) (at t) ≡ true
  image_from p k below current s t e steps =
      let all : all_of (joined whole) (both s t) ≡ true = ap (λ gs. all_of gs (both s t)) joined_whole ∙ all_append l.now_step (l.before_step ++ []) (both s t) steps.0 (all_append l.before_step [] (both s t) steps.1 refl) in
      let is : after p whole (both s t) ≡ true = early_complete whole p (both s t) lower_whole (current_pair (2 * l.bits) p below current s t ∙ e) all in
      ap (λ f. f (at t)) (turn_is p k) ∙ whole_agree p below (λ v. at t (v - 1)) (both s t) (λ v odd. down_odd t v odd ∙ sym (both_odd s t v odd)) ∙ is

  pub image_below : (p : Function) (k : ℕ) → DependsBelow (2 * l.bits) p → DependsBelow (2 * l.bits) (after p (turn l k))
  image_below p k below = subst (DependsBelow (2 * l.bits)) (sym (turn_is p k)) (λ a c same. whole_below p below (λ v. a (v - 1)) (λ v. c (v - 1)) (λ v lt. same (v - 1) (omega arith)))

  pub image_current : (p : Function) (k : ℕ) → DependsBelow (2 * l.bits) p → IsCurrent (after p (turn l k))
  image_current p k below b = subst (FreeOf (2 * b + 1)) (sym (turn_is p k)) (λ a.
      whole_agree p below (λ v. with_at a (2 * b + 1) false (v - 1)) (λ v. with_at a (2 * b + 1) true (v - 1)) (λ v odd.
      with_other a (2 * b + 1) false (v - 1) (λ e. omega arith) ∙ sym (with_other a (2 * b + 1) true (v - 1) (λ e. omega arith))))

  pub look_below : (p : Function) → DependsBelow (2 * l.bits) p → DependsBelow (2 * l.bits) (conj (after p (forth l)) l.broken_step)
  look_below p below a c same =
      let joined_is : joined (forth_then []) ≡ l.now_step ++ [] = joined_outs unread_test (joins_then l l.now_step (l.broken_step ∷ l.before_step) []) (evens l.bits) ∙ joined_joins l l.now_step (l.broken_step ∷ l.before_step) [] in
      let none : NoLower (forth_then []) = lower_outs unread_test (joins_then l l.now_step (l.broken_step ∷ l.before_step) []) (evens l.bits) (lower_joins l l.now_step (l.broken_step ∷ l.before_step) [] tt) in
      let is = below_after (2 * l.bits) (forth_then []) p none below (subst (AllBelow (2 * l.bits)) (sym (joined_is ∙ append_nil l.now_step)) ok.now_step) a c same in
      let same_p : after p (forth l) a ≡ after p (forth l) c = ap (λ acts. after p acts a) (sym (append_nil (forth l)) ∙ forth_are []) ∙ is ∙ ap (λ acts. after p acts c) (sym (forth_are []) ∙ append_nil (forth l)) in
      ap (λ x. x && l.broken_step a) same_p ∙ ap (λ x. after p (forth l) c && x) (ok.broken_step a c same)

  -- the look finds a step from the set to a broken state
  pub look_to : (p : Function) → DependsBelow (2 * l.bits) p → IsCurrent p → (a : ℕ → Bool) → after p (forth l) a && l.broken_step a ≡ true → (s : State) × (t : State) × (p (at s) ≡ true) × (all_of l.now_step (both s t) ≡ true) × (l.broken_step (both s t) ≡ true)
  look_to p below current a e =
      let parts = and_true (after p (forth l) a) (l.broken_step a) e in
      let is : after p (forth_then []) a ≡ true = ap (λ acts. after p acts a) (sym (forth_are []) ∙ append_nil (forth l)) ∙ parts.0 in
      let found = early_sound (l.broken_step ∷ []) (forth_then []) p a early_look is (true_and (l.broken_step a) true parts.1 refl) in
      let s : State = λ b. found.0 (2 * b) in
      let t : State = λ b. found.0 (2 * b + 1) in
      let pair : found.0 ≡ both s t = halves found.0 t (λ v odd. ap found.0 (omega arith)) in
      let joined_is : joined (forth_then []) ≡ l.now_step ++ [] = joined_outs unread_test (joins_then l l.now_step (l.broken_step ∷ l.before_step) []) (evens l.bits) ∙ joined_joins l l.now_step (l.broken_step ∷ l.before_step) [] in (
        s,
        t,
        sym (current_pair (2 * l.bits) p below current s t) ∙ ap p (sym pair) ∙ found.2,
        ap (all_of l.now_step) (sym pair) ∙ (append_all l.now_step [] found.0 (ap (λ gs. all_of gs found.0) (sym joined_is) ∙ found.3)).0,
        ap l.broken_step (sym pair) ∙ (and_true (l.broken_step found.0) true found.4).0,
      )

  pub look_from : (p : Function) → DependsBelow (2 * l.bits) p → IsCurrent p → (s t : State) → p (at s) ≡ true → all_of l.now_step (both s t) ≡ true → l.broken_step (both s t) ≡ true → after p (forth l) (both s t) && l.broken_step (both s t) ≡ true
  look_from p below current s t e now broken =
      let joined_is : joined (forth_then []) ≡ l.now_step ++ [] = joined_outs unread_test (joins_then l l.now_step (l.broken_step ∷ l.before_step) []) (evens l.bits) ∙ joined_joins l l.now_step (l.broken_step ∷ l.before_step) [] in
      let none : NoLower (forth_then []) = lower_outs unread_test (joins_then l l.now_step (l.broken_step ∷ l.before_step) []) (evens l.bits) (lower_joins l l.now_step (l.broken_step ∷ l.before_step) [] tt) in
      let is : after p (forth_then []) (both s t) ≡ true = early_complete (forth_then []) p (both s t) none (current_pair (2 * l.bits) p below current s t ∙ e) (ap (λ gs. all_of gs (both s t)) joined_is ∙ all_append l.now_step [] (both s t) now refl) in
      true_and (after p (forth l) (both s t)) (l.broken_step (both s t)) (ap (λ acts. after p acts (both s t)) (sym (append_nil (forth l)) ∙ forth_are []) ∙ is) broken

  -- before variables become current ones, no current variable is left
  pub turn_free : (p : Function) → DependsBelow (2 * l.bits) p → FreeOf 0 (after (after p (forth l)) (outs l l.broken_step l.before_step ++ joins l l.before_step []))
  turn_free p below = subst (FreeOf 0) whole_is (by_bits (cases_lt 0 l.bits))
    where
      whole_is : after p whole ≡ after (after p (forth l)) (outs l l.broken_step l.before_step ++ joins l l.before_step [])
      whole_is =
          ap (after p) (sym (forth_are back_acts))
          ∙ after_append p (forth l) back_acts
          ∙ ap (λ acts. after (after p (forth l)) (outs l l.broken_step l.before_step ++ acts)) (sym (joins_are l l.before_step [] []) ∙ append_nil (joins l l.before_step []))

      by_bits : (0 < l.bits) ⊎ (l.bits ≤ 0) → FreeOf 0 (after p whole)
      by_bits some = elim some [
        | inl lt ↦ whole_free p 0 lt
        | inr none ↦ λ a. whole_below p below (with_at a 0 false) (with_at a 0 true) (λ v lt. absurd (omega arith))
      ]
