-- What right sides allow, on expressions that are made of lists and values, and by the outcomes that are possible.
use Rattle.std.proofs.Common.{◌≡◌, inl, inr, ℕ, ◌-◌, List, [], ◌∷◌, map, Bool, true, false, not, ◌&&◌, ◌||◌, Option, Some, None, refl, sym, ap, ◌∙◌, if◌then◌else◌}
use Rattle.std.specs.List.{flat_map, list_any, list_all}
use Rattle.smv_core.specs.Values.{Truth}
use Rattle.smv_core.specs.Outcome.{branch, is_true}
use Rattle.smv_core.specs.declared.flat.Simple.{Simple}
use Rattle.smv_core.specs.declared.flat.FlatMember.{FlatMember, One, Span}
use Rattle.smv_core.specs.declared.flat.FlatExpr.{FlatExpr, Choose, Choose', Each, List as Listed, List', Each', Row_of-FlatMember, end_of-FlatMember, more_of-FlatMember, items-the_row-FlatMember, items_hidden-the_row-FlatMember-3}
use Rattle.law_obligations.specs.Sets.{Has, first, later}
use Rattle.law_obligations.specs.Places.{Place, same_place, is_among, World, named_in, places_in, AbsOutcome, bind_place}
use Rattle.law_obligations.specs.May.{AbsState, Kept, seen, may}
use Rattle.law_obligations.specs.Right.{gives, gives_surely, is_outside, same_outcome, gives_only, may_give_some, is_false, is_neither, chosen_surely, may_allow, must_allow, must_give_some}
use Rattle.law_obligations.proofs.Computing.{computing}
use Rattle.law_obligations.proofs.Same.{same_outcome-itself, same_outcome-is}
use Rattle.law_obligations.proofs.Members.{any-found, any-some, all-each, all-holds, Has-uncons}
use Rattle.law_obligations.specs.Mix.{mix_by}
use Rattle.law_obligations.proofs.MixLaws.{mix-map, or_same}
use Rattle.std.proofs.lemmas.List.{append-nil}
use Rattle.std.proofs.lemmas.Bool.{not_from_false, not-true, cases_Bool}
use Rattle.law_lists.proofs.Booleans.{impossible, and_both, left_of, right_of, same_tests}
use Rattle.law_obligations.specs.RightSides.{surely_by, some_differ, is_plain, may_hold, must_hold}
use Rattle.law_obligations.specs.Combined.{of_member}
use Rattle.law_obligations.proofs.MayLaws.{may-members}
use mathlib.Core.Former.{Count}

-- two outcomes that are one do not differ
no_longer : (u v : AbsOutcome) → u ≡ v → not (same_outcome u v) ≡ false
no_longer u v e = ap (λ w. not (same_outcome u w)) (sym e) ∙ ap not (same_outcome-itself u)

-- the only outcome: some outcome does it, and no two differ
pub only-some : (every : List Place) (us : List AbsOutcome) (p : Place) → gives_only every us p ≡ (list_any (λ u. gives_surely every u p) us && not (some_differ us))
only-some every [] p = refl
only-some every (u ∷ us) p = same_tests (list_all (same_outcome u) us && gives_surely every u p) (list_any (λ v. gives_surely every v p) (u ∷ us) && not (some_differ (u ∷ us))) there back
  where
    alike : list_all (same_outcome u) us ≡ true → (v : AbsOutcome) → Has (u ∷ us) v → v ≡ u
    alike h v has = elim (Has-uncons has) [ inl e ↦ e | inr k ↦ sym (same_outcome-is u v (all-each (same_outcome u) h k)) ]

    none_differ : list_all (same_outcome u) us ≡ true → some_differ (u ∷ us) ≡ false
    none_differ h = elim (cases_Bool (some_differ (u ∷ us))) [
      | inl e ↦
          let x = any-some (λ x. list_any (λ y. not (same_outcome x y)) (u ∷ us)) (u ∷ us) e in
          let y = any-some (λ y. not (same_outcome x.0 y)) (u ∷ us) x.2 in
          impossible (not (same_outcome x.0 y.0)) y.2 (no_longer x.0 y.0 (alike h x.0 x.1 ∙ sym (alike h y.0 y.1)))
      | inr e ↦ e
    ]

    there : (list_all (same_outcome u) us && gives_surely every u p) ≡ true → (list_any (λ v. gives_surely every v p) (u ∷ us) && not (some_differ (u ∷ us))) ≡ true
    there h =
        let alike_all = left_of (list_all (same_outcome u) us) (gives_surely every u p) h in
        and_both (any-found (λ v. gives_surely every v p) first (right_of (list_all (same_outcome u) us) (gives_surely every u p) h)) (not_from_false (some_differ (u ∷ us)) (none_differ alike_all))

    -- where no two differ, each is the first
    as_first : not (some_differ (u ∷ us)) ≡ true → (v : AbsOutcome) → Has (u ∷ us) v → same_outcome u v ≡ true
    as_first h v has = elim (cases_Bool (same_outcome u v)) [
      | inl e ↦ e
      | inr e ↦ impossible (some_differ (u ∷ us)) (any-found (λ x. list_any (λ y. not (same_outcome x y)) (u ∷ us)) first (any-found (λ y. not (same_outcome u y)) has (not_from_false (same_outcome u v) e))) (not-true (some_differ (u ∷ us)) h)
    ]

    back : (list_any (λ v. gives_surely every v p) (u ∷ us) && not (some_differ (u ∷ us))) ≡ true → (list_all (same_outcome u) us && gives_surely every u p) ≡ true
    back h =
        let one = right_of (list_any (λ v. gives_surely every v p) (u ∷ us)) (not (some_differ (u ∷ us))) h in
        let w = any-some (λ v. gives_surely every v p) (u ∷ us) (left_of _ (not (some_differ (u ∷ us))) h) in
        and_both (all-holds (same_outcome u) us (λ v has. as_first one v (later has))) (ap (λ v. gives_surely every v p) (same_outcome-is u w.0 (as_first one w.0 w.1)) ∙ w.2)

-- a conditional for certain, by the truth values of its condition
surely-mix : (ts : List Truth) (x y : Bool) → chosen_surely ts x y true ≡ surely_by (record { no = list_any is_false ts; yes = list_any is_true ts; neither = list_any is_neither ts }) x y
surely-mix ts x y = by (list_all is_true ts) (list_all is_false ts) (list_all is_neither ts) (list_any is_false ts || list_any is_neither ts) (list_any is_true ts || list_any is_neither ts) (list_any is_false ts || list_any is_true ts) (all-true ts) (all-false ts) (all-neither ts)
  where
    all-true : (ts : List Truth) → list_all is_true ts ≡ not (list_any is_false ts || list_any is_neither ts)
    all-true [] = refl
    all-true (Some true ∷ ts) = all-true ts
    all-true (Some false ∷ ts) = refl
    all-true (None ∷ ts) = at (list_any is_false ts)
      where
        at : (b : Bool) → false ≡ not (b || true)
        at true = refl
        at false = refl

    all-false : (ts : List Truth) → list_all is_false ts ≡ not (list_any is_true ts || list_any is_neither ts)
    all-false [] = refl
    all-false (Some false ∷ ts) = all-false ts
    all-false (Some true ∷ ts) = refl
    all-false (None ∷ ts) = at (list_any is_true ts)
      where
        at : (b : Bool) → false ≡ not (b || true)
        at true = refl
        at false = refl

    all-neither : (ts : List Truth) → list_all is_neither ts ≡ not (list_any is_false ts || list_any is_true ts)
    all-neither [] = refl
    all-neither (None ∷ ts) = all-neither ts
    all-neither (Some false ∷ ts) = refl
    all-neither (Some true ∷ ts) = at (list_any is_false ts)
      where
        at : (b : Bool) → false ≡ not (b || true)
        at true = refl
        at false = refl

    by : (a b c d e f : Bool) → a ≡ not d → b ≡ not e → c ≡ not f → (if a then x else if b then y else if c then true else x && y) ≡ (if d then (if e then (if f then x && y else true) else y) else x)
    by a b c d e f h k l = ap (λ a. if a then x else if b then y else if c then true else x && y) h ∙ (ap (λ b. if not d then x else if b then y else if c then true else x && y) k ∙ (ap (λ c. if not d then x else if not e then y else if c then true else x && y) l ∙ at d e f))
      where
        at : (d e f : Bool) → (if not d then x else if not e then y else if not f then true else x && y) ≡ (if d then (if e then (if f then x && y else true) else y) else x)
        at false e f = refl
        at true false f = refl
        at true true false = refl
        at true true true = refl

pub chosen-mix : (us : List AbsOutcome) (x y : Bool) → chosen_surely (map seen us) x y true ≡ surely_by (mix_by seen us) x y
chosen-mix us x y = surely-mix (map seen us) x y ∙ ap (λ m. surely_by m x y) (mix-map seen us)

module _ (w : World) (kept : Kept) (a : AbsState) (every : List Place) where
  pub may_plain : (e : FlatExpr) (b : List Place) (p : Place) → is_plain e ≡ true → may_allow w kept a every e b p ≡ list_any (λ u. gives every u p) (may w kept a e b)
  may_plain (List' shape members at) b p h = absurd (cc)
  may_plain (Each' var over cond at) b p h = absurd (cc)
  may_plain (Choose' c cond l left r right) b p h = absurd (cc)
  may_plain _ b p h = refl

  pub must_plain : (e : FlatExpr) (b : List Place) (p : Place) → is_plain e ≡ true → must_allow w kept a every e b p ≡ gives_only every (may w kept a e b) p
  must_plain (List' shape members at) b p h = absurd (cc)
  must_plain (Each' var over cond at) b p h = absurd (cc)
  must_plain (Choose' c cond l left r right) b p h = absurd (cc)
  must_plain _ b p h = refl

  pub may_Choose : (c x y : FlatExpr) (b : List Place) (p : Place) → may_allow w kept a every (Choose c x y) b p ≡ list_any (λ u. branch (is_among every p) (seen u) (may_allow w kept a every x b p) (may_allow w kept a every y b p)) (may w kept a c b)
  unfolding computing
  may_Choose c x y b p = refl

  pub must_Choose : (c x y : FlatExpr) (b : List Place) (p : Place) → must_allow w kept a every (Choose c x y) b p ≡ chosen_surely (map seen (may w kept a c b)) (must_allow w kept a every x b p) (must_allow w kept a every y b p) (is_among every p)
  unfolding computing
  must_Choose c x y b p = refl

  pub may_Listed : (members : List FlatMember) (at : ℕ) (b : List Place) (p : Place) → may_allow w kept a every (Listed members at) b p ≡ may_give_some every (flat_map (of_member w kept a b) members) p
  may_Listed members at b p = ap (λ l. may_give_some every l p) (may-members w kept a members at b)

  abbrev row_of : FlatExpr → (m : Count) × Row_of-FlatMember m
  row_of (List' shape row at) = (_, row)
  row_of _ = (_, end_of-FlatMember)

  -- a member for certain
  abbrev pub surely_of_member : List Place → Place → FlatMember → Bool
  surely_of_member b p (One e) = (list_all (is_outside every) (may w kept a e b) && is_among every p) || must_allow w kept a every e b p
  surely_of_member b p (Span span at) = list_any (λ us. list_any (λ u. gives_surely every u p) us) (of_member w kept a b (Span span at))

  grouped : (x y z : Bool) → (x || (y || z)) ≡ ((x || y) || z)
  grouped true y z = refl
  grouped false y z = refl

  surely-row : (m : _) (row : Row_of-FlatMember m) (b : List Place) (p : Place) → must_give_some w kept a every row b p ≡ list_any (surely_of_member b p) (items-the_row-FlatMember m row)
  unfolding computing
  surely-row m end_of-FlatMember b p = refl
  surely-row m (more_of-FlatMember (One e) rest) b p = grouped (list_all (is_outside every) (may w kept a e b) && is_among every p) (must_allow w kept a every e b p) (must_give_some w kept a every rest b p) ∙ ap (λ x. surely_of_member b p (One e) || x) (surely-row _ rest b p)
  surely-row m (more_of-FlatMember (Span span at) rest) b p = or_same (ap (list_any (λ us. list_any (λ u. gives_surely every u p) us)) (append-nil (of_member w kept a b (Span span at)))) (surely-row _ rest b p)

  pub must_Listed : (members : List FlatMember) (at : ℕ) (b : List Place) (p : Place) → must_allow w kept a every (Listed members at) b p ≡ list_any (surely_of_member b p) members
  must_Listed members at b p = surely-row (row_of (Listed members at)).0 (row_of (Listed members at)).1 b p ∙ ap (list_any (surely_of_member b p)) (items_hidden-the_row-FlatMember-3 members)

  -- a comprehension
  pub may_Each : (var : ℕ) (over : Simple) (cond : Option FlatExpr) (at : ℕ) (b : List Place) (p : Place) → may_allow w kept a every (Each var over cond at) b p ≡
      (list_any (λ q. may_hold w kept a cond (bind_place b var q) && gives every (Some q) p) (places_in w over) || (list_all (λ q. not (must_hold w kept a cond (bind_place b var q))) (named_in w over) && is_among every p))
  unfolding computing
  may_Each var over None at b p = refl
  may_Each var over (Some e) at b p = refl

  pub must_Each : (var : ℕ) (over : Simple) (cond : Option FlatExpr) (at : ℕ) (b : List Place) (p : Place) → must_allow w kept a every (Each var over cond at) b p ≡
      ((list_all (λ q. not (may_hold w kept a cond (bind_place b var q))) (places_in w over) && is_among every p)
      || ((list_any (λ q. must_hold w kept a cond (bind_place b var q) && not (is_among every q)) (named_in w over) && is_among every p)
      || list_any (λ q. must_hold w kept a cond (bind_place b var q) && same_place q p) (places_in w over)))
  unfolding computing
  must_Each var over None at b p = refl
  must_Each var over (Some e) at b p = refl
