-- What a right side may allow, and what it allows for certain, is the same in states that tell the same of what it reads.
use Rattle.std.proofs.Common.{◌≡◌, List, ◌++◌, map, not, ◌&&◌, ◌||◌, refl, ap, ◌∙◌, Some}
use Rattle.std.specs.List.{list_any, list_all}
use Rattle.law_lists.proofs.Booleans.{or_alike}
use Rattle.smv_core.specs.Outcome.{branch, is_true}
use Rattle.smv_core.specs.declared.flat.FlatMember.{One, Span as SpanOf}
use Rattle.smv_core.specs.declared.flat.FlatExpr.{FlatExpr, Choose', List', Each', Held-FlatExpr-Each-2, None', Some', end_of-FlatExpr, more_of-FlatExpr, Row_of-FlatMember, end_of-FlatMember, more_of-FlatMember}
use Rattle.law_obligations.specs.Sets.{Has}
use Rattle.law_obligations.specs.Places.{Place, World, same_place, is_among, named_in, rests_in, places_in, bind_place}
use Rattle.law_obligations.specs.May.{AbsState, Kept, seen, may, may_members}
use Rattle.law_obligations.specs.Right.{gives, is_outside, gives_surely, gives_only, may_give_some, chosen_surely, may_meet, must_meet, may_allow, must_allow, must_give_some}
use Rattle.law_obligations.specs.Reads.{reads_held}
use Rattle.law_obligations.specs.Cones.{AbsElement}
use Rattle.law_obligations.proofs.Members.{Has-left}
use Rattle.law_obligations.specs.Pictures.{KeepsNamed}
use Rattle.law_reads.specs.Reading.{elements_given, TellSame, read_in}
use Rattle.law_reads.proofs.Lists.{any_in, all_in}
use Rattle.law_reads.proofs.Outcomes as outcome

module _ (w : World) (kept other : Kept) (a d : AbsState) (keeps : KeepsNamed w kept) (keeps_other : KeepsNamed w other) where
  abbrev Same : List AbsElement → Type 0
  Same xs = TellSame kept a other d xs

  abbrev same_left : (xs ys : List AbsElement) → Same (xs ++ ys) → Same xs
  same_left = outcome.same_left w kept other a d keeps keeps_other

  abbrev same_right : (xs ys : List AbsElement) → Same (xs ++ ys) → Same ys
  same_right = outcome.same_right w kept other a d keeps keeps_other

  abbrev may_same : (e : FlatExpr) (b : List Place) → Same (read_in w e b) → may w kept a e b ≡ may w other d e b
  may_same = outcome.may_same w kept other a d keeps keeps_other

  abbrev held : Held-FlatExpr-Each-2 → List Place → List AbsElement
  held cond b = reads_held (places_in w) (elements_given w) cond b

  abbrev members : {m : _} → Row_of-FlatMember m → List Place → List AbsElement
  members row b = outcome.members w kept other a d keeps keeps_other row b

  may_meet_same : (cond : Held-FlatExpr-Each-2) (b : List Place) → Same (held cond b) → may_meet w kept a cond b ≡ may_meet w other d cond b
  may_meet_same None' b h = refl
  may_meet_same (Some' shape (more_of-FlatExpr cond end_of-FlatExpr)) b h = ap (list_any (λ u. is_true (seen u))) (may_same cond b h)

  must_meet_same : (cond : Held-FlatExpr-Each-2) (b : List Place) → Same (held cond b) → must_meet w kept a cond b ≡ must_meet w other d cond b
  must_meet_same None' b h = refl
  must_meet_same (Some' shape (more_of-FlatExpr cond end_of-FlatExpr)) b h = ap (list_all (λ u. is_true (seen u))) (may_same cond b h)

  module _ (every : List Place) where
    pub may_allow_same : (e : FlatExpr) (b : List Place) (p : Place) → Same (read_in w e b) → may_allow w kept a every e b p ≡ may_allow w other d every e b p
    may_allow_same (List' shape list at) b p h = ap (λ uss. may_give_some every uss p) (outcome.members_same w kept other a d keeps keeps_other list b h)
    may_allow_same (Each' var over cond at) b p h =
        let each : (q : Place) → Has (places_in w over) q → Same (held cond (bind_place b var q)) = outcome.same_at w kept other a d keeps keeps_other (λ q. held cond (bind_place b var q)) (places_in w over) h in
        or_alike (list_any (λ q. may_meet w kept a cond (bind_place b var q) && gives every (Some q) p) (places_in w over))
        (list_all (λ q. not (must_meet w kept a cond (bind_place b var q))) (named_in w over) && is_among every p)
        (list_any (λ q. may_meet w other d cond (bind_place b var q) && gives every (Some q) p) (places_in w over))
        (list_all (λ q. not (must_meet w other d cond (bind_place b var q))) (named_in w over) && is_among every p)
        (any_in (λ q. may_meet w kept a cond (bind_place b var q) && gives every (Some q) p) (λ q. may_meet w other d cond (bind_place b var q) && gives every (Some q) p) (places_in w over)
        (λ q k. ap (λ t. t && gives every (Some q) p) (may_meet_same cond (bind_place b var q) (each q k))))
        (ap (λ t. t && is_among every p) (all_in (λ q. not (must_meet w kept a cond (bind_place b var q))) (λ q. not (must_meet w other d cond (bind_place b var q))) (named_in w over)
        (λ q k. ap not (must_meet_same cond (bind_place b var q) (each q (Has-left (rests_in w over) k))))))
    may_allow_same (Choose' c (more_of-FlatExpr cond end_of-FlatExpr) l (more_of-FlatExpr left end_of-FlatExpr) r (more_of-FlatExpr right end_of-FlatExpr)) b p h =
        let front = same_left (read_in w cond b ++ read_in w left b) (read_in w right b) h in
        ap (list_any (λ u. branch (is_among every p) (seen u) (may_allow w kept a every left b p) (may_allow w kept a every right b p))) (may_same cond b (same_left (read_in w cond b) (read_in w left b) front))
        ∙ outcome.both_same (λ x y. list_any (λ u. branch (is_among every p) (seen u) x y) (may w other d cond b)) (may_allow w kept a every left b p) (may_allow w other d every left b p) (may_allow w kept a every right b p) (may_allow w other d every right b p)
        (may_allow_same left b p (same_right (read_in w cond b) (read_in w left b) front)) (may_allow_same right b p (same_right (read_in w cond b ++ read_in w left b) (read_in w right b) h))
    may_allow_same e b p h = ap (list_any (λ u. gives every u p)) (may_same e b h)

    mutual
      pub must_allow_same : (e : FlatExpr) (b : List Place) (p : Place) → Same (read_in w e b) → must_allow w kept a every e b p ≡ must_allow w other d every e b p
      must_allow_same (List' shape list at) b p h = must_give_same list b p h
      must_allow_same (Each' var over cond at) b p h =
          let each : (q : Place) → Has (places_in w over) q → Same (held cond (bind_place b var q)) = outcome.same_at w kept other a d keeps keeps_other (λ q. held cond (bind_place b var q)) (places_in w over) h in
          let may_each : (q : Place) → Has (places_in w over) q → may_meet w kept a cond (bind_place b var q) ≡ may_meet w other d cond (bind_place b var q) = λ q k. may_meet_same cond (bind_place b var q) (each q k) in
          let must_each : (q : Place) → Has (places_in w over) q → must_meet w kept a cond (bind_place b var q) ≡ must_meet w other d cond (bind_place b var q) = λ q k. must_meet_same cond (bind_place b var q) (each q k) in
          outcome.both_same (λ x y. x || y)
          (list_all (λ q. not (may_meet w kept a cond (bind_place b var q))) (places_in w over) && is_among every p)
          (list_all (λ q. not (may_meet w other d cond (bind_place b var q))) (places_in w over) && is_among every p)
          ((list_any (λ q. must_meet w kept a cond (bind_place b var q) && not (is_among every q)) (named_in w over) && is_among every p) || list_any (λ q. must_meet w kept a cond (bind_place b var q) && same_place q p) (places_in w over))
          ((list_any (λ q. must_meet w other d cond (bind_place b var q) && not (is_among every q)) (named_in w over) && is_among every p) || list_any (λ q. must_meet w other d cond (bind_place b var q) && same_place q p) (places_in w over))
          (ap (λ t. t && is_among every p) (all_in (λ q. not (may_meet w kept a cond (bind_place b var q))) (λ q. not (may_meet w other d cond (bind_place b var q))) (places_in w over) (λ q k. ap not (may_each q k))))
          (outcome.both_same (λ x y. x || y)
          (list_any (λ q. must_meet w kept a cond (bind_place b var q) && not (is_among every q)) (named_in w over) && is_among every p)
          (list_any (λ q. must_meet w other d cond (bind_place b var q) && not (is_among every q)) (named_in w over) && is_among every p)
          (list_any (λ q. must_meet w kept a cond (bind_place b var q) && same_place q p) (places_in w over))
          (list_any (λ q. must_meet w other d cond (bind_place b var q) && same_place q p) (places_in w over))
          (ap (λ t. t && is_among every p) (any_in (λ q. must_meet w kept a cond (bind_place b var q) && not (is_among every q)) (λ q. must_meet w other d cond (bind_place b var q) && not (is_among every q)) (named_in w over)
          (λ q k. ap (λ t. t && not (is_among every q)) (must_each q (Has-left (rests_in w over) k)))))
          (any_in (λ q. must_meet w kept a cond (bind_place b var q) && same_place q p) (λ q. must_meet w other d cond (bind_place b var q) && same_place q p) (places_in w over) (λ q k. ap (λ t. t && same_place q p) (must_each q k))))
      must_allow_same (Choose' c (more_of-FlatExpr cond end_of-FlatExpr) l (more_of-FlatExpr left end_of-FlatExpr) r (more_of-FlatExpr right end_of-FlatExpr)) b p h =
          let front = same_left (read_in w cond b ++ read_in w left b) (read_in w right b) h in
          ap (λ us. chosen_surely (map seen us) (must_allow w kept a every left b p) (must_allow w kept a every right b p) (is_among every p)) (may_same cond b (same_left (read_in w cond b) (read_in w left b) front))
          ∙ outcome.both_same (λ x y. chosen_surely (map seen (may w other d cond b)) x y (is_among every p)) (must_allow w kept a every left b p) (must_allow w other d every left b p) (must_allow w kept a every right b p) (must_allow w other d every right b p)
          (must_allow_same left b p (same_right (read_in w cond b) (read_in w left b) front)) (must_allow_same right b p (same_right (read_in w cond b ++ read_in w left b) (read_in w right b) h))
      must_allow_same e b p h = ap (λ us. gives_only every us p) (may_same e b h)

      must_give_same : {m : _} (row : Row_of-FlatMember m) (b : List Place) (p : Place) → Same (members row b) → must_give_some w kept a every row b p ≡ must_give_some w other d every row b p
      must_give_same end_of-FlatMember b p h = refl
      must_give_same (more_of-FlatMember (One e) others) b p h =
          let own = same_left (read_in w e b) (members others b) h in
          outcome.both_same (λ x y. x || y) (list_all (is_outside every) (may w kept a e b) && is_among every p) (list_all (is_outside every) (may w other d e b) && is_among every p)
          (must_allow w kept a every e b p || must_give_some w kept a every others b p) (must_allow w other d every e b p || must_give_some w other d every others b p)
          (ap (λ us. list_all (is_outside every) us && is_among every p) (may_same e b own))
          (outcome.both_same (λ x y. x || y) (must_allow w kept a every e b p) (must_allow w other d every e b p) (must_give_some w kept a every others b p) (must_give_some w other d every others b p)
          (must_allow_same e b p own) (must_give_same others b p (same_right (read_in w e b) (members others b) h)))
      must_give_same (more_of-FlatMember (SpanOf span at) others) b p h =
          ap (λ t. list_any (λ us. list_any (λ u. gives_surely every u p) us) (may_members w kept a (more_of-FlatMember (SpanOf span at) end_of-FlatMember) b) || t) (must_give_same others b p h)
