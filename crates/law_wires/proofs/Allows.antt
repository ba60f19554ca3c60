-- Why a definition allows some value, whatever the states are.
use Rattle.std.proofs.Common.{◌≡◌, ℕ, ◌+◌, ◌-◌, List, [], ◌∷◌, ◌++◌, map, Bool, true, false, not, ◌&&◌, refl, ap, inl, inr, Option, Some, None, if◌then◌else◌}
use Rattle.std.proofs.lemmas.Bool.{cases_Bool}
use Rattle.std.specs.Prelude.{is_none}
use Rattle.std.specs.List.{list_any, list_all, zip}
use Rattle.law_lists.proofs.Booleans.{clash, and_both, either_left, either_right}
use Rattle.smv_core.specs.Values.{Truth, number, numbers_from}
use Rattle.smv_core.specs.Outcome.{branch, is_true}
use Rattle.smv_core.specs.declared.flat.Def.{Def}
use Rattle.smv_core.specs.declared.flat.DefBody.{DefBody, Nothing, Assign, If', First', Forall', Row_of-DefBody, end_of-DefBody, more_of-DefBody}
use Rattle.smv_core.specs.declared.flat.FlatMember.{One, Span as SpanOf}
use Rattle.smv_core.specs.declared.flat.FlatExpr.{FlatExpr, Choose', List', Each', Held-FlatExpr-Each-2, None', Some', end_of-FlatExpr, more_of-FlatExpr, Row_of-FlatMember, end_of-FlatMember, more_of-FlatMember}
use Rattle.law_obligations.specs.Sets.{Has, first, one_of_each, pairs}
use Rattle.law_obligations.specs.Places.{Place, named, same_place, is_among, World, named_in, rests_in, places_in, AbsOutcome, bind_place}
use Rattle.law_obligations.specs.May.{AbsState, Kept, seen, may, may_members}
use Rattle.law_obligations.specs.Right.{gives, may_give_some, may_meet, must_meet, may_allow}
use Rattle.law_obligations.specs.Results.{first_result, taken, is_elsewhere, assigned, results, results_each}
use Rattle.law_obligations.specs.Demands.{concerns_place, or_else, may_give, may_keep, may_step, may_be}
use Rattle.law_obligations.proofs.Same.{same_place-itself, is_among-Has, Has-is_among}
use Rattle.law_obligations.proofs.Members.{Has-left, Has-map, Has-flat_map, Has-pairs, Picks, Has-choices, any-found, any-some, all-each, all-holds}
use Rattle.law_obligations.proofs.Members.Picks.{none as no_pick, more as one_more}
use Rattle.law_obligations.proofs.Filled.{Filled, has_choice, filled_each, may_filled}
use Rattle.law_reads.specs.Reading.{HaveValues}

module _ (w : World) (have : HaveValues w) (kept : Kept) (every : List Place) (some : Filled every) where
  -- a right side, or what Nothing stands for, allows some value of the type
  abbrev pub Allows : (Place → Bool) → Type 0
  Allows f = (v : Place) × Has every v × (f v ≡ true)

  any_given : Allows (λ p. is_among every p)
  any_given = (some.0, some.1, is_among-Has some.1)

  gives_some : (u : AbsOutcome) → Allows (gives every u)
  gives_some None = any_given
  gives_some (Some q) = at (is_among every q) refl
    where
      at : (t : Bool) → is_among every q ≡ t → Allows (λ p. if t then same_place q p else is_among every p)
      at true e = (q, Has-is_among every q e, same_place-itself q)
      at false e = any_given

  by_one : (us : List AbsOutcome) → Filled us → (allow : AbsOutcome → Place → Bool) → ((u : AbsOutcome) → Allows (allow u)) → Allows (λ p. list_any (λ u. allow u p) us)
  by_one us h allow each = let r = each h.0 in (r.0, r.1, any-found (λ u. allow u r.0) h.1 r.2)

  by_numbers : (ks : List ℕ) (uss : List (List AbsOutcome)) → Allows (may_give_some every uss) → Allows (may_give_some every (map (λ k. Some (named (number k)) ∷ []) ks ++ uss))
  by_numbers [] uss h = h
  by_numbers (k ∷ ks) uss h =
      let r = gives_some (Some (named (number k))) in
      (r.0, r.1, either_left (list_any (λ us. list_any (λ u. gives every u r.0) us) (map (λ k. Some (named (number k)) ∷ []) ks ++ uss)) (either_left false r.2))

  chosen : (t : Truth) (left right : Place → Bool) → Allows left → Allows right → Allows (λ p. branch (is_among every p) t (left p) (right p))
  chosen None left right l r = any_given
  chosen (Some true) left right l r = l
  chosen (Some false) left right l r = r

  module _ (a : AbsState) where
    filled : (e : FlatExpr) (b : List Place) → Filled (may w kept a e b)
    filled e b = may_filled w kept a have e b

    members_allow : {m : _} (row : Row_of-FlatMember m) (b : List Place) → Allows (may_give_some every (may_members w kept a row b))
    members_allow end_of-FlatMember b = any_given
    members_allow (more_of-FlatMember (One e) others) b =
        let r = by_one (may w kept a e b) (filled e b) (gives every) gives_some in
        (r.0, r.1, either_left (list_any (λ us. list_any (λ u. gives every u r.0) us) (may_members w kept a others b)) r.2)
    members_allow (more_of-FlatMember (SpanOf span at) others) b = by_numbers (numbers_from span.low (span.high + 1 - span.low)) (may_members w kept a others b) (members_allow others b)

    -- a condition that is met for certain may be met
    must_may : (cond : Held-FlatExpr-Each-2) (b : List Place) → must_meet w kept a cond b ≡ true → may_meet w kept a cond b ≡ true
    must_may None' b e = refl
    must_may (Some' shape (more_of-FlatExpr cond end_of-FlatExpr)) b e = let h = filled cond b in any-found (λ u. is_true (seen u)) h.1 (all-each (λ u. is_true (seen u)) e h.1)

    not_must : (cond : Held-FlatExpr-Each-2) (b : List Place) → may_meet w kept a cond b ≡ false → not (must_meet w kept a cond b) ≡ true
    not_must cond b e = elim (cases_Bool (must_meet w kept a cond b)) [ inl t ↦ absurd (clash (must_may cond b t) e) | inr t ↦ ap not t ]

    may_allow_some : (e : FlatExpr) (b : List Place) → Allows (may_allow w kept a every e b)
    may_allow_some (List' shape list at) b = members_allow list b
    may_allow_some (Each' var over cond at) b = elim (cases_Bool (list_any (λ q. may_meet w kept a cond (bind_place b var q)) (places_in w over))) [
      | inl t ↦
          let q = any-some (λ q. may_meet w kept a cond (bind_place b var q)) (places_in w over) t in
          let r = gives_some (Some q.0) in (
            r.0,
            r.1,
            either_left (list_all (λ q. not (must_meet w kept a cond (bind_place b var q))) (named_in w over) && is_among every r.0)
                (any-found (λ q. may_meet w kept a cond (bind_place b var q) && gives every (Some q) r.0) q.1 (and_both q.2 r.2)),
          )
      | inr t ↦ (
        any_given.0,
        any_given.1,
        either_right (list_any (λ q. may_meet w kept a cond (bind_place b var q) && gives every (Some q) any_given.0) (places_in w over))
            (and_both (all-holds (λ q. not (must_meet w kept a cond (bind_place b var q))) (named_in w over) (λ q k. not_must cond (bind_place b var q) (none_is q (Has-left (rests_in w over) k) t))) any_given.2),
      )
    ]
      where
        none_is : (q : Place) → Has (places_in w over) q → list_any (λ q. may_meet w kept a cond (bind_place b var q)) (places_in w over) ≡ false → may_meet w kept a cond (bind_place b var q) ≡ false
        none_is q k t = elim (cases_Bool (may_meet w kept a cond (bind_place b var q))) [
          | inl s ↦ absurd (clash (any-found (λ q. may_meet w kept a cond (bind_place b var q)) k s) t)
          | inr s ↦ s
        ]
    may_allow_some (Choose' c (more_of-FlatExpr cond end_of-FlatExpr) l (more_of-FlatExpr left end_of-FlatExpr) r (more_of-FlatExpr right end_of-FlatExpr)) b =
        let l = may_allow_some left b in let r = may_allow_some right b in
        by_one (may w kept a cond b) (filled cond b) (λ u p. branch (is_among every p) (seen u) (may_allow w kept a every left b p) (may_allow w kept a every right b p))
        (λ u. chosen (seen u) (may_allow w kept a every left b) (may_allow w kept a every right b) l r)
    may_allow_some e b = by_one (may w kept a e b) (filled e b) (gives every) gives_some

    -- ---- results

    abbrev GivesSome : Option (Place → Bool) → Type 0
    GivesSome None = Unit {0}
    GivesSome (Some f) = Allows f

    module _ (indexes : List Place) where
      abbrev given : DefBody → List Place → List (Option (Place → Bool))
      given part b = results w kept a indexes (λ p. is_among every p) (may_allow w kept a every) part b

      abbrev pub HasResult : List (Option (Place → Bool)) → Type 0
      HasResult rs = (r : Option (Place → Bool)) × Has rs r × GivesSome r

      -- one result of each of some lists, and the first of them
      abbrev HasResults : List (List (Option (Place → Bool))) → Type 0
      HasResults rss = (rs : List (Option (Place → Bool))) × Picks rss rs × GivesSome (first_result rs)

      assigned_gives : (elsewhere unknown : Bool) (f : Place → Bool) → Allows f → GivesSome (if elsewhere then None else if unknown then Some (λ p. is_among every p) else Some f)
      assigned_gives true unknown f h = tt
      assigned_gives false true f h = any_given
      assigned_gives false false f h = h

      taken_gives : (t : Truth) (x y : Option (Place → Bool)) → GivesSome x → GivesSome y → GivesSome (taken (λ p. is_among every p) t x y)
      taken_gives None None None h k = tt
      taken_gives None None (Some g) h k = any_given
      taken_gives None (Some f) y h k = any_given
      taken_gives (Some true) x y h k = h
      taken_gives (Some false) x y h k = k

      first_gives : (x : Option (Place → Bool)) (rs : List (Option (Place → Bool))) → GivesSome x → GivesSome (first_result rs) → GivesSome (first_result (x ∷ rs))
      first_gives None rs h k = k
      first_gives (Some f) rs h k = h

      first_of_all : (rss : List (List (Option (Place → Bool)))) → HasResults rss → HasResult (map first_result (one_of_each rss))
      first_of_all rss h = (first_result h.0, Has-map first_result (Has-choices h.1), h.2)

      at_each : (F : Place → List (Option (Place → Bool))) (ps : List Place) → ((p : Place) → HasResult (F p)) → HasResults (map F ps)
      at_each F [] h = ([], no_pick, tt)
      at_each F (p ∷ ps) h = let r = h p in let rs = at_each F ps h in (r.0 ∷ rs.0, one_more r.1 rs.1, first_gives r.0 rs.0 r.2 rs.2)

      mutual
        some_result : (part : DefBody) (b : List Place) → HasResult (given part b)
        some_result Nothing b = (None, first, tt)
        some_result (Assign left value place at) b =
            let us = has_choice (map (λ e. may w kept a e b) left) (filled_each (λ e. may w kept a e b) left (λ e. filled e b)) in (
              _,
              Has-map (λ us. assigned w kept a indexes (λ p. is_among every p) (may_allow w kept a every) us value b) (Has-choices us.1),
              assigned_gives (list_any (λ (u, q). is_elsewhere u q) (zip us.0 indexes)) (list_any is_none us.0) (may_allow w kept a every value b) (may_allow_some value b),
            )
        some_result (If' cond l (more_of-DefBody left end_of-DefBody) r (more_of-DefBody other end_of-DefBody)) b =
            let u = filled cond b in let x = some_result left b in let y = some_result other b in (
              taken (λ p. is_among every p) (seen u.0) x.0 y.0,
              Has-flat_map (λ u. pairs (λ x y. taken (λ p. is_among every p) (seen u) x y ∷ []) (given left b) (given other b)) u.1 (Has-pairs (λ x y. taken (λ p. is_among every p) (seen u.0) x y ∷ []) x.1 y.1 first),
              taken_gives (seen u.0) x.0 y.0 x.2 y.2,
            )
        some_result (First' shape parts) b = first_of_all (results_each w kept a indexes (λ p. is_among every p) (may_allow w kept a every) parts b) (some_results parts b)
        some_result (Forall' var over shape (more_of-DefBody body end_of-DefBody)) b =
            first_of_all (map (λ p. given body (bind_place b var p)) (places_in w over)) (at_each (λ p. given body (bind_place b var p)) (places_in w over) (λ p. some_result body (bind_place b var p)))

        some_results : {m : _} (row : Row_of-DefBody m) (b : List Place) → HasResults (results_each w kept a indexes (λ p. is_among every p) (may_allow w kept a every) row b)
        some_results end_of-DefBody b = ([], no_pick, tt)
        some_results (more_of-DefBody part others) b = let r = some_result part b in let rs = some_results others b in (r.0 ∷ rs.0, one_more r.1 rs.1, first_gives r.0 rs.0 r.2 rs.2)

      give_some : (def : Def) (part : DefBody) (nothing : Place → Bool) → Allows nothing → Allows (may_give w kept def indexes every part a nothing)
      give_some def part nothing h = let r = some_result part [] in at r.0 r.1 r.2
        where
          at : (r : Option (Place → Bool)) → Has (given part []) r → GivesSome r → Allows (may_give w kept def indexes every part a nothing)
          at None k g = (h.0, h.1, any-found (λ r. or_else r nothing h.0) k h.2)
          at (Some f) k g = (g.0, g.1, any-found (λ r. or_else r nothing g.0) k g.2)

  -- ---- what a definition allows behind a state

  pub may_be_some : (def : Def) (indexes : List Place) (old : Option AbsState) (a : AbsState) → ((before : AbsState) → old ≡ Some before → Has every (before def.family indexes)) → Allows (may_be w kept def indexes every old a)
  may_be_some def indexes old a own = by (concerns_place def.comb indexes) old own
    where
      by : (t : Bool) (old : Option AbsState) → ((before : AbsState) → old ≡ Some before → Has every (before def.family indexes)) →
          Allows (λ p. if t then may_give w kept def indexes every def.comb a (λ p. is_among every p) p else may_step w kept def indexes every old a p)
      by true old own = give_some a indexes def def.comb (λ p. is_among every p) any_given
      by false None own = give_some a indexes def def.init (λ p. is_among every p) any_given
      by false (Some before) own = give_some before indexes def def.next (may_keep w kept def indexes every before) (keep (concerns_place def.next indexes))
        where
          keep : (t : Bool) → Allows (λ p. if t then same_place (before def.family indexes) p else is_among every p)
          keep true = (before def.family indexes, own before refl, same_place-itself (before def.family indexes))
          keep false = any_given
