-- What a right side may allow a target, and what it allows for certain.
use Rattle.std.specs.Prelude.{List, [], ◌∷◌, map, Some, None, Bool, true, false, not, ◌&&◌, ◌||◌, if◌then◌else◌}
use Rattle.std.specs.List.{list_any, list_all}
use Rattle.smv_core.specs.Values.{Truth}
use Rattle.smv_core.specs.Outcome.{branch, is_true}
use Rattle.smv_core.specs.declared.flat.FlatMember.{One, Span as SpanOf}
use Rattle.smv_core.specs.declared.flat.FlatExpr.{FlatExpr, Choose', List', Each', None', Some', Row_of-FlatMember, end_of-FlatMember, more_of-FlatMember}
use Rattle.law_obligations.specs.Places.{Place, same_place, is_named, is_among, World, named_in, places_in, AbsOutcome, bind_place}
use Rattle.law_obligations.specs.May.{AbsState, Kept, seen, may, may_members}
use Rattle.smv_core.specs.Rows.{one_flat_expr, FlatCondition}

-- an outcome gives its own place, and every place of the type where it is Undefined or outside the type
abbrev pub gives : List Place → AbsOutcome → Place → Bool
gives every None p = is_among every p
gives every (Some q) p = if is_among every q then same_place q p else is_among every p

-- outside the type, or Undefined
abbrev pub is_outside : List Place → AbsOutcome → Bool
is_outside every None = true
is_outside every (Some q) = not (is_among every q)

-- an only outcome gives its value for certain where that is no rest
abbrev pub gives_surely : List Place → AbsOutcome → Place → Bool
gives_surely every None p = is_among every p
gives_surely every (Some q) p = if is_among every q then same_place q p && is_named q else is_among every p

-- the same outcome
abbrev pub same_outcome : AbsOutcome → AbsOutcome → Bool
same_outcome None None = true
same_outcome (Some p) (Some q) = same_place p q
same_outcome _ _ = false

-- what is certain of an expression that is no set and no conditional: nothing where it has several outcomes
abbrev pub gives_only : List Place → List AbsOutcome → Place → Bool
gives_only every [] p = false
gives_only every (u ∷ us) p = list_all (same_outcome u) us && gives_surely every u p

-- a listed set without members, which no text has, may give everything
abbrev pub may_give_some : List Place → List (List AbsOutcome) → Place → Bool
may_give_some every [] p = is_among every p
may_give_some every uss p = list_any (λ us. list_any (λ u. gives every u p) us) uss

-- the condition is 0
abbrev pub is_false : Truth → Bool
is_false (Some false) = true
is_false _ = false

-- it is neither 0 nor 1
abbrev pub is_neither : Truth → Bool
is_neither None = true
is_neither _ = false

-- under a condition: the branch where it is certain, everything where it can only be neither 0 nor 1, and else what both branches share
abbrev pub chosen_surely : List Truth → Bool → Bool → Bool → Bool
chosen_surely conds left right every =
    if list_all is_true conds then left
    else if list_all is_false conds then right
    else if list_all is_neither conds then every
    else left && right

module _ (w : World) (kept : Kept) (a : AbsState) where
  -- the condition of a comprehension may be 1; a missing one is 1
  abbrev pub may_meet : FlatCondition → List Place → Bool
  may_meet None' b = true
  may_meet (Some' shape (one_flat_expr cond)) b = list_any (λ u. is_true (seen u)) (may w kept a cond b)

  -- it is 1 for certain
  abbrev pub must_meet : FlatCondition → List Place → Bool
  must_meet None' b = true
  must_meet (Some' shape (one_flat_expr cond)) b = list_all (λ u. is_true (seen u)) (may w kept a cond b)

  -- for a target whose type has these places
  module _ (every : List Place) where
    -- the right side may allow the place
    abbrev pub may_allow : FlatExpr → List Place → Place → Bool
    may_allow (List' shape members at) b p = may_give_some every (may_members w kept a members b) p
    may_allow (Each' var over cond at) b p =
        list_any (λ q. may_meet cond (bind_place b var q) && gives every (Some q) p) (places_in w over)
        || (list_all (λ q. not (must_meet cond (bind_place b var q))) (named_in w over) && is_among every p)
    may_allow (Choose' c (one_flat_expr cond) l (one_flat_expr left) r (one_flat_expr right)) b p =
        list_any (λ u. branch (is_among every p) (seen u) (may_allow left b p) (may_allow right b p)) (may w kept a cond b)
    may_allow e b p = list_any (λ u. gives every u p) (may w kept a e b)

    -- the right side allows the place for certain
    abbrev mutual
      pub must_allow : FlatExpr → List Place → Place → Bool
      must_allow (List' shape members at) b p = must_give_some members b p
      must_allow (Each' var over cond at) b p =
          (list_all (λ q. not (may_meet cond (bind_place b var q))) (places_in w over) && is_among every p)
          || ((list_any (λ q. must_meet cond (bind_place b var q) && not (is_among every q)) (named_in w over) && is_among every p)
          || list_any (λ q. must_meet cond (bind_place b var q) && same_place q p) (places_in w over))
      must_allow (Choose' c (one_flat_expr cond) l (one_flat_expr left) r (one_flat_expr right)) b p =
          chosen_surely (map seen (may w kept a cond b)) (must_allow left b p) (must_allow right b p) (is_among every p)
      must_allow e b p = gives_only every (may w kept a e b) p

      -- some member allows it for certain, or can only be outside the type
      pub must_give_some : {m : _} → Row_of-FlatMember m → List Place → Place → Bool
      must_give_some end_of-FlatMember b p = false
      must_give_some (more_of-FlatMember (One e) others) b p =
          (list_all (is_outside every) (may w kept a e b) && is_among every p) || (must_allow e b p || must_give_some others b p)
      must_give_some (more_of-FlatMember (SpanOf span at) others) b p =
          list_any (λ us. list_any (λ u. gives_surely every u p) us) (may_members w kept a (more_of-FlatMember (SpanOf span at) end_of-FlatMember) b) || must_give_some others b p
