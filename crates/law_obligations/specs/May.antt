-- The outcomes that an expression may have in an abstract state.
use Rattle.std.specs.Prelude.{ℕ, ◌+◌, ◌-◌, List, [], ◌∷◌, ◌++◌, map, flat_map, zip, get_or, slice_get, Option, Some, None, option_map, Bool, if◌then◌else◌}
use Rattle.smv_core.specs.Values.{number, constant, Truth, truth, bit, add, modulo, numbers_from, not_of, iff_of, conjunction, disjunction, implication}
use Rattle.smv_core.specs.Outcome.{branch}
use Rattle.smv_core.specs.declared.flat.Family.{Family}
use Rattle.smv_core.specs.declared.flat.FlatMember.{One, Span as SpanOf}
use Rattle.smv_core.specs.declared.flat.FlatExpr.{FlatExpr, Number, Read', Var, Loop, Constant, Not', And', Or', Implies', Iff', Compare', Within', Sum', Modulo', Choose', All', Any', List', Each', Row_of-FlatExpr, end_of-FlatExpr, more_of-FlatExpr, Row_of-FlatMember, end_of-FlatMember, more_of-FlatMember, Row_of-FlatSigned, end_of-FlatSigned, more_of-FlatSigned}
use Rattle.law_obligations.specs.Sets.{one_of_each, parts, pairs, all_there}
use Rattle.law_obligations.specs.Places.{Place, named, World, named_in, rests_in, places_in, is_among, AbsOutcome, valued, as_place, equal_places, where_defined, may_compare, bind_place}
use Rattle.smv_core.specs.Rows.{one_flat_expr}

-- an abstract value for each element, by its family's number and a place for each index
abbrev pub AbsState : Type 0
AbsState = ℕ → List Place → Place

-- the elements that an abstract state has
abbrev pub Kept : Type 0
Kept = ℕ → List Place → Bool

-- an outcome as a condition
abbrev pub seen : AbsOutcome → Truth
seen u = truth (valued u)

-- a condition as an outcome
abbrev pub shown : Truth → AbsOutcome
shown t = as_place (bit t)

-- the outcome, where it is one of these places
abbrev pub place_within : List Place → AbsOutcome → AbsOutcome
place_within places (Some p) = if is_among places p then Some p else None
place_within places None = None

-- a quantifier takes an outcome at each number and class, and any part of the outcomes at the rests, also none
abbrev pub quantified : (List Truth → Truth) → List (List AbsOutcome) → List AbsOutcome → List AbsOutcome
quantified join at_named at_rests = pairs (λ us vs. shown (join (map seen (us ++ vs))) ∷ []) (one_of_each at_named) (parts at_rests)

module _ (w : World) (kept : Kept) (a : AbsState) where
  -- an element that is not kept may have every value of its type
  abbrev pub places_at : ℕ → Family → Option (List Place) → List AbsOutcome
  places_at family f None = None ∷ []
  places_at family f (Some ps) = if kept family ps then Some (a family ps) ∷ [] else map Some (places_in w f.value)

  -- the value of an element, Undefined where an index is outside its type
  abbrev pub may_read : ℕ → Option Family → List AbsOutcome → List AbsOutcome
  may_read family None us = None ∷ []
  may_read family (Some f) us = places_at family f (all_there (map (λ (t, u). place_within (places_in w t) u) (zip f.over us)))

  abbrev mutual
    -- an operator on each choice of what its parts may be; a set has no outcome of its own
    pub may : FlatExpr → List Place → List AbsOutcome
    may (Number value at) b = Some (named (number value)) ∷ []
    may (Read' family shape indexes at) b = flat_map (may_read family (slice_get w.classes.families family)) (one_of_each (may_each indexes b))
    may (Var var at) b = slice_get b var ∷ []
    may (Loop value at) b = Some (named (number value)) ∷ []
    may (Constant list value at) b = as_place (option_map constant (slice_get (get_or w.classes.enums list []) value)) ∷ []
    may (Not' shape (one_flat_expr e) at) b = map (λ u. shown (not_of (seen u))) (may e b)
    may (And' shape parts) b = map (λ us. shown (conjunction (map seen us))) (one_of_each (may_each parts b))
    may (Or' shape parts) b = map (λ us. shown (disjunction (map seen us))) (one_of_each (may_each parts b))
    may (Implies' shape parts) b = map (λ us. shown (implication (map seen us))) (one_of_each (may_each parts b))
    may (Iff' l (one_flat_expr left) r (one_flat_expr right)) b = pairs (λ u v. shown (iff_of (seen u) (seen v)) ∷ []) (may left b) (may right b)
    may (Compare' op l (one_flat_expr left) r (one_flat_expr right)) b = pairs (λ u v. map shown (may_compare op u v)) (may left b) (may right b)
    may (Within' l (one_flat_expr left) r (one_flat_expr set)) b =
        pairs (λ u vs. map (λ ts. shown (disjunction ts)) (one_of_each (map (where_defined equal_places u) vs))) (may left b) (one_of_each (may_listed set b))
    may (Sum' f (one_flat_expr head) shape more) b = may_sum more (may head b) b
    may (Modulo' shape (one_flat_expr e) by at) b = map (λ u. as_place (modulo (valued u) by)) (may e b)
    may (Choose' c (one_flat_expr cond) l (one_flat_expr left) r (one_flat_expr right)) b =
        flat_map (λ u. branch (None ∷ []) (seen u) (may left b) (may right b)) (may cond b)
    may (All' shape (one_flat_expr body) var over at) b =
        quantified conjunction (map (λ p. may body (bind_place b var p)) (named_in w over)) (flat_map (λ p. may body (bind_place b var p)) (rests_in w over))
    may (Any' shape (one_flat_expr body) var over at) b =
        quantified disjunction (map (λ p. may body (bind_place b var p)) (named_in w over)) (flat_map (λ p. may body (bind_place b var p)) (rests_in w over))
    may (List' shape members at) b = None ∷ []
    may (Each' var over cond at) b = None ∷ []

    pub may_each : {m : _} → Row_of-FlatExpr m → List Place → List (List AbsOutcome)
    may_each end_of-FlatExpr b = []
    may_each (more_of-FlatExpr e others) b = may e b ∷ may_each others b

    pub may_sum : {m : _} → Row_of-FlatSigned m → List AbsOutcome → List Place → List AbsOutcome
    may_sum end_of-FlatSigned us b = us
    may_sum (more_of-FlatSigned minus e others) us b = may_sum others (pairs (λ u v. as_place (add minus (valued u) (valued v)) ∷ []) us (may e b)) b

    -- what each member of a listed set may be
    pub may_listed : FlatExpr → List Place → List (List AbsOutcome)
    may_listed (List' shape members at) b = may_members members b
    may_listed _ b = []

    pub may_members : {m : _} → Row_of-FlatMember m → List Place → List (List AbsOutcome)
    may_members end_of-FlatMember b = []
    may_members (more_of-FlatMember (One e) others) b = may e b ∷ may_members others b
    may_members (more_of-FlatMember (SpanOf span at) others) b = map (λ k. Some (named (number k)) ∷ []) (numbers_from span.low (span.high + 1 - span.low)) ++ may_members others b
