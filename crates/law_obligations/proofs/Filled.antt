-- What an expression may be is never empty, whatever the places of its variables, where each family's type has a place.
use Rattle.std.proofs.Common.{◌≡◌, ℕ, ◌+◌, ◌-◌, List, [], ◌∷◌, ◌++◌, map, Bool, true, false, if◌then◌else◌, refl, Option, Some, None}
use Rattle.std.specs.List.{flat_map, slice_get, zip}
use Rattle.smv_core.specs.Values.{number, Truth, add, modulo, numbers_from, not_of, iff_of, conjunction, disjunction, implication, same, below}
use Rattle.smv_core.specs.Outcome.{branch}
use Rattle.smv_core.specs.declared.tree.Op.{Op}
use Rattle.smv_core.specs.declared.tree.Op.TheVariants.{Equal, Differ, Less, AtMost, Greater, AtLeast}
use Rattle.smv_core.specs.declared.flat.Family.{Family}
use Rattle.smv_core.specs.declared.flat.FlatMember.{One, Span as SpanOf}
use Rattle.smv_core.specs.declared.flat.FlatExpr.{FlatExpr, Number, Read', Var, Loop, Constant, Not', And', Or', Implies', Iff', Compare', Within', Sum', Modulo', Choose', All', Any', List', Each', Row_of-FlatExpr, end_of-FlatExpr, more_of-FlatExpr, Row_of-FlatMember, end_of-FlatMember, more_of-FlatMember, Row_of-FlatSigned, end_of-FlatSigned, more_of-FlatSigned}
use Rattle.law_obligations.specs.Sets.{Has, first, one_of_each, parts, pairs, all_there}
use Rattle.law_obligations.specs.Places.{Place, named, rest, World, named_in, rests_in, places_in, AbsOutcome, valued, as_place, unsure, equal_places, below_places, where_defined, may_compare, bind_place}
use Rattle.law_obligations.specs.May.{AbsState, Kept, seen, shown, place_within, quantified, places_at, may_read, may, may_each, may_sum, may_listed, may_members}
use Rattle.law_obligations.proofs.Members.{Has-map, Has-flat_map, Has-pairs, Picks, Has-choices, Has-parts, kept_by}
use Rattle.law_obligations.proofs.Members.Picks.{none as no_pick, more as one_more}
use Rattle.law_obligations.specs.Mix.{is_there}

abbrev pub Filled : {X : Type 0} → List X → Type 0
Filled xs = (x : _) × Has xs x

abbrev pub AllFilled : {X : Type 0} → List (List X) → Type 0
AllFilled [] = Unit {0}
AllFilled (xs ∷ xss) = Filled xs × AllFilled xss

pub has_choice : {X : Type 0} (xss : List (List X)) → AllFilled xss → (ys : List X) × Picks xss ys
has_choice [] h = ([], no_pick)
has_choice (xs ∷ xss) h = let r = has_choice xss h.1 in (h.0.0 ∷ r.0, one_more h.0.1 r.1)

pub filled_each : {X Y : Type 0} (F : X → List Y) (xs : List X) → ((x : X) → Filled (F x)) → AllFilled (map F xs)
filled_each F [] h = tt
filled_each F (x ∷ xs) h = (h x, filled_each F xs h)

filled_choice : {X Y : Type 0} (f : List X → Y) (xss : List (List X)) → AllFilled xss → Filled (map f (one_of_each xss))
filled_choice f xss h = let r = has_choice xss h in (f r.0, Has-map f (Has-choices r.1))

pub equal_filled : (p q : Place) → Filled (equal_places p q)
equal_filled (named u) (named v) = (Some (same u v), first)
equal_filled (named u) (rest v) = (Some false, first)
equal_filled (rest u) (named v) = (Some false, first)
equal_filled (rest u) (rest v) = at (same u v)
  where
    at : (b : Bool) → Filled (if b then unsure (Some true) else Some false ∷ [])
    at true = (Some true, first)
    at false = (Some false, first)

unsure_filled : (t : Truth) → Filled (unsure t)
unsure_filled None = (None, first)
unsure_filled (Some b) = (Some true, first)

below_filled : (p q : Place) → Filled (below_places p q)
below_filled (named u) (named v) = (below (Some u) (Some v), first)
below_filled (named u) (rest v) = (below (Some u) (Some v), first)
below_filled (rest u) (named v) = (not_of (below (Some v) (Some u)), first)
below_filled (rest u) (rest v) = at (same u v)
  where
    at : (b : Bool) → Filled (if b then unsure (below (Some u) (Some v)) else below (Some u) (Some v) ∷ [])
    at true = unsure_filled (below (Some u) (Some v))
    at false = (below (Some u) (Some v), first)

pub defined_filled : (answers : Place → Place → List Truth) → ((p q : Place) → Filled (answers p q)) → (u v : AbsOutcome) → Filled (where_defined answers u v)
defined_filled answers h None v = (None, first)
defined_filled answers h (Some p) None = (None, first)
defined_filled answers h (Some p) (Some q) = h p q

filled_map : {X Y : Type 0} (f : X → Y) (xs : List X) → Filled xs → Filled (map f xs)
filled_map f xs h = (f h.0, Has-map f h.1)

compare_filled : (op : Op) (u v : AbsOutcome) → Filled (may_compare op u v)
compare_filled Equal u v = defined_filled equal_places equal_filled u v
compare_filled Differ u v = filled_map not_of (where_defined equal_places u v) (defined_filled equal_places equal_filled u v)
compare_filled Less u v = defined_filled below_places below_filled u v
compare_filled AtMost u v = filled_map not_of (where_defined below_places v u) (defined_filled below_places below_filled v u)
compare_filled Greater u v = defined_filled below_places below_filled v u
compare_filled AtLeast u v = filled_map not_of (where_defined below_places u v) (defined_filled below_places below_filled u v)

branch_filled : (c : Truth) (xs ys : List AbsOutcome) → Filled xs → Filled ys → Filled (branch (None ∷ []) c xs ys)
branch_filled None xs ys p q = (None, first)
branch_filled (Some true) xs ys p q = p
branch_filled (Some false) xs ys p q = q

quantified_filled : (join : List Truth → Truth) (F : Place → List AbsOutcome) (classes : List Place) (at_rests : List AbsOutcome) → ((p : Place) → Filled (F p)) → Filled (quantified join (map F classes) at_rests)
quantified_filled join F classes at_rests h =
    let r = has_choice (map F classes) (filled_each F classes h) in (
      shown (join (map seen (r.0 ++ kept_by (λ u. false) at_rests))),
      Has-pairs (λ us vs. shown (join (map seen (us ++ vs))) ∷ []) (Has-choices r.1) (Has-parts (λ u. false) at_rests) first,
    )

numbers_filled : (ks : List ℕ) (xss : List (List AbsOutcome)) → AllFilled xss → AllFilled (map (λ k. Some (named (number k)) ∷ []) ks ++ xss)
numbers_filled [] xss h = h
numbers_filled (k ∷ ks) xss h = ((Some (named (number k)), first), numbers_filled ks xss h)

module _ (w : World) (kept : Kept) (a : AbsState) (some_place : (family : ℕ) (f : Family) → slice_get w.classes.families family ≡ Some f → Filled (places_in w f.value)) where
  read_filled : (family : ℕ) (o : Option Family) → slice_get w.classes.families family ≡ o → (us : List AbsOutcome) → Filled (may_read w kept a family o us)
  read_filled family None e us = (None, first)
  read_filled family (Some f) e us = at (all_there (map (λ (t, u). place_within (places_in w t) u) (zip f.over us)))
    where
      at : (o : Option (List Place)) → Filled (places_at w kept a family f o)
      at None = (None, first)
      at (Some ps) = by_test (kept family ps)
        where
          by_test : (b : Bool) → Filled (if b then Some (a family ps) ∷ [] else map Some (places_in w f.value))
          by_test true = (Some (a family ps), first)
          by_test false = let h = some_place family f e in (Some h.0, Has-map Some h.1)

  mutual
    pub may_filled : (e : FlatExpr) (b : List Place) → Filled (may w kept a e b)
    may_filled (Number value place) b = (Some (named (number value)), first)
    may_filled (Read' family shape indexes place) b =
        let r = has_choice (may_each w kept a indexes b) (each_filled indexes b) in
        let u = read_filled family (slice_get w.classes.families family) refl r.0 in
        (u.0, Has-flat_map (may_read w kept a family (slice_get w.classes.families family)) (Has-choices r.1) u.1)
    may_filled (Var var place) b = (slice_get b var, first)
    may_filled (Loop value place) b = (Some (named (number value)), first)
    may_filled (Constant list value place) b = (_, first)
    may_filled (Not' shape (more_of-FlatExpr e end_of-FlatExpr) place) b = filled_map (λ u. shown (not_of (seen u))) (may w kept a e b) (may_filled e b)
    may_filled (And' shape parts) b = filled_choice (λ us. shown (conjunction (map seen us))) (may_each w kept a parts b) (each_filled parts b)
    may_filled (Or' shape parts) b = filled_choice (λ us. shown (disjunction (map seen us))) (may_each w kept a parts b) (each_filled parts b)
    may_filled (Implies' shape parts) b = filled_choice (λ us. shown (implication (map seen us))) (may_each w kept a parts b) (each_filled parts b)
    may_filled (Iff' l (more_of-FlatExpr left end_of-FlatExpr) r (more_of-FlatExpr right end_of-FlatExpr)) b =
        let u = may_filled left b in let v = may_filled right b in
        (shown (iff_of (seen u.0) (seen v.0)), Has-pairs (λ u v. shown (iff_of (seen u) (seen v)) ∷ []) u.1 v.1 first)
    may_filled (Compare' op l (more_of-FlatExpr left end_of-FlatExpr) r (more_of-FlatExpr right end_of-FlatExpr)) b =
        let u = may_filled left b in let v = may_filled right b in let t = compare_filled op u.0 v.0 in
        (shown t.0, Has-pairs (λ u v. map shown (may_compare op u v)) u.1 v.1 (Has-map shown t.1))
    may_filled (Within' l (more_of-FlatExpr left end_of-FlatExpr) r (more_of-FlatExpr set end_of-FlatExpr)) b =
        let u = may_filled left b in
        let vs = has_choice (may_listed w kept a set b) (listed_filled set b) in
        let t = filled_choice (λ ts. shown (disjunction ts)) (map (where_defined equal_places u.0) vs.0) (filled_each (where_defined equal_places u.0) vs.0 (λ v. defined_filled equal_places equal_filled u.0 v)) in
        (t.0, Has-pairs (λ u vs. map (λ ts. shown (disjunction ts)) (one_of_each (map (where_defined equal_places u) vs))) u.1 (Has-choices vs.1) t.1)
    may_filled (Sum' f (more_of-FlatExpr head end_of-FlatExpr) shape more) b = sum_filled more (may w kept a head b) b (may_filled head b)
    may_filled (Modulo' shape (more_of-FlatExpr e end_of-FlatExpr) by place) b = filled_map (λ u. as_place (modulo (valued u) by)) (may w kept a e b) (may_filled e b)
    may_filled (Choose' c (more_of-FlatExpr test end_of-FlatExpr) l (more_of-FlatExpr left end_of-FlatExpr) r (more_of-FlatExpr right end_of-FlatExpr)) b =
        let u = may_filled test b in
        let v = branch_filled (seen u.0) (may w kept a left b) (may w kept a right b) (may_filled left b) (may_filled right b) in
        (v.0, Has-flat_map (λ u. branch (None ∷ []) (seen u) (may w kept a left b) (may w kept a right b)) u.1 v.1)
    may_filled (All' shape (more_of-FlatExpr body end_of-FlatExpr) var over place) b =
        quantified_filled conjunction (λ p. may w kept a body (bind_place b var p)) (named_in w over) (flat_map (λ p. may w kept a body (bind_place b var p)) (rests_in w over))
        (λ p. may_filled body (bind_place b var p))
    may_filled (Any' shape (more_of-FlatExpr body end_of-FlatExpr) var over place) b =
        quantified_filled disjunction (λ p. may w kept a body (bind_place b var p)) (named_in w over) (flat_map (λ p. may w kept a body (bind_place b var p)) (rests_in w over))
        (λ p. may_filled body (bind_place b var p))
    may_filled (List' shape members place) b = (None, first)
    may_filled (Each' var over test place) b = (None, first)

    each_filled : {m : _} (row : Row_of-FlatExpr m) (b : List Place) → AllFilled (may_each w kept a row b)
    each_filled end_of-FlatExpr b = tt
    each_filled (more_of-FlatExpr e others) b = (may_filled e b, each_filled others b)

    sum_filled : {m : _} (row : Row_of-FlatSigned m) (us : List AbsOutcome) (b : List Place) → Filled us → Filled (may_sum w kept a row us b)
    sum_filled end_of-FlatSigned us b h = h
    sum_filled (more_of-FlatSigned minus e others) us b h =
        let v = may_filled e b in
        sum_filled others (pairs (λ u v. as_place (add minus (valued u) (valued v)) ∷ []) us (may w kept a e b)) b
        (as_place (add minus (valued h.0) (valued v.0)), Has-pairs (λ u v. as_place (add minus (valued u) (valued v)) ∷ []) h.1 v.1 first)

    listed_filled : (e : FlatExpr) (b : List Place) → AllFilled (may_listed w kept a e b)
    listed_filled (List' shape members place) b = members_filled members b
    listed_filled _ b = tt

    members_filled : {m : _} (row : Row_of-FlatMember m) (b : List Place) → AllFilled (may_members w kept a row b)
    members_filled end_of-FlatMember b = tt
    members_filled (more_of-FlatMember (One e) others) b = (may_filled e b, members_filled others b)
    members_filled (more_of-FlatMember (SpanOf span place) others) b =
        numbers_filled (numbers_from span.low (span.high + 1 - span.low)) (may_members w kept a others b) (members_filled others b)

pub there : {X : Type 0} (xs : List X) → Filled xs → is_there xs ≡ true
there [] h = elim h.1 [ ]
there (x ∷ xs) h = refl
