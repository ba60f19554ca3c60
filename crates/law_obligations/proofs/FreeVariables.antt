-- What an expression may be depends on no variable that it does not read.
use Rattle.std.proofs.Common.{◌≡◌, ℕ, zero, suc, ◌+◌, ◌-◌, List, [], ◌∷◌, ◌++◌, map, Bool, true, ◌&&◌, ◌||◌, ◌<◌, refl, ap, arith, ◌∙◌, Some, None, nat_eq, nat_lt}
use Rattle.std.specs.List.{slice_get, flat_map}
use Rattle.law_lists.proofs.Numbers.{nat_lt-true}
use Rattle.law_lists.proofs.Lists.{flat_map_agree, map_agree}
use Rattle.law_lists.proofs.Booleans.{either_left, either_right, and_both}
use Rattle.smv_core.specs.Values.{Truth, number, add, modulo, numbers_from, not_of, iff_of, conjunction, disjunction, implication}
use Rattle.smv_core.specs.Outcome.{branch}
use Rattle.smv_core.specs.declared.flat.FlatMember.{One, Span as SpanOf}
use Rattle.smv_core.specs.declared.flat.FlatExpr.{FlatExpr, Number, Read', Var, Loop, Constant, Not', And', Or', Implies', Iff', Compare', Within', Sum', Modulo', Choose', All', Any', List', Each', Row_of-FlatExpr, end_of-FlatExpr, more_of-FlatExpr, Row_of-FlatMember, end_of-FlatMember, more_of-FlatMember, Row_of-FlatSigned, end_of-FlatSigned, more_of-FlatSigned}
use Rattle.law_obligations.specs.Sets.{one_of_each, pairs}
use Rattle.law_obligations.specs.Places.{Place, World, named, named_in, rests_in, AbsOutcome, valued, as_place, equal_places, where_defined, may_compare, bind_place}
use Rattle.law_obligations.specs.May.{AbsState, Kept, seen, shown, quantified, may_read, may, may_each, may_sum, may_listed, may_members}
use Rattle.law_obligations.specs.FreeReads.{reads, one_reads, signed_read, members_read, Agree}

-- what agrees on more agrees on less
pub agree_on : {X : Type 0} (f g : ℕ → Bool) (b c : List X) → ((k : ℕ) → g k ≡ true → f k ≡ true) → Agree f b c → Agree g b c
agree_on f g [] [] h m = tt
agree_on f g [] (y ∷ c) h m = m
agree_on f g (x ∷ b) [] h m = m
agree_on f g (x ∷ b) (y ∷ c) h m = (λ t. m.0 (h zero t), agree_on (λ k. f (suc k)) (λ k. g (suc k)) b c (λ k. h (suc k)) m.1)

same_heads : {X : Type 0} (x y : X) → x ≡ y → Some x ≡ Some y
same_heads x y e = ap Some e

-- the same variable of both
pub agree_at : {X : Type 0} (f : ℕ → Bool) (b c : List X) (k : ℕ) → f k ≡ true → Agree f b c → slice_get b k ≡ slice_get c k
agree_at f [] [] k t m = refl
agree_at f [] (y ∷ c) k t m = absurd m
agree_at f (x ∷ b) [] k t m = absurd m
agree_at f (x ∷ b) (y ∷ c) zero t m = same_heads x y (m.0 t)
agree_at f (x ∷ b) (y ∷ c) (suc k) t m = agree_at (λ k. f (suc k)) b c k t m.1

-- under a binder
pub agree_under : (f g : ℕ → Bool) (b c : List Place) (var : ℕ) (p : Place) → ((k : ℕ) → k < var → g k ≡ true → f k ≡ true) → Agree f b c → Agree g (bind_place b var p) (bind_place c var p)
agree_under f g [] [] zero p h m = (λ t. refl, tt)
agree_under f g [] [] (suc var) p h m = (λ t. refl, tt)
agree_under f g [] (y ∷ c) var p h m = absurd m
agree_under f g (x ∷ b) [] var p h m = absurd m
agree_under f g (x ∷ b) (y ∷ c) zero p h m = (λ t. refl, tt)
agree_under f g (x ∷ b) (y ∷ c) (suc var) p h m = (λ t. m.0 (h zero (omega arith) t), agree_under (λ k. f (suc k)) (λ k. g (suc k)) b c var p (λ k l t. h (suc k) (omega arith) t) m.1)

itself : (k : ℕ) → nat_eq k k ≡ true
itself k = grind arith

both_alike : {X : Type 0} (f : X → X → X) (u v x y : X) → u ≡ v → x ≡ y → f u x ≡ f v y
both_alike f u v x y d e = ap (λ z. f z x) d ∙ ap (f v) e

module _ (w : World) (kept : Kept) (a : AbsState) where
  -- a quantifier, by what its body may be
  quantified_alike : (join : List Truth → Truth) (f g : Place → List AbsOutcome) (ps rs : List Place) → ((p : Place) → f p ≡ g p) → quantified join (map f ps) (flat_map f rs) ≡ quantified join (map g ps) (flat_map g rs)
  quantified_alike join f g ps rs h = ap (λ xss. quantified join xss (flat_map f rs)) (map_agree f g h ps) ∙ ap (quantified join (map g ps)) (flat_map_agree f g h rs)

  mutual
    pub may_alike : (e : FlatExpr) (b c : List Place) → Agree (λ k. reads k e) b c → may w kept a e b ≡ may w kept a e c
    may_alike (Number value place) b c h = refl
    may_alike (Read' family shape indexes place) b c h = ap (λ uss. flat_map (may_read w kept a family (slice_get w.classes.families family)) (one_of_each uss)) (each_alike indexes b c h)
    may_alike (Var var place) b c h = ap (λ u. u ∷ []) (agree_at (λ k. nat_eq var k) b c var (itself var) h)
    may_alike (Loop value place) b c h = refl
    may_alike (Constant list value place) b c h = refl
    may_alike (Not' shape (more_of-FlatExpr e end_of-FlatExpr) place) b c h = ap (map (λ u. shown (not_of (seen u)))) (may_alike e b c h)
    may_alike (And' shape parts) b c h = ap (λ uss. map (λ us. shown (conjunction (map seen us))) (one_of_each uss)) (each_alike parts b c h)
    may_alike (Or' shape parts) b c h = ap (λ uss. map (λ us. shown (disjunction (map seen us))) (one_of_each uss)) (each_alike parts b c h)
    may_alike (Implies' shape parts) b c h = ap (λ uss. map (λ us. shown (implication (map seen us))) (one_of_each uss)) (each_alike parts b c h)
    may_alike (Iff' l (more_of-FlatExpr left end_of-FlatExpr) r (more_of-FlatExpr right end_of-FlatExpr)) b c h =
        both_alike (λ us vs. pairs (λ u v. shown (iff_of (seen u) (seen v)) ∷ []) us vs) (may w kept a left b) (may w kept a left c) (may w kept a right b) (may w kept a right c)
        (may_alike left b c (agree_on (λ k. reads k left || reads k right) (λ k. reads k left) b c (λ k t. either_left (reads k right) t) h))
        (may_alike right b c (agree_on (λ k. reads k left || reads k right) (λ k. reads k right) b c (λ k t. either_right (reads k left) t) h))
    may_alike (Compare' op l (more_of-FlatExpr left end_of-FlatExpr) r (more_of-FlatExpr right end_of-FlatExpr)) b c h =
        both_alike (λ us vs. pairs (λ u v. map shown (may_compare op u v)) us vs) (may w kept a left b) (may w kept a left c) (may w kept a right b) (may w kept a right c)
        (may_alike left b c (agree_on (λ k. reads k left || reads k right) (λ k. reads k left) b c (λ k t. either_left (reads k right) t) h))
        (may_alike right b c (agree_on (λ k. reads k left || reads k right) (λ k. reads k right) b c (λ k t. either_right (reads k left) t) h))
    may_alike (Within' l (more_of-FlatExpr left end_of-FlatExpr) r (more_of-FlatExpr set end_of-FlatExpr)) b c h =
        ap (λ us. pairs (λ u vs. map (λ ts. shown (disjunction ts)) (one_of_each (map (where_defined equal_places u) vs))) us (one_of_each (may_listed w kept a set b))) (may_alike left b c (agree_on (λ k. reads k left || reads k set) (λ k. reads k left) b c (λ k t. either_left (reads k set) t) h))
        ∙ ap (λ vss. pairs (λ u vs. map (λ ts. shown (disjunction ts)) (one_of_each (map (where_defined equal_places u) vs))) (may w kept a left c) (one_of_each vss)) (listed_alike set b c (agree_on (λ k. reads k left || reads k set) (λ k. reads k set) b c (λ k t. either_right (reads k left) t) h))
    may_alike (Sum' f (more_of-FlatExpr head end_of-FlatExpr) shape more) b c h =
        ap (λ us. may_sum w kept a more us b) (may_alike head b c (agree_on (λ k. reads k head || signed_read k more) (λ k. reads k head) b c (λ k t. either_left (signed_read k more) t) h))
        ∙ sum_alike more (may w kept a head c) b c (agree_on (λ k. reads k head || signed_read k more) (λ k. signed_read k more) b c (λ k t. either_right (reads k head) t) h)
    may_alike (Modulo' shape (more_of-FlatExpr e end_of-FlatExpr) by place) b c h = ap (map (λ u. as_place (modulo (valued u) by))) (may_alike e b c h)
    may_alike (Choose' t (more_of-FlatExpr test end_of-FlatExpr) l (more_of-FlatExpr left end_of-FlatExpr) r (more_of-FlatExpr right end_of-FlatExpr)) b c h =
        ap (λ us. flat_map (λ u. branch (None ∷ []) (seen u) (may w kept a left b) (may w kept a right b)) us) (may_alike test b c (agree_on (λ k. reads k test || (reads k left || reads k right)) (λ k. reads k test) b c (λ k t. either_left (reads k left || reads k right) t) h))
        ∙ both_alike (λ us vs. flat_map (λ u. branch (None ∷ []) (seen u) us vs) (may w kept a test c)) (may w kept a left b) (may w kept a left c) (may w kept a right b) (may w kept a right c)
        (may_alike left b c (agree_on (λ k. reads k left || reads k right) (λ k. reads k left) b c (λ k t. either_left (reads k right) t) (agree_on (λ k. reads k test || (reads k left || reads k right)) (λ k. reads k left || reads k right) b c (λ k t. either_right (reads k test) t) h)))
        (may_alike right b c (agree_on (λ k. reads k left || reads k right) (λ k. reads k right) b c (λ k t. either_right (reads k left) t) (agree_on (λ k. reads k test || (reads k left || reads k right)) (λ k. reads k left || reads k right) b c (λ k t. either_right (reads k test) t) h)))
    may_alike (All' shape (more_of-FlatExpr body end_of-FlatExpr) var over place) b c h =
        quantified_alike conjunction (λ p. may w kept a body (bind_place b var p)) (λ p. may w kept a body (bind_place c var p)) (named_in w over) (rests_in w over)
        (λ p. may_alike body (bind_place b var p) (bind_place c var p) (agree_under (λ k. nat_lt k var && reads k body) (λ k. reads k body) b c var p (λ k l t. and_both (nat_lt-true k var l) t) h))
    may_alike (Any' shape (more_of-FlatExpr body end_of-FlatExpr) var over place) b c h =
        quantified_alike disjunction (λ p. may w kept a body (bind_place b var p)) (λ p. may w kept a body (bind_place c var p)) (named_in w over) (rests_in w over)
        (λ p. may_alike body (bind_place b var p) (bind_place c var p) (agree_under (λ k. nat_lt k var && reads k body) (λ k. reads k body) b c var p (λ k l t. and_both (nat_lt-true k var l) t) h))
    may_alike (List' shape members place) b c h = refl
    may_alike (Each' var over test place) b c h = refl

    each_alike : {m : _} (row : Row_of-FlatExpr m) (b c : List Place) → Agree (λ k. one_reads k row) b c → may_each w kept a row b ≡ may_each w kept a row c
    each_alike end_of-FlatExpr b c h = refl
    each_alike (more_of-FlatExpr e others) b c h =
        ap (λ us. us ∷ may_each w kept a others b) (may_alike e b c (agree_on (λ k. reads k e || one_reads k others) (λ k. reads k e) b c (λ k t. either_left (one_reads k others) t) h))
        ∙ ap (λ uss. may w kept a e c ∷ uss) (each_alike others b c (agree_on (λ k. reads k e || one_reads k others) (λ k. one_reads k others) b c (λ k t. either_right (reads k e) t) h))

    sum_alike : {m : _} (row : Row_of-FlatSigned m) (us : List AbsOutcome) (b c : List Place) → Agree (λ k. signed_read k row) b c → may_sum w kept a row us b ≡ may_sum w kept a row us c
    sum_alike end_of-FlatSigned us b c h = refl
    sum_alike (more_of-FlatSigned minus e others) us b c h =
        ap (λ vs. may_sum w kept a others (pairs (λ u v. as_place (add minus (valued u) (valued v)) ∷ []) us vs) b) (may_alike e b c (agree_on (λ k. reads k e || signed_read k others) (λ k. reads k e) b c (λ k t. either_left (signed_read k others) t) h))
        ∙ sum_alike others (pairs (λ u v. as_place (add minus (valued u) (valued v)) ∷ []) us (may w kept a e c)) b c (agree_on (λ k. reads k e || signed_read k others) (λ k. signed_read k others) b c (λ k t. either_right (reads k e) t) h)

    listed_alike : (e : FlatExpr) (b c : List Place) → Agree (λ k. reads k e) b c → may_listed w kept a e b ≡ may_listed w kept a e c
    listed_alike (List' shape members place) b c h = members_alike members b c h
    listed_alike _ b c h = refl

    members_alike : {m : _} (row : Row_of-FlatMember m) (b c : List Place) → Agree (λ k. members_read k row) b c → may_members w kept a row b ≡ may_members w kept a row c
    members_alike end_of-FlatMember b c h = refl
    members_alike (more_of-FlatMember (One e) others) b c h =
        ap (λ us. us ∷ may_members w kept a others b) (may_alike e b c (agree_on (λ k. reads k e || members_read k others) (λ k. reads k e) b c (λ k t. either_left (members_read k others) t) h))
        ∙ ap (λ uss. may w kept a e c ∷ uss) (members_alike others b c (agree_on (λ k. reads k e || members_read k others) (λ k. members_read k others) b c (λ k t. either_right (reads k e) t) h))
    members_alike (more_of-FlatMember (SpanOf span place) others) b c h =
        ap (λ uss. map (λ k. Some (named (number k)) ∷ []) (numbers_from span.low (span.high + 1 - span.low)) ++ uss) (members_alike others b c h)
