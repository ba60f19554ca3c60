-- What an expression reads depends on the places of those variables alone that occur in it.
use Rattle.std.proofs.Common.{◌≡◌, ℕ, zero, suc, List, [], ◌∷◌, ◌++◌, map, take, length, filter, slice_get, Option, Some, None, Bool, true, false, ◌&&◌, ◌||◌, nat_eq, nat_lt, refl, ap, ◌∙◌, arith}
use Rattle.law_lists.proofs.Booleans.{either_left, either_right, and_both}
use Rattle.law_lists.proofs.Numbers.{nat_lt-true}
use Rattle.law_lists.proofs.Lists.{append_alike, flat_map_alike}
use Rattle.smv_core.specs.Assignments.{Index, fixed, bare, computed, add_fixed, modulo_fixed}
use Rattle.smv_core.specs.FlatMeaning.{flat_index, flat_index_sum}
use Rattle.smv_core.specs.declared.flat.Family.{Family}
use Rattle.smv_core.specs.declared.flat.FlatMember.{One, Span as SpanOf}
use Rattle.smv_core.specs.declared.flat.FlatExpr.{FlatExpr, Number, Read', Var, Loop, Constant, Not', And', Or', Implies', Iff', Compare', Within', Sum', Modulo', Choose', All', Any', List', Each', Held-FlatExpr-Each-2, None', Some', Row_of-FlatExpr, end_of-FlatExpr, more_of-FlatExpr, Row_of-FlatMember, end_of-FlatMember, more_of-FlatMember, Row_of-FlatSigned, end_of-FlatSigned, more_of-FlatSigned}
use Rattle.law_obligations.specs.Sets.{one_of_each}
use Rattle.law_obligations.specs.Places.{Place, World, named_in, bind_place}
use Rattle.law_obligations.specs.FreeReads.{reads as occurs_in, one_reads, signed_read, members_read, condition_reads, Agree}
use Rattle.law_obligations.specs.Reads.{is_bound_to, indexes_read, reads_each, reads_signed, reads_members, reads_held}
use Rattle.law_obligations.specs.Cones.{AbsElement, element, index_places, each_index, elements_in, elements_at, elements_read}
use Rattle.law_obligations.proofs.FreeVariables.{agree_on, agree_at, agree_under}
use Rattle.smv_problem.specs.Written.{written_element}
use Rattle.smv_spots.specs.declared.spots.Spot.{Spot}
use Rattle.smv_free_variables.specs.Reading.{occurs}
use Rattle.smv_reads.specs.declared.bindings.View.{View}
use Rattle.smv_reads.specs.Views.{world_of, place_in, places, bind_spot}
use Rattle.smv_reads.specs.Reading.{read_in}

itself : (k : ℕ) → nat_eq k k ≡ true
itself k = grind arith

-- ---- a variable that stands alone as an index occurs in it

never-added : (minus : Bool) (i j : Index) (var : ℕ) → add_fixed minus i j ≡ bare var → ⊥
never-added minus (fixed u) (fixed v) var e = absurd (cc)
never-added minus (fixed u) (bare v) var e = absurd (cc)
never-added minus (fixed u) computed var e = absurd (cc)
never-added minus (bare u) j var e = absurd (cc)
never-added minus computed j var e = absurd (cc)

never-modulo : (i : Index) (by var : ℕ) → modulo_fixed i by ≡ bare var → ⊥
never-modulo (fixed u) by var e = absurd (cc)
never-modulo (bare u) by var e = absurd (cc)
never-modulo computed by var e = absurd (cc)

bare-sum : {m : _} (row : Row_of-FlatSigned m) (i : Index) (var : ℕ) → flat_index_sum i row ≡ bare var → i ≡ bare var
bare-sum end_of-FlatSigned i var e = e
bare-sum (more_of-FlatSigned minus x others) i var e = absurd (never-added minus i (flat_index x) var (bare-sum others (add_fixed minus i (flat_index x)) var e))

same-variable : (v var : ℕ) → bare v ≡ bare var → nat_eq v var ≡ true
same-variable v var e = let same : v ≡ var = cc in rw same (itself var)

bare-occurs : (e : FlatExpr) (var : ℕ) → flat_index e ≡ bare var → occurs_in var e ≡ true
bare-occurs (Number value place) var f = absurd (cc)
bare-occurs (Read' family shape indexes place) var f = absurd (cc)
bare-occurs (Var v place) var f = same-variable v var f
bare-occurs (Loop value place) var f = absurd (cc)
bare-occurs (Constant list value place) var f = absurd (cc)
bare-occurs (Not' shape row place) var f = absurd (cc)
bare-occurs (And' shape parts) var f = absurd (cc)
bare-occurs (Or' shape parts) var f = absurd (cc)
bare-occurs (Implies' shape parts) var f = absurd (cc)
bare-occurs (Iff' l left r right) var f = absurd (cc)
bare-occurs (Compare' op l left r right) var f = absurd (cc)
bare-occurs (Within' l left r set) var f = absurd (cc)
bare-occurs (Sum' s (more_of-FlatExpr head end_of-FlatExpr) shape more) var f = either_left (signed_read var more) (bare-occurs head var (bare-sum more (flat_index head) var f))
bare-occurs (Modulo' shape (more_of-FlatExpr e end_of-FlatExpr) by place) var f = absurd (never-modulo (flat_index e) by var f)
bare-occurs (Choose' c cond l left r right) var f = absurd (cc)
bare-occurs (All' shape body v over place) var f = absurd (cc)
bare-occurs (Any' shape body v over place) var f = absurd (cc)
bare-occurs (List' shape members place) var f = absurd (cc)
bare-occurs (Each' v over cond place) var f = absurd (cc)

-- ---- bindings that agree on two parts

on-left : (f g : ℕ → Bool) (b c : List Place) → Agree (λ k. f k || g k) b c → Agree f b c
on-left f g b c h = agree_on (λ k. f k || g k) f b c (λ k t. either_left (g k) t) h

on-right : (f g : ℕ → Bool) (b c : List Place) → Agree (λ k. f k || g k) b c → Agree g b c
on-right f g b c h = agree_on (λ k. f k || g k) g b c (λ k t. either_right (f k) t) h

-- ---- references

index-alike : (e : FlatExpr) (ps b c : List Place) → Agree (λ k. occurs_in k e) b c → index_places b (flat_index e) ps ≡ index_places c (flat_index e) ps
index-alike e ps b c h = at (flat_index e) refl
  where
    at : (i : Index) → flat_index e ≡ i → index_places b i ps ≡ index_places c i ps
    at (fixed None) f = refl
    at (fixed (Some u)) f = refl
    at (bare var) f = ap (λ o. filter (is_bound_to o) ps) (agree_at (λ k. occurs_in k e) b c var (bare-occurs e var f) h)
    at computed f = refl

indexes-alike : {m : _} (row : Row_of-FlatExpr m) (pss : List (List Place)) (b c : List Place) → Agree (λ k. one_reads k row) b c → each_index b (indexes_read row) pss ≡ each_index c (indexes_read row) pss
indexes-alike end_of-FlatExpr pss b c h = refl
indexes-alike (more_of-FlatExpr e others) [] b c h = refl
indexes-alike (more_of-FlatExpr e others) (ps ∷ pss) b c h =
    ap (λ l. l ∷ each_index b (indexes_read others) pss) (index-alike e ps b c (on-left (λ k. occurs_in k e) (λ k. one_reads k others) b c h))
    ∙ ap (λ l. index_places c (flat_index e) ps ∷ l) (indexes-alike others pss b c (on-right (λ k. occurs_in k e) (λ k. one_reads k others) b c h))

module _ (w : World) where
  reference-alike : {m : _} (row : Row_of-FlatExpr m) (family : ℕ) (b c : List Place) → Agree (λ k. one_reads k row) b c → elements_at w family (indexes_read row) b ≡ elements_at w family (indexes_read row) c
  reference-alike row family b c h = at (slice_get w.classes.families family)
    where
      at : (o : Option Family) → elements_in w family (indexes_read row) b o ≡ elements_in w family (indexes_read row) c o
      at None = refl
      at (Some f) = ap (λ pss. map (element family) (one_of_each pss)) (indexes-alike row (map (named_in w) f.over) b c h)

  -- ---- expressions

  abbrev each : {m : _} → Row_of-FlatExpr m → List Place → List AbsElement
  each row b = reads_each (named_in w) (elements_at w) row b

  abbrev signed : {m : _} → Row_of-FlatSigned m → List Place → List AbsElement
  signed row b = reads_signed (named_in w) (elements_at w) row b

  abbrev listed : {m : _} → Row_of-FlatMember m → List Place → List AbsElement
  listed row b = reads_members (named_in w) (elements_at w) row b

  abbrev held : Held-FlatExpr-Each-2 → List Place → List AbsElement
  held cond b = reads_held (named_in w) (elements_at w) cond b

  mutual
    pub reads-alike : (e : FlatExpr) (b c : List Place) → Agree (λ k. occurs_in k e) b c → elements_read w e b ≡ elements_read w e c
    reads-alike (Number value place) b c h = refl
    reads-alike (Read' family shape indexes place) b c h =
        append_alike (elements_at w family (indexes_read indexes) b) (elements_at w family (indexes_read indexes) c) (each indexes b) (each indexes c) (reference-alike indexes family b c h) (each-alike indexes b c h)
    reads-alike (Var var place) b c h = refl
    reads-alike (Loop value place) b c h = refl
    reads-alike (Constant list value place) b c h = refl
    reads-alike (Not' shape (more_of-FlatExpr e end_of-FlatExpr) place) b c h = reads-alike e b c h
    reads-alike (And' shape parts) b c h = each-alike parts b c h
    reads-alike (Or' shape parts) b c h = each-alike parts b c h
    reads-alike (Implies' shape parts) b c h = each-alike parts b c h
    reads-alike (Iff' l (more_of-FlatExpr left end_of-FlatExpr) r (more_of-FlatExpr right end_of-FlatExpr)) b c h =
        append_alike (elements_read w left b) (elements_read w left c) (elements_read w right b) (elements_read w right c) (reads-alike left b c (on-left (λ k. occurs_in k left) (λ k. occurs_in k right) b c h))
        (reads-alike right b c (on-right (λ k. occurs_in k left) (λ k. occurs_in k right) b c h))
    reads-alike (Compare' op l (more_of-FlatExpr left end_of-FlatExpr) r (more_of-FlatExpr right end_of-FlatExpr)) b c h =
        append_alike (elements_read w left b) (elements_read w left c) (elements_read w right b) (elements_read w right c) (reads-alike left b c (on-left (λ k. occurs_in k left) (λ k. occurs_in k right) b c h))
        (reads-alike right b c (on-right (λ k. occurs_in k left) (λ k. occurs_in k right) b c h))
    reads-alike (Within' l (more_of-FlatExpr left end_of-FlatExpr) r (more_of-FlatExpr set end_of-FlatExpr)) b c h =
        append_alike (elements_read w left b) (elements_read w left c) (elements_read w set b) (elements_read w set c) (reads-alike left b c (on-left (λ k. occurs_in k left) (λ k. occurs_in k set) b c h))
        (reads-alike set b c (on-right (λ k. occurs_in k left) (λ k. occurs_in k set) b c h))
    reads-alike (Sum' f (more_of-FlatExpr head end_of-FlatExpr) shape more) b c h =
        append_alike (elements_read w head b) (elements_read w head c) (signed more b) (signed more c) (reads-alike head b c (on-left (λ k. occurs_in k head) (λ k. signed_read k more) b c h))
        (signed-alike more b c (on-right (λ k. occurs_in k head) (λ k. signed_read k more) b c h))
    reads-alike (Modulo' shape (more_of-FlatExpr e end_of-FlatExpr) by place) b c h = reads-alike e b c h
    reads-alike (Choose' t (more_of-FlatExpr cond end_of-FlatExpr) l (more_of-FlatExpr left end_of-FlatExpr) r (more_of-FlatExpr right end_of-FlatExpr)) b c h =
        let rest = on-right (λ k. occurs_in k cond) (λ k. occurs_in k left || occurs_in k right) b c h in
        append_alike (elements_read w cond b ++ elements_read w left b) (elements_read w cond c ++ elements_read w left c) (elements_read w right b) (elements_read w right c)
        (append_alike (elements_read w cond b) (elements_read w cond c) (elements_read w left b) (elements_read w left c) (reads-alike cond b c (on-left (λ k. occurs_in k cond) (λ k. occurs_in k left || occurs_in k right) b c h))
        (reads-alike left b c (on-left (λ k. occurs_in k left) (λ k. occurs_in k right) b c rest)))
        (reads-alike right b c (on-right (λ k. occurs_in k left) (λ k. occurs_in k right) b c rest))
    reads-alike (All' shape (more_of-FlatExpr body end_of-FlatExpr) var over place) b c h =
        flat_map_alike (λ p. elements_read w body (bind_place b var p)) (λ p. elements_read w body (bind_place c var p)) (named_in w over)
        (λ p. reads-alike body (bind_place b var p) (bind_place c var p) (agree_under (λ k. nat_lt k var && occurs_in k body) (λ k. occurs_in k body) b c var p (λ k l t. and_both (nat_lt-true k var l) t) h))
    reads-alike (Any' shape (more_of-FlatExpr body end_of-FlatExpr) var over place) b c h =
        flat_map_alike (λ p. elements_read w body (bind_place b var p)) (λ p. elements_read w body (bind_place c var p)) (named_in w over)
        (λ p. reads-alike body (bind_place b var p) (bind_place c var p) (agree_under (λ k. nat_lt k var && occurs_in k body) (λ k. occurs_in k body) b c var p (λ k l t. and_both (nat_lt-true k var l) t) h))
    reads-alike (List' shape members place) b c h = members-alike members b c h
    reads-alike (Each' var over cond place) b c h =
        flat_map_alike (λ p. held cond (bind_place b var p)) (λ p. held cond (bind_place c var p)) (named_in w over)
        (λ p. held-alike cond (bind_place b var p) (bind_place c var p) (agree_under (λ k. nat_lt k var && condition_reads k cond) (λ k. condition_reads k cond) b c var p (λ k l t. and_both (nat_lt-true k var l) t) h))

    each-alike : {m : _} (row : Row_of-FlatExpr m) (b c : List Place) → Agree (λ k. one_reads k row) b c → each row b ≡ each row c
    each-alike end_of-FlatExpr b c h = refl
    each-alike (more_of-FlatExpr e others) b c h =
        append_alike (elements_read w e b) (elements_read w e c) (each others b) (each others c) (reads-alike e b c (on-left (λ k. occurs_in k e) (λ k. one_reads k others) b c h))
        (each-alike others b c (on-right (λ k. occurs_in k e) (λ k. one_reads k others) b c h))

    signed-alike : {m : _} (row : Row_of-FlatSigned m) (b c : List Place) → Agree (λ k. signed_read k row) b c → signed row b ≡ signed row c
    signed-alike end_of-FlatSigned b c h = refl
    signed-alike (more_of-FlatSigned minus e others) b c h =
        append_alike (elements_read w e b) (elements_read w e c) (signed others b) (signed others c) (reads-alike e b c (on-left (λ k. occurs_in k e) (λ k. signed_read k others) b c h))
        (signed-alike others b c (on-right (λ k. occurs_in k e) (λ k. signed_read k others) b c h))

    members-alike : {m : _} (row : Row_of-FlatMember m) (b c : List Place) → Agree (λ k. members_read k row) b c → listed row b ≡ listed row c
    members-alike end_of-FlatMember b c h = refl
    members-alike (more_of-FlatMember (One e) others) b c h =
        append_alike (elements_read w e b) (elements_read w e c) (listed others b) (listed others c) (reads-alike e b c (on-left (λ k. occurs_in k e) (λ k. members_read k others) b c h))
        (members-alike others b c (on-right (λ k. occurs_in k e) (λ k. members_read k others) b c h))
    members-alike (more_of-FlatMember (SpanOf span place) others) b c h = members-alike others b c h

    held-alike : (cond : Held-FlatExpr-Each-2) (b c : List Place) → Agree (λ k. condition_reads k cond) b c → held cond b ≡ held cond c
    held-alike None' b c h = refl
    held-alike (Some' shape (more_of-FlatExpr cond end_of-FlatExpr)) b c h = reads-alike cond b c h

-- ---- one variable more

last-unread : {X : Type 0} (f : ℕ → Bool) (b : List X) (p q : X) → f (length b) ≡ false → Agree f (b ++ p ∷ []) (b ++ q ∷ [])
last-unread f [] p q e = (λ t. absurd (never (f zero) t e), tt)
  where
    never : (b : Bool) → b ≡ true → b ≡ false → ⊥
    never b t f = absurd (cc)
last-unread f (x ∷ b) p q e = (λ t. refl, last-unread (λ k. f (suc k)) b p q e)

agree-along : {X Y : Type 0} (g : X → Y) (f : ℕ → Bool) (b c : List X) → Agree f b c → Agree f (map g b) (map g c)
agree-along g f [] [] h = tt
agree-along g f [] (y ∷ c) h = absurd h
agree-along g f (x ∷ b) [] h = absurd h
agree-along g f (x ∷ b) (y ∷ c) h = (λ t. ap g (h.0 t), agree-along g (λ k. f (suc k)) b c h.1)

-- bindings that agree on what an expression reads
pub read-alike : (v : View) (e : FlatExpr) (b c : List Spot) → Agree (λ k. occurs k e) b c → read_in v b e ≡ read_in v c e
unfolding read_in occurs
read-alike v e b c h = ap (map written_element) (reads-alike (world_of v) e (places v b) (places v c) (agree-along (place_in v) (λ k. occurs_in k e) b c h))

-- an expression in which the last variable does not occur
pub unread : (v : View) (b : List Spot) (var : ℕ) (e : FlatExpr) → occurs (length (take var b)) e ≡ false → (p q : Spot) → read_in v (bind_spot b var q) e ≡ read_in v (bind_spot b var p) e
unfolding occurs
unread v b var e f p q = read-alike v e (bind_spot b var q) (bind_spot b var p) (last-unread (λ k. occurs_in k e) (take var b) q p f)
