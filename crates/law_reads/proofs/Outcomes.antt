-- What an expression may be is the same in states that tell the same of what it reads.
use Rattle.std.proofs.Common.{◌≡◌, ◌+◌, ◌-◌, List, [], ◌∷◌, ◌++◌, map, Some, None, refl, ap, ◌∙◌}
use Rattle.std.specs.List.{flat_map, slice_get}
use Rattle.smv_core.specs.Values.{Truth, number, add, modulo, numbers_from, not_of, iff_of, conjunction, disjunction, implication}
use Rattle.smv_core.specs.Outcome.{branch}
use Rattle.smv_core.specs.declared.flat.FlatMember.{One, Span as SpanOf}
use Rattle.smv_core.specs.declared.flat.FlatExpr.{FlatExpr, Number, Read', Var, Loop, Constant, Not', And', Or', Implies', Iff', Compare', Within', Sum', Modulo', Choose', All', Any', List', Each', Row_of-FlatExpr, end_of-FlatExpr, more_of-FlatExpr, Row_of-FlatMember, end_of-FlatMember, more_of-FlatMember, Row_of-FlatSigned, end_of-FlatSigned, more_of-FlatSigned}
use Rattle.law_obligations.specs.Sets.{Has, one_of_each, pairs}
use Rattle.law_obligations.specs.Places.{Place, World, named, named_in, rests_in, places_in, AbsOutcome, valued, as_place, equal_places, where_defined, may_compare, bind_place}
use Rattle.law_obligations.specs.May.{AbsState, Kept, seen, shown, quantified, may_read, may, may_each, may_sum, may_listed, may_members}
use Rattle.law_obligations.specs.Reads.{indexes_read, reads_each, reads_signed, reads_members}
use Rattle.law_obligations.specs.Cones.{AbsElement}
use Rattle.law_obligations.proofs.Members.{Has-left, Has-right, Has-flat_map}
use Rattle.law_obligations.proofs.CoverParams.{map-same}
use Rattle.law_obligations.specs.Pictures.{KeepsNamed}
use Rattle.law_reads.specs.Reading.{elements_given, TellSame, read_in}
use Rattle.law_reads.proofs.Lists.{flat_map_in}
use Rattle.law_reads.proofs.Indexes.{read_same}

pub both_same : {X Y Z : Type 0} (f : X → Y → Z) (u v : X) (x y : Y) → u ≡ v → x ≡ y → f u x ≡ f v y
both_same f u v x y d e = ap (λ z. f z x) d ∙ ap (f v) e

module _ (w : World) (kept other : Kept) (a d : AbsState) (keeps : KeepsNamed w kept) (keeps_other : KeepsNamed w other) where
  abbrev pub Same : List AbsElement → Type 0
  Same xs = TellSame kept a other d xs

  pub same_left : (xs ys : List AbsElement) → Same (xs ++ ys) → Same xs
  same_left xs ys h x k = h x (Has-left ys k)

  pub same_right : (xs ys : List AbsElement) → Same (xs ++ ys) → Same ys
  same_right xs ys h x k = h x (Has-right xs k)

  pub same_at : {X : Type 0} (f : X → List AbsElement) (xs : List X) → Same (flat_map f xs) → (p : X) → Has xs p → Same (f p)
  same_at f xs h p k x l = h x (Has-flat_map f k l)

  abbrev each : {m : _} → Row_of-FlatExpr m → List Place → List AbsElement
  each row b = reads_each (places_in w) (elements_given w) row b

  abbrev signed : {m : _} → Row_of-FlatSigned m → List Place → List AbsElement
  signed row b = reads_signed (places_in w) (elements_given w) row b

  abbrev pub members : {m : _} → Row_of-FlatMember m → List Place → List AbsElement
  members row b = reads_members (places_in w) (elements_given w) row b

  -- a quantifier, by what its body may be at each place of the type
  quantified_same : (join : List Truth → Truth) (f g : Place → List AbsOutcome) (ps rs : List Place) → ((p : Place) → Has (ps ++ rs) p → f p ≡ g p) → quantified join (map f ps) (flat_map f rs) ≡ quantified join (map g ps) (flat_map g rs)
  quantified_same join f g ps rs h =
      ap (λ xss. quantified join xss (flat_map f rs)) (map-same f g ps (λ p k. h p (Has-left rs k))) ∙ ap (quantified join (map g ps)) (flat_map_in f g rs (λ p k. h p (Has-right ps k)))

  mutual
    pub may_same : (e : FlatExpr) (b : List Place) → Same (read_in w e b) → may w kept a e b ≡ may w other d e b
    may_same (Number value place) b h = refl
    may_same (Read' family shape indexes place) b h =
        flat_map_in (may_read w kept a family (slice_get w.classes.families family)) (may_read w other d family (slice_get w.classes.families family)) (one_of_each (may_each w kept a indexes b))
        (λ us k. read_same w kept other a d keeps keeps_other family indexes b us k (same_left (elements_given w family (indexes_read indexes) b) (each indexes b) h))
        ∙ ap (λ uss. flat_map (may_read w other d family (slice_get w.classes.families family)) (one_of_each uss)) (each_same indexes b (same_right (elements_given w family (indexes_read indexes) b) (each indexes b) h))
    may_same (Var var place) b h = refl
    may_same (Loop value place) b h = refl
    may_same (Constant list value place) b h = refl
    may_same (Not' shape (more_of-FlatExpr e end_of-FlatExpr) place) b h = ap (map (λ u. shown (not_of (seen u)))) (may_same e b h)
    may_same (And' shape parts) b h = ap (λ uss. map (λ us. shown (conjunction (map seen us))) (one_of_each uss)) (each_same parts b h)
    may_same (Or' shape parts) b h = ap (λ uss. map (λ us. shown (disjunction (map seen us))) (one_of_each uss)) (each_same parts b h)
    may_same (Implies' shape parts) b h = ap (λ uss. map (λ us. shown (implication (map seen us))) (one_of_each uss)) (each_same parts b h)
    may_same (Iff' l (more_of-FlatExpr left end_of-FlatExpr) r (more_of-FlatExpr right end_of-FlatExpr)) b h =
        both_same (λ us vs. pairs (λ u v. shown (iff_of (seen u) (seen v)) ∷ []) us vs) (may w kept a left b) (may w other d left b) (may w kept a right b) (may w other d right b)
        (may_same left b (same_left (read_in w left b) (read_in w right b) h)) (may_same right b (same_right (read_in w left b) (read_in w right b) h))
    may_same (Compare' op l (more_of-FlatExpr left end_of-FlatExpr) r (more_of-FlatExpr right end_of-FlatExpr)) b h =
        both_same (λ us vs. pairs (λ u v. map shown (may_compare op u v)) us vs) (may w kept a left b) (may w other d left b) (may w kept a right b) (may w other d right b)
        (may_same left b (same_left (read_in w left b) (read_in w right b) h)) (may_same right b (same_right (read_in w left b) (read_in w right b) h))
    may_same (Within' l (more_of-FlatExpr left end_of-FlatExpr) r (more_of-FlatExpr set end_of-FlatExpr)) b h =
        both_same (λ us vss. pairs (λ u vs. map (λ ts. shown (disjunction ts)) (one_of_each (map (where_defined equal_places u) vs))) us (one_of_each vss)) (may w kept a left b) (may w other d left b) (may_listed w kept a set b) (may_listed w other d set b)
        (may_same left b (same_left (read_in w left b) (read_in w set b) h)) (listed_same set b (same_right (read_in w left b) (read_in w set b) h))
    may_same (Sum' f (more_of-FlatExpr head end_of-FlatExpr) shape more) b h =
        ap (λ us. may_sum w kept a more us b) (may_same head b (same_left (read_in w head b) (signed more b) h)) ∙ sum_same more (may w other d head b) b (same_right (read_in w head b) (signed more b) h)
    may_same (Modulo' shape (more_of-FlatExpr e end_of-FlatExpr) by place) b h = ap (map (λ u. as_place (modulo (valued u) by))) (may_same e b h)
    may_same (Choose' t (more_of-FlatExpr test end_of-FlatExpr) l (more_of-FlatExpr left end_of-FlatExpr) r (more_of-FlatExpr right end_of-FlatExpr)) b h =
        let front = same_left (read_in w test b ++ read_in w left b) (read_in w right b) h in
        ap (λ us. flat_map (λ u. branch (None ∷ []) (seen u) (may w kept a left b) (may w kept a right b)) us) (may_same test b (same_left (read_in w test b) (read_in w left b) front))
        ∙ both_same (λ us vs. flat_map (λ u. branch (None ∷ []) (seen u) us vs) (may w other d test b)) (may w kept a left b) (may w other d left b) (may w kept a right b) (may w other d right b)
        (may_same left b (same_right (read_in w test b) (read_in w left b) front)) (may_same right b (same_right (read_in w test b ++ read_in w left b) (read_in w right b) h))
    may_same (All' shape (more_of-FlatExpr body end_of-FlatExpr) var over place) b h =
        quantified_same conjunction (λ p. may w kept a body (bind_place b var p)) (λ p. may w other d body (bind_place b var p)) (named_in w over) (rests_in w over)
        (λ p k. may_same body (bind_place b var p) (same_at (λ p. read_in w body (bind_place b var p)) (places_in w over) h p k))
    may_same (Any' shape (more_of-FlatExpr body end_of-FlatExpr) var over place) b h =
        quantified_same disjunction (λ p. may w kept a body (bind_place b var p)) (λ p. may w other d body (bind_place b var p)) (named_in w over) (rests_in w over)
        (λ p k. may_same body (bind_place b var p) (same_at (λ p. read_in w body (bind_place b var p)) (places_in w over) h p k))
    may_same (List' shape list place) b h = refl
    may_same (Each' var over test place) b h = refl

    each_same : {m : _} (row : Row_of-FlatExpr m) (b : List Place) → Same (each row b) → may_each w kept a row b ≡ may_each w other d row b
    each_same end_of-FlatExpr b h = refl
    each_same (more_of-FlatExpr e others) b h =
        both_same (λ us uss. us ∷ uss) (may w kept a e b) (may w other d e b) (may_each w kept a others b) (may_each w other d others b)
        (may_same e b (same_left (read_in w e b) (each others b) h)) (each_same others b (same_right (read_in w e b) (each others b) h))

    sum_same : {m : _} (row : Row_of-FlatSigned m) (us : List AbsOutcome) (b : List Place) → Same (signed row b) → may_sum w kept a row us b ≡ may_sum w other d row us b
    sum_same end_of-FlatSigned us b h = refl
    sum_same (more_of-FlatSigned minus e others) us b h =
        ap (λ vs. may_sum w kept a others (pairs (λ u v. as_place (add minus (valued u) (valued v)) ∷ []) us vs) b) (may_same e b (same_left (read_in w e b) (signed others b) h))
        ∙ sum_same others (pairs (λ u v. as_place (add minus (valued u) (valued v)) ∷ []) us (may w other d e b)) b (same_right (read_in w e b) (signed others b) h)

    listed_same : (e : FlatExpr) (b : List Place) → Same (read_in w e b) → may_listed w kept a e b ≡ may_listed w other d e b
    listed_same (List' shape list place) b h = members_same list b h
    listed_same _ b h = refl

    pub members_same : {m : _} (row : Row_of-FlatMember m) (b : List Place) → Same (members row b) → may_members w kept a row b ≡ may_members w other d row b
    members_same end_of-FlatMember b h = refl
    members_same (more_of-FlatMember (One e) others) b h =
        both_same (λ us uss. us ∷ uss) (may w kept a e b) (may w other d e b) (may_members w kept a others b) (may_members w other d others b)
        (may_same e b (same_left (read_in w e b) (members others b) h)) (members_same others b (same_right (read_in w e b) (members others b) h))
    members_same (more_of-FlatMember (SpanOf span place) others) b h =
        ap (λ uss. map (λ k. Some (named (number k)) ∷ []) (numbers_from span.low (span.high + 1 - span.low)) ++ uss) (members_same others b h)
