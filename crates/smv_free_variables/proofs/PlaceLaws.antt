-- What an expression may be and what it reads depend on no place in the text.
use Rattle.std.proofs.Common.{◌≡◌, ◌+◌, ◌-◌, List, [], ◌∷◌, ◌++◌, map, Some, None, refl, ap, sym, ◌∙◌}
use Rattle.std.specs.List.{slice_get, flat_map}
use Rattle.law_lists.proofs.Lists.{map_agree, flat_map_agree, append_alike}
use Rattle.smv_core.specs.Values.{Truth, number, add, modulo, numbers_from, not_of, iff_of, conjunction, disjunction, implication}
use Rattle.smv_core.specs.Outcome.{branch}
use Rattle.smv_core.specs.Assignments.{Index, add_fixed, modulo_fixed}
use Rattle.smv_core.specs.FlatMeaning.{flat_index, flat_index_sum}
use Rattle.smv_core.specs.declared.flat.FlatMember.{One, Span as SpanOf}
use Rattle.smv_core.specs.declared.flat.FlatExpr.{FlatExpr, Number, Read', Var, Loop, Constant, Not', And', Or', Implies', Iff', Compare', Within', Sum', Modulo', Choose', All', Any', List', Each', Held-FlatExpr-Each-2, None', Some', Row_of-FlatExpr, end_of-FlatExpr, more_of-FlatExpr, Row_of-FlatMember, end_of-FlatMember, more_of-FlatMember, Row_of-FlatSigned, end_of-FlatSigned, more_of-FlatSigned}
use Rattle.law_obligations.specs.Sets.{one_of_each, pairs}
use Rattle.law_obligations.specs.Places.{Place, World, named, named_in, rests_in, AbsOutcome, valued, as_place, equal_places, where_defined, may_compare, bind_place}
use Rattle.law_obligations.specs.May.{AbsState, Kept, seen, shown, quantified, may_read, may, may_each, may_sum, may_listed, may_members}
use Rattle.law_obligations.specs.Reads.{indexes_read, reads_each, reads_signed, reads_members, reads_held}
use Rattle.law_obligations.specs.Cones.{AbsElement, elements_at, elements_read}
use Rattle.smv_free_variables.specs.Placeless.{placeless, placeless_each, placeless_signed, placeless_members, placeless_condition}

both_alike : {X Y Z : Type 0} (f : X → Y → Z) (u v : X) (x y : Y) → u ≡ v → x ≡ y → f u x ≡ f v y
both_alike f u v x y d e = ap (λ z. f z x) d ∙ ap (f v) e

-- ---- what it may be

module _ (w : World) (kept : Kept) (a : AbsState) where
  quantified_alike : (join : List Truth → Truth) (f g : Place → List AbsOutcome) (ps rs : List Place) → ((p : Place) → f p ≡ g p) → quantified join (map f ps) (flat_map f rs) ≡ quantified join (map g ps) (flat_map g rs)
  quantified_alike join f g ps rs h = ap (λ xss. quantified join xss (flat_map f rs)) (map_agree f g h ps) ∙ ap (quantified join (map g ps)) (flat_map_agree f g h rs)

  mutual
    unfolding placeless

    pub may_placeless : (e : FlatExpr) (b : List Place) → may w kept a (placeless e) b ≡ may w kept a e b
    may_placeless (Number value place) b = refl
    may_placeless (Read' family shape indexes place) b = ap (λ uss. flat_map (may_read w kept a family (slice_get w.classes.families family)) (one_of_each uss)) (each_placeless indexes b)
    may_placeless (Var var place) b = refl
    may_placeless (Loop value place) b = refl
    may_placeless (Constant list value place) b = refl
    may_placeless (Not' shape (more_of-FlatExpr e end_of-FlatExpr) place) b = ap (map (λ u. shown (not_of (seen u)))) (may_placeless e b)
    may_placeless (And' shape parts) b = ap (λ uss. map (λ us. shown (conjunction (map seen us))) (one_of_each uss)) (each_placeless parts b)
    may_placeless (Or' shape parts) b = ap (λ uss. map (λ us. shown (disjunction (map seen us))) (one_of_each uss)) (each_placeless parts b)
    may_placeless (Implies' shape parts) b = ap (λ uss. map (λ us. shown (implication (map seen us))) (one_of_each uss)) (each_placeless parts b)
    may_placeless (Iff' l (more_of-FlatExpr left end_of-FlatExpr) r (more_of-FlatExpr right end_of-FlatExpr)) b =
        both_alike (λ us vs. pairs (λ u v. shown (iff_of (seen u) (seen v)) ∷ []) us vs) (may w kept a (placeless left) b) (may w kept a left b) (may w kept a (placeless right) b) (may w kept a right b) (may_placeless left b) (may_placeless right b)
    may_placeless (Compare' op l (more_of-FlatExpr left end_of-FlatExpr) r (more_of-FlatExpr right end_of-FlatExpr)) b =
        both_alike (λ us vs. pairs (λ u v. map shown (may_compare op u v)) us vs) (may w kept a (placeless left) b) (may w kept a left b) (may w kept a (placeless right) b) (may w kept a right b) (may_placeless left b) (may_placeless right b)
    may_placeless (Within' l (more_of-FlatExpr left end_of-FlatExpr) r (more_of-FlatExpr set end_of-FlatExpr)) b =
        both_alike (λ us vss. pairs (λ u vs. map (λ ts. shown (disjunction ts)) (one_of_each (map (where_defined equal_places u) vs))) us (one_of_each vss)) (may w kept a (placeless left) b) (may w kept a left b) (may_listed w kept a (placeless set) b) (may_listed w kept a set b) (may_placeless left b) (listed_placeless set b)
    may_placeless (Sum' f (more_of-FlatExpr head end_of-FlatExpr) shape more) b =
        ap (λ us. may_sum w kept a (placeless_signed more) us b) (may_placeless head b) ∙ sum_placeless more (may w kept a head b) b
    may_placeless (Modulo' shape (more_of-FlatExpr e end_of-FlatExpr) by place) b = ap (map (λ u. as_place (modulo (valued u) by))) (may_placeless e b)
    may_placeless (Choose' t (more_of-FlatExpr test end_of-FlatExpr) l (more_of-FlatExpr left end_of-FlatExpr) r (more_of-FlatExpr right end_of-FlatExpr)) b =
        ap (λ us. flat_map (λ u. branch (None ∷ []) (seen u) (may w kept a (placeless left) b) (may w kept a (placeless right) b)) us) (may_placeless test b)
        ∙ both_alike (λ us vs. flat_map (λ u. branch (None ∷ []) (seen u) us vs) (may w kept a test b)) (may w kept a (placeless left) b) (may w kept a left b) (may w kept a (placeless right) b) (may w kept a right b) (may_placeless left b) (may_placeless right b)
    may_placeless (All' shape (more_of-FlatExpr body end_of-FlatExpr) var over place) b =
        quantified_alike conjunction (λ p. may w kept a (placeless body) (bind_place b var p)) (λ p. may w kept a body (bind_place b var p)) (named_in w over) (rests_in w over) (λ p. may_placeless body (bind_place b var p))
    may_placeless (Any' shape (more_of-FlatExpr body end_of-FlatExpr) var over place) b =
        quantified_alike disjunction (λ p. may w kept a (placeless body) (bind_place b var p)) (λ p. may w kept a body (bind_place b var p)) (named_in w over) (rests_in w over) (λ p. may_placeless body (bind_place b var p))
    may_placeless (List' shape members place) b = refl
    may_placeless (Each' var over test place) b = refl

    each_placeless : {m : _} (row : Row_of-FlatExpr m) (b : List Place) → may_each w kept a (placeless_each row) b ≡ may_each w kept a row b
    each_placeless end_of-FlatExpr b = refl
    each_placeless (more_of-FlatExpr e others) b =
        both_alike (λ us uss. us ∷ uss) (may w kept a (placeless e) b) (may w kept a e b) (may_each w kept a (placeless_each others) b) (may_each w kept a others b) (may_placeless e b) (each_placeless others b)

    sum_placeless : {m : _} (row : Row_of-FlatSigned m) (us : List AbsOutcome) (b : List Place) → may_sum w kept a (placeless_signed row) us b ≡ may_sum w kept a row us b
    sum_placeless end_of-FlatSigned us b = refl
    sum_placeless (more_of-FlatSigned minus e others) us b =
        ap (λ vs. may_sum w kept a (placeless_signed others) (pairs (λ u v. as_place (add minus (valued u) (valued v)) ∷ []) us vs) b) (may_placeless e b)
        ∙ sum_placeless others (pairs (λ u v. as_place (add minus (valued u) (valued v)) ∷ []) us (may w kept a e b)) b

    listed_placeless : (e : FlatExpr) (b : List Place) → may_listed w kept a (placeless e) b ≡ may_listed w kept a e b
    listed_placeless (List' shape members place) b = members_placeless members b
    listed_placeless _ b = refl

    members_placeless : {m : _} (row : Row_of-FlatMember m) (b : List Place) → may_members w kept a (placeless_members row) b ≡ may_members w kept a row b
    members_placeless end_of-FlatMember b = refl
    members_placeless (more_of-FlatMember (One e) others) b =
        both_alike (λ us uss. us ∷ uss) (may w kept a (placeless e) b) (may w kept a e b) (may_members w kept a (placeless_members others) b) (may_members w kept a others b) (may_placeless e b) (members_placeless others b)
    members_placeless (more_of-FlatMember (SpanOf span place) others) b =
        ap (λ uss. map (λ k. Some (named (number k)) ∷ []) (numbers_from span.low (span.high + 1 - span.low)) ++ uss) (members_placeless others b)

  pub may_same : (d e : FlatExpr) (b : List Place) → placeless d ≡ placeless e → may w kept a d b ≡ may w kept a e b
  may_same d e b same = sym (may_placeless d b) ∙ (ap (λ x. may w kept a x b) same ∙ may_placeless e b)

-- ---- what it reads

mutual
  unfolding placeless

  index_placeless : (e : FlatExpr) → flat_index (placeless e) ≡ flat_index e
  index_placeless (Sum' f (more_of-FlatExpr head end_of-FlatExpr) shape more) = ap (λ i. flat_index_sum i (placeless_signed more)) (index_placeless head) ∙ index_sum_placeless more (flat_index head)
  index_placeless (Modulo' shape (more_of-FlatExpr e end_of-FlatExpr) by place) = ap (λ i. modulo_fixed i by) (index_placeless e)
  index_placeless _ = refl

  index_sum_placeless : {m : _} (row : Row_of-FlatSigned m) (i : Index) → flat_index_sum i (placeless_signed row) ≡ flat_index_sum i row
  index_sum_placeless end_of-FlatSigned i = refl
  index_sum_placeless (more_of-FlatSigned minus e others) i = ap (λ j. flat_index_sum (add_fixed minus i j) (placeless_signed others)) (index_placeless e) ∙ index_sum_placeless others (add_fixed minus i (flat_index e))

indexes_placeless : {m : _} (row : Row_of-FlatExpr m) → indexes_read (placeless_each row) ≡ indexes_read row
unfolding placeless
indexes_placeless end_of-FlatExpr = refl
indexes_placeless (more_of-FlatExpr e others) = both_alike (λ i l. i ∷ l) (flat_index (placeless e)) (flat_index e) (indexes_read (placeless_each others)) (indexes_read others) (index_placeless e) (indexes_placeless others)

module _ (w : World) where
  abbrev each : {m : _} → Row_of-FlatExpr m → List Place → List AbsElement
  each row b = reads_each (named_in w) (elements_at w) row b

  abbrev signed : {m : _} → Row_of-FlatSigned m → List Place → List AbsElement
  signed row b = reads_signed (named_in w) (elements_at w) row b

  abbrev listed : {m : _} → Row_of-FlatMember m → List Place → List AbsElement
  listed row b = reads_members (named_in w) (elements_at w) row b

  abbrev held : Held-FlatExpr-Each-2 → List Place → List AbsElement
  held cond b = reads_held (named_in w) (elements_at w) cond b

  mutual
    unfolding placeless

    pub elements_placeless : (e : FlatExpr) (b : List Place) → elements_read w (placeless e) b ≡ elements_read w e b
    elements_placeless (Number value place) b = refl
    elements_placeless (Read' family shape indexes place) b =
        append_alike (elements_at w family (indexes_read (placeless_each indexes)) b) (elements_at w family (indexes_read indexes) b) (each (placeless_each indexes) b) (each indexes b) (ap (λ l. elements_at w family l b) (indexes_placeless indexes)) (each_read indexes b)
    elements_placeless (Var var place) b = refl
    elements_placeless (Loop value place) b = refl
    elements_placeless (Constant list value place) b = refl
    elements_placeless (Not' shape (more_of-FlatExpr e end_of-FlatExpr) place) b = elements_placeless e b
    elements_placeless (And' shape parts) b = each_read parts b
    elements_placeless (Or' shape parts) b = each_read parts b
    elements_placeless (Implies' shape parts) b = each_read parts b
    elements_placeless (Iff' l (more_of-FlatExpr left end_of-FlatExpr) r (more_of-FlatExpr right end_of-FlatExpr)) b =
        append_alike (elements_read w (placeless left) b) (elements_read w left b) (elements_read w (placeless right) b) (elements_read w right b) (elements_placeless left b) (elements_placeless right b)
    elements_placeless (Compare' op l (more_of-FlatExpr left end_of-FlatExpr) r (more_of-FlatExpr right end_of-FlatExpr)) b =
        append_alike (elements_read w (placeless left) b) (elements_read w left b) (elements_read w (placeless right) b) (elements_read w right b) (elements_placeless left b) (elements_placeless right b)
    elements_placeless (Within' l (more_of-FlatExpr left end_of-FlatExpr) r (more_of-FlatExpr set end_of-FlatExpr)) b =
        append_alike (elements_read w (placeless left) b) (elements_read w left b) (elements_read w (placeless set) b) (elements_read w set b) (elements_placeless left b) (elements_placeless set b)
    elements_placeless (Sum' f (more_of-FlatExpr head end_of-FlatExpr) shape more) b =
        append_alike (elements_read w (placeless head) b) (elements_read w head b) (signed (placeless_signed more) b) (signed more b) (elements_placeless head b) (signed_read more b)
    elements_placeless (Modulo' shape (more_of-FlatExpr e end_of-FlatExpr) by place) b = elements_placeless e b
    elements_placeless (Choose' t (more_of-FlatExpr cond end_of-FlatExpr) l (more_of-FlatExpr left end_of-FlatExpr) r (more_of-FlatExpr right end_of-FlatExpr)) b =
        append_alike (elements_read w (placeless cond) b ++ elements_read w (placeless left) b) (elements_read w cond b ++ elements_read w left b) (elements_read w (placeless right) b) (elements_read w right b)
        (append_alike (elements_read w (placeless cond) b) (elements_read w cond b) (elements_read w (placeless left) b) (elements_read w left b) (elements_placeless cond b) (elements_placeless left b))
        (elements_placeless right b)
    elements_placeless (All' shape (more_of-FlatExpr body end_of-FlatExpr) var over place) b =
        flat_map_agree (λ p. elements_read w (placeless body) (bind_place b var p)) (λ p. elements_read w body (bind_place b var p)) (λ p. elements_placeless body (bind_place b var p)) (named_in w over)
    elements_placeless (Any' shape (more_of-FlatExpr body end_of-FlatExpr) var over place) b =
        flat_map_agree (λ p. elements_read w (placeless body) (bind_place b var p)) (λ p. elements_read w body (bind_place b var p)) (λ p. elements_placeless body (bind_place b var p)) (named_in w over)
    elements_placeless (List' shape members place) b = members_read members b
    elements_placeless (Each' var over cond place) b =
        flat_map_agree (λ p. held (placeless_condition cond) (bind_place b var p)) (λ p. held cond (bind_place b var p)) (λ p. held_read cond (bind_place b var p)) (named_in w over)

    each_read : {m : _} (row : Row_of-FlatExpr m) (b : List Place) → each (placeless_each row) b ≡ each row b
    each_read end_of-FlatExpr b = refl
    each_read (more_of-FlatExpr e others) b =
        append_alike (elements_read w (placeless e) b) (elements_read w e b) (each (placeless_each others) b) (each others b) (elements_placeless e b) (each_read others b)

    signed_read : {m : _} (row : Row_of-FlatSigned m) (b : List Place) → signed (placeless_signed row) b ≡ signed row b
    signed_read end_of-FlatSigned b = refl
    signed_read (more_of-FlatSigned minus e others) b =
        append_alike (elements_read w (placeless e) b) (elements_read w e b) (signed (placeless_signed others) b) (signed others b) (elements_placeless e b) (signed_read others b)

    members_read : {m : _} (row : Row_of-FlatMember m) (b : List Place) → listed (placeless_members row) b ≡ listed row b
    members_read end_of-FlatMember b = refl
    members_read (more_of-FlatMember (One e) others) b =
        append_alike (elements_read w (placeless e) b) (elements_read w e b) (listed (placeless_members others) b) (listed others b) (elements_placeless e b) (members_read others b)
    members_read (more_of-FlatMember (SpanOf span place) others) b = members_read others b

    held_read : (cond : Held-FlatExpr-Each-2) (b : List Place) → held (placeless_condition cond) b ≡ held cond b
    held_read None' b = refl
    held_read (Some' shape (more_of-FlatExpr cond end_of-FlatExpr)) b = elements_placeless cond b

  pub elements_same : (d e : FlatExpr) (b : List Place) → placeless d ≡ placeless e → elements_read w d b ≡ elements_read w e b
  elements_same d e b same = sym (elements_placeless d b) ∙ (ap (λ x. elements_read w x b) same ∙ elements_placeless e b)
