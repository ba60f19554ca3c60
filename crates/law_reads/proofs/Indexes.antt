-- What the text tells of an index is its only outcome, and the elements that a reference reads are all that it may be of.
use Rattle.std.proofs.Common.{◌≡◌, ℕ, List, [], ◌∷◌, map, Bool, true, false, cond, refl, sym, ap, subst, ◌∙◌, Option, Some, None, if◌then◌else◌}
use Rattle.std.specs.Prelude.{option_map}
use Rattle.std.specs.List.{slice_get, zip}
use Rattle.law_lists.proofs.Options.{some_is}
use Rattle.smv_core.specs.Values.{Outcome, add, modulo}
use Rattle.smv_core.specs.Assignments.{Index, fixed, bare, computed, add_fixed, modulo_fixed}
use Rattle.smv_core.specs.FlatMeaning.{flat_index, flat_index_sum}
use Rattle.smv_core.specs.declared.flat.Simple.{Simple}
use Rattle.smv_core.specs.declared.flat.Family.{Family}
use Rattle.smv_core.specs.declared.flat.FlatExpr.{FlatExpr, Number, Var, Loop, Sum', Modulo', Row_of-FlatExpr, end_of-FlatExpr, more_of-FlatExpr, Row_of-FlatSigned, end_of-FlatSigned, more_of-FlatSigned}
use Rattle.law_obligations.specs.Sets.{Has, one_of_each, pairs, all_there}
use Rattle.law_obligations.specs.Places.{Place, named, same_place, is_among, World, named_in, places_in, AbsOutcome, valued, as_place}
use Rattle.law_obligations.specs.May.{AbsState, Kept, place_within, places_at, may_read, may, may_each, may_sum}
use Rattle.law_obligations.specs.Reads.{indexes_read, is_bound_to}
use Rattle.law_obligations.specs.ReadOutcomes.{within_all}
use Rattle.law_obligations.specs.Cones.{element, index_places}
use Rattle.law_obligations.proofs.Same.{same_place-itself}
use Rattle.law_obligations.proofs.Members.{Has-map, one_of_one}
use Rattle.law_obligations.proofs.Lookups.{Has-filter}
use Rattle.law_obligations.proofs.OneOfEach.{AreOf, are_of, one_of}
use Rattle.law_obligations.specs.Pictures.{AreNamedOf, KeepsNamed}
use Rattle.law_reads.specs.Reading.{each_given, elements_given_in, elements_given, told, TellSame}

-- ---- what is known of an index

abbrev pub OutcomeIs : List Place → Index → List AbsOutcome → Type 0
OutcomeIs b (fixed u) us = us ≡ as_place u ∷ []
OutcomeIs b (bare var) us = us ≡ slice_get b var ∷ []
OutcomeIs b computed us = Unit {0}

as_it_was : (u : Outcome) → valued (as_place u) ≡ u
as_it_was None = refl
as_it_was (Some v) = refl

added : (minus : Bool) (i j : Index) (us vs : List AbsOutcome) (b : List Place) → OutcomeIs b i us → OutcomeIs b j vs →
    OutcomeIs b (add_fixed minus i j) (pairs (λ u v. as_place (add minus (valued u) (valued v)) ∷ []) us vs)
added minus (fixed u) (fixed v) us vs b h k =
    ap (λ us. pairs (λ u v. as_place (add minus (valued u) (valued v)) ∷ []) us vs) h
    ∙ (ap (pairs (λ u v. as_place (add minus (valued u) (valued v)) ∷ []) (as_place u ∷ [])) k
    ∙ (ap (λ x. as_place (add minus x (valued (as_place v))) ∷ []) (as_it_was u) ∙ ap (λ x. as_place (add minus u x) ∷ []) (as_it_was v)))
added minus (fixed u) (bare var) us vs b h k = tt
added minus (fixed u) computed us vs b h k = tt
added minus (bare var) j us vs b h k = tt
added minus computed j us vs b h k = tt

remainder : (i : Index) (us : List AbsOutcome) (b : List Place) (by : ℕ) → OutcomeIs b i us → OutcomeIs b (modulo_fixed i by) (map (λ u. as_place (modulo (valued u) by)) us)
remainder (fixed u) us b by h = ap (map (λ u. as_place (modulo (valued u) by))) h ∙ ap (λ x. as_place (modulo x by) ∷ []) (as_it_was u)
remainder (bare var) us b by h = tt
remainder computed us b by h = tt

module _ (w : World) (kept : Kept) (a : AbsState) where
  mutual
    pub index_is : (e : FlatExpr) (b : List Place) → OutcomeIs b (flat_index e) (may w kept a e b)
    index_is (Number value place) b = refl
    index_is (Loop value place) b = refl
    index_is (Var var place) b = refl
    index_is (Sum' f (more_of-FlatExpr head end_of-FlatExpr) shape more) b = sum_is more (flat_index head) (may w kept a head b) b (index_is head b)
    index_is (Modulo' shape (more_of-FlatExpr e end_of-FlatExpr) by place) b = remainder (flat_index e) (may w kept a e b) b by (index_is e b)
    index_is _ b = tt

    sum_is : {m : _} (row : Row_of-FlatSigned m) (i : Index) (us : List AbsOutcome) (b : List Place) → OutcomeIs b i us → OutcomeIs b (flat_index_sum i row) (may_sum w kept a row us b)
    sum_is end_of-FlatSigned i us b h = h
    sum_is (more_of-FlatSigned minus e others) i us b h =
        sum_is others (add_fixed minus i (flat_index e)) (pairs (λ u v. as_place (add minus (valued u) (valued v)) ∷ []) us (may w kept a e b)) b
        (added minus i (flat_index e) us (may w kept a e b) b h (index_is e b))

-- ---- which elements a reference may be of

is_within : (places : List Place) (u : AbsOutcome) (p : Place) → place_within places u ≡ Some p → u ≡ Some p
is_within places None p e = absurd (cc)
is_within places (Some q) p e = at (is_among places q) e
  where
    at : (t : Bool) → cond t (Some q) None ≡ Some p → Some q ≡ Some p
    at true e = e
    at false e = absurd (cc)

pub record AreFirst (o : AbsOutcome) (os : List AbsOutcome) (ps : List Place) : Type 0 where
  pub head : Place
  pub rest : List Place
  pub head_is : o ≡ Some head
  pub rest_is : all_there os ≡ Some rest
  pub both : ps ≡ head ∷ rest

are_first : (o : AbsOutcome) (os : List AbsOutcome) (ps : List Place) → all_there (o ∷ os) ≡ Some ps → AreFirst o os ps
are_first None os ps e = absurd (cc)
are_first (Some p) os ps e = at (all_there os) refl e
  where
    at : (r : Option (List Place)) → all_there os ≡ r → option_map (λ xs. p ∷ xs) r ≡ Some ps → AreFirst (Some p) os ps
    at None k e = absurd (cc)
    at (Some qs) k e = record { head = p; rest = qs; head_is = refl; rest_is = k; both = sym (some_is e) }

in_places : (w : World) (kept : Kept) (a : AbsState) (e : FlatExpr) (b ps : List Place) (u : AbsOutcome) (p : Place) → Has (may w kept a e b) u → u ≡ Some p → Has ps p → Has (index_places b (flat_index e) ps) p
in_places w kept a e b ps u p h is k = at (flat_index e) (index_is w kept a e b)
  where
    at : (i : Index) → OutcomeIs b i (may w kept a e b) → Has (index_places b i ps) p
    at (fixed None) o = absurd (none_is (sym is ∙ one_of_one (subst (λ us. Has us u) o h)))
      where
        none_is : Some p ≡ None → ⊥
        none_is e = cc
    at (fixed (Some v)) o =
        let same : p ≡ named v = some_is (sym is ∙ one_of_one (subst (λ us. Has us u) o h)) in
        Has-filter (same_place (named v)) k (subst (λ q. same_place (named v) q ≡ true) (sym same) (same_place-itself (named v)))
    at (bare var) o =
        let same : slice_get b var ≡ Some p = sym (one_of_one (subst (λ us. Has us u) o h)) ∙ is in
        Has-filter (is_bound_to (slice_get b var)) k (subst (λ x. is_bound_to x p ≡ true) (sym same) (same_place-itself p))
    at computed o = k

module _ (w : World) (kept : Kept) (a : AbsState) where
  chosen : {m : _} (row : Row_of-FlatExpr m) (b : List Place) (over : List Simple) (us : List AbsOutcome) (ps : List Place) → AreOf (may_each w kept a row b) us → within_all w over us ≡ Some ps → AreNamedOf w over ps →
      AreOf (each_given b (indexes_read row) (map (named_in w) over)) ps
  chosen end_of-FlatExpr b [] [] ps h e n = subst (AreOf []) (some_is e) tt
  chosen end_of-FlatExpr b [] (u ∷ us) ps h e n = absurd h
  chosen end_of-FlatExpr b (t ∷ over) [] ps h e n = subst (AreOf []) (some_is e) tt
  chosen end_of-FlatExpr b (t ∷ over) (u ∷ us) ps h e n = absurd h
  chosen (more_of-FlatExpr x others) b [] us ps h e n = subst (AreOf []) (some_is e) tt
  chosen (more_of-FlatExpr x others) b (t ∷ over) [] ps h e n = absurd h
  chosen (more_of-FlatExpr x others) b (t ∷ over) (u ∷ us) ps h e n =
      let r = are_first (place_within (places_in w t) u) (map (λ (t, u). place_within (places_in w t) u) (zip over us)) ps e in
      let all : AreNamedOf w (t ∷ over) (r.head ∷ r.rest) = subst (AreNamedOf w (t ∷ over)) r.both n in
      subst (AreOf (each_given b (flat_index x ∷ indexes_read others) (map (named_in w) (t ∷ over)))) (sym r.both)
      (in_places w kept a x b (named_in w t) u r.head h.0 (is_within (places_in w t) u r.head r.head_is) all.0, chosen others b over us r.rest h.1 r.rest_is all.1)

  -- an element that a reference finds, where its indexes are numbers and classes, is one that it reads
  found : {m : _} (family : ℕ) (f : Family) (row : Row_of-FlatExpr m) (b : List Place) (us : List AbsOutcome) (ps : List Place) → slice_get w.classes.families family ≡ Some f →
      Has (one_of_each (may_each w kept a row b)) us → within_all w f.over us ≡ Some ps → AreNamedOf w f.over ps → Has (elements_given w family (indexes_read row) b) (element family ps)
  found family f row b us ps there h e n =
      subst (λ o. Has (elements_given_in w family (indexes_read row) b o) (element family ps)) (sym there)
      (Has-map (element family) (one_of (each_given b (indexes_read row) (map (named_in w) f.over)) ps (chosen row b f.over us ps (are_of (may_each w kept a row b) us h) e n)))

-- ---- what is read there

by_told : World → Family → Option Place → List AbsOutcome
by_told w f None = map Some (places_in w f.value)
by_told w f (Some p) = Some p ∷ []

is_by_told : (w : World) (kept : Kept) (a : AbsState) (family : ℕ) (f : Family) (ps : List Place) → places_at w kept a family f (Some ps) ≡ by_told w f (told kept a (element family ps))
unfolding by_told
is_by_told w kept a family f ps = at (kept family ps)
  where
    at : (t : Bool) → (if t then Some (a family ps) ∷ [] else map Some (places_in w f.value)) ≡ by_told w f (if t then Some (a family ps) else None)
    at true = refl
    at false = refl

module _ (w : World) (kept other : Kept) (a d : AbsState) (keeps : KeepsNamed w kept) (keeps_other : KeepsNamed w other) where
  -- where what is read is told the same, what is found is the same
  tells : {m : _} (family : ℕ) (f : Family) (row : Row_of-FlatExpr m) (b : List Place) (us : List AbsOutcome) (ps : List Place) → slice_get w.classes.families family ≡ Some f →
      Has (one_of_each (may_each w kept a row b)) us → within_all w f.over us ≡ Some ps → TellSame kept a other d (elements_given w family (indexes_read row) b) →
      told kept a (element family ps) ≡ told other d (element family ps)
  tells family f row b us ps there h e same = at (kept family ps) refl (other family ps) refl
    where
      at : (t : Bool) → kept family ps ≡ t → (s : Bool) → other family ps ≡ s → told kept a (element family ps) ≡ told other d (element family ps)
      at true k s l = same (element family ps) (found w kept a family f row b us ps there h e (keeps family f there ps k))
      at false k true l = same (element family ps) (found w kept a family f row b us ps there h e (keeps_other family f there ps l))
      at false k false l = rw (k, l) refl

  pub read_same : {m : _} (family : ℕ) (row : Row_of-FlatExpr m) (b : List Place) (us : List AbsOutcome) → Has (one_of_each (may_each w kept a row b)) us →
      TellSame kept a other d (elements_given w family (indexes_read row) b) → may_read w kept a family (slice_get w.classes.families family) us ≡ may_read w other d family (slice_get w.classes.families family) us
  read_same family row b us h same = at (slice_get w.classes.families family) refl
    where
      at : (o : Option Family) → slice_get w.classes.families family ≡ o → may_read w kept a family o us ≡ may_read w other d family o us
      at None there = refl
      at (Some f) there = inside (within_all w f.over us) refl
        where
          inside : (r : Option (List Place)) → within_all w f.over us ≡ r → places_at w kept a family f r ≡ places_at w other d family f r
          inside None e = refl
          inside (Some ps) e =
              is_by_told w kept a family f ps ∙ (ap (by_told w f) (tells family f row b us ps there h e same) ∙ sym (is_by_told w other d family f ps))
