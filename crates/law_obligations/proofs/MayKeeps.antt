-- What an expression has as its outcome in a state, it may have in the state's picture.
use Rattle.std.proofs.Common.{◌≡◌, ℕ, zero, suc, ◌+◌, ◌-◌, List, [], ◌∷◌, ◌++◌, map, get_or, Bool, true, false, if◌then◌else◌, refl, sym, ap, subst, ◌∙◌, inl, inr, Option, Some, None, option_map}
use Rattle.std.specs.List.{flat_map, slice_get, zip}
use Rattle.smv_core.specs.Values.{Name, Value, number, constant, scalar, ordinal, Outcome, Truth, truth, bit, value_in, all_defined, equal, compare, add, modulo, numbers_from, not_of, iff_of, conjunction, disjunction, implication, is_in}
use Rattle.smv_core.specs.Outcome.{branch}
use Rattle.smv_core.specs.FlatMeaning.{Numbered, FlatState, bind, values_in, flat_element_at, flat_outcome, flat_outcomes, flat_sum, flat_listed, flat_members}
use Rattle.smv_core.specs.declared.flat.Simple.{Simple as FlatSimple}
use Rattle.smv_core.specs.declared.flat.Family.{Family}
use Rattle.smv_core.specs.declared.flat.FlatMember.{One, Span as SpanOf}
use Rattle.smv_core.specs.declared.flat.FlatExpr.{FlatExpr, Number, Read', Var, Loop, Constant, Not', And', Or', Implies', Iff', Compare', Within', Sum', Modulo', Choose', All', Any', List', Each', Row_of-FlatExpr, end_of-FlatExpr, more_of-FlatExpr, Row_of-FlatMember, end_of-FlatMember, more_of-FlatMember, Row_of-FlatSigned, end_of-FlatSigned, more_of-FlatSigned}
use Rattle.smv_core.specs.declared.abstract_type.AbsType.{AbsType}
use Rattle.law_obligations.specs.Sets.{Has, first, one_of_each, parts, pairs, all_there}
use Rattle.law_obligations.specs.Places.{Place, named, world, named_in, rests_in, places_in, is_among, AbsOutcome, valued, as_place, equal_places, where_defined, may_compare, bind_place}
use Rattle.law_obligations.specs.May.{AbsState, Kept, seen, shown, place_within, quantified, places_at, may_read, may, may_each, may_sum, may_listed, may_members}
use Rattle.law_obligations.specs.Pictures.{Placing, placed, ArePlaced, AreOfTypes, IsState, IsPicture, IsValue, AreValues}
use Rattle.law_obligations.proofs.Members.{Has-left, Has-right, Has-cases, Has-map, Has-from_map, Has-flat_map, Has-pairs, Picks, Has-choices, Chosen, choose_each, HaveSame, kept_by, Has-kept, Has-from_kept, part_with}
use Rattle.law_obligations.proofs.Members.Picks.{none as no_pick, more as one_more}
use Rattle.law_obligations.proofs.Same.{same_outcome, same_outcome-itself, same_outcome-is, Has-is_in, is_among-Has, Has-is_among}
use Rattle.law_obligations.proofs.Facts.{IsOutcome, AreOutcomes, placed_outcome, of_type, same_in, equal_may, compare_may}
use Rattle.law_obligations.proofs.Operators.{seen_placed, seen_each, shown_placed, added_placed, modulo_placed, conjunction_same, disjunction_same, branch_may}

-- what logic and arithmetic give are numbers
bit_is : (n : Numbered) (t : Truth) → IsOutcome n (bit t)
bit_is n None = tt
bit_is n (Some true) = tt
bit_is n (Some false) = tt

if_is : (n : Numbered) (b : Bool) (k : ℕ) → IsOutcome n (if b then Some (number k) else None)
if_is n true k = tt
if_is n false k = tt

add_is : (n : Numbered) (minus : Bool) (u v : Outcome) → IsOutcome n (add minus u v)
add_is n false None v = tt
add_is n false (Some (constant c)) v = tt
add_is n false (Some (scalar t k)) v = tt
add_is n false (Some (ordinal t k)) v = tt
add_is n false (Some (number k)) None = tt
add_is n false (Some (number k)) (Some (number l)) = if_is n _ (k + l)
add_is n false (Some (number k)) (Some (constant c)) = tt
add_is n false (Some (number k)) (Some (scalar t l)) = tt
add_is n false (Some (number k)) (Some (ordinal t l)) = tt
add_is n true None v = tt
add_is n true (Some (constant c)) v = tt
add_is n true (Some (scalar t k)) v = tt
add_is n true (Some (ordinal t k)) v = tt
add_is n true (Some (number k)) None = tt
add_is n true (Some (number k)) (Some (number l)) = if_is n _ (k - l)
add_is n true (Some (number k)) (Some (constant c)) = tt
add_is n true (Some (number k)) (Some (scalar t l)) = tt
add_is n true (Some (number k)) (Some (ordinal t l)) = tt

modulo_is : (n : Numbered) (u : Outcome) (by : ℕ) → IsOutcome n (modulo u by)
modulo_is n None by = tt
modulo_is n (Some (number k)) zero = tt
modulo_is n (Some (number k)) (suc by) = tt
modulo_is n (Some (constant c)) by = tt
modulo_is n (Some (scalar t k)) by = tt
modulo_is n (Some (ordinal t k)) by = tt

branch_is : (n : Numbered) (c : Truth) (x y : Outcome) → IsOutcome n x → IsOutcome n y → IsOutcome n (branch None c x y)
branch_is n None x y p q = tt
branch_is n (Some true) x y p q = p
branch_is n (Some false) x y p q = q

constant_is : (n : Numbered) (o : Option Name) → IsOutcome n (option_map constant o)
constant_is n None = tt
constant_is n (Some c) = tt

constant_placed : (spots : Placing) (o : Option Name) → as_place (option_map constant o) ≡ placed_outcome spots (option_map constant o)
constant_placed spots None = refl
constant_placed spots (Some c) = refl

-- the variables that are bound, and their places
bound_is : (n : Numbered) (b : List Value) (var : ℕ) → AreValues n b → IsOutcome n (slice_get b var)
bound_is n [] var h = tt
bound_is n (v ∷ b) zero h = h.0
bound_is n (v ∷ b) (suc var) h = bound_is n b var h.1

bound_placed : (spots : Placing) (b : List Value) (var : ℕ) → slice_get (map (placed spots) b) var ≡ placed_outcome spots (slice_get b var)
bound_placed spots [] var = refl
bound_placed spots (v ∷ b) zero = refl
bound_placed spots (v ∷ b) (suc var) = bound_placed spots b var

pub bind_are : (n : Numbered) (b : List Value) (var : ℕ) (v : Value) → AreValues n b → IsValue n v → AreValues n (bind b var v)
bind_are n [] zero v h k = (k, tt)
bind_are n [] (suc var) v h k = (k, tt)
bind_are n (u ∷ b) zero v h k = (k, tt)
bind_are n (u ∷ b) (suc var) v h k = (h.0, bind_are n b var v h.1 k)

pub bind_placed : (spots : Placing) (b : List Value) (var : ℕ) (v : Value) → map (placed spots) (bind b var v) ≡ bind_place (map (placed spots) b) var (placed spots v)
bind_placed spots [] zero v = refl
bind_placed spots [] (suc var) v = refl
bind_placed spots (u ∷ b) zero v = refl
bind_placed spots (u ∷ b) (suc var) v = ap (λ ps. placed spots u ∷ ps) (bind_placed spots b var v)

cons_placed : (spots : Placing) (v : Value) (o : Option (List Value)) →
    option_map (λ ps. placed spots v ∷ ps) (option_map (map (placed spots)) o) ≡ option_map (map (placed spots)) (option_map (λ vs. v ∷ vs) o)
cons_placed spots v None = refl
cons_placed spots v (Some vs) = refl

-- the values of the indexes, where each is of its type
abbrev index_values : Numbered → List FlatSimple → List Outcome → Option (List Value)
index_values n over us = all_defined (map (λ (t, u). value_in (values_in n t) u) (zip over us))

abbrev OfTypes : Numbered → List FlatSimple → Option (List Value) → Type 0
OfTypes n over None = Unit {0}
OfTypes n over (Some vs) = AreOfTypes n over vs

of_types_more : (n : Numbered) (t : FlatSimple) (over : List FlatSimple) (v : Value) → Has (values_in n t) v → (o : Option (List Value)) → OfTypes n over o → OfTypes n (t ∷ over) (option_map (λ vs. v ∷ vs) o)
of_types_more n t over v h None k = tt
of_types_more n t over v h (Some vs) k = (h, k)

index_types : (n : Numbered) (over : List FlatSimple) (us : List Outcome) → OfTypes n over (index_values n over us)
index_types n [] us = tt
index_types n (t ∷ over) [] = tt
index_types n (t ∷ over) (None ∷ us) = tt
index_types n (t ∷ over) (Some v ∷ us) = at (index_types n over us) (is_in (values_in n t) v) refl
  where
    at : OfTypes n over (index_values n over us) → (b : Bool) → is_in (values_in n t) v ≡ b → OfTypes n (t ∷ over) (all_defined ((if b then Some v else None) ∷ map (λ (t, u). value_in (values_in n t) u) (zip over us)))
    at ih true e = of_types_more n t over v (Has-is_in (values_in n t) v e) (index_values n over us) ih
    at ih false e = tt

module _ (n : Numbered) (types : Name → AbsType) (spots : Placing) (facts : ArePlaced n (world n types) spots) where
  -- the places of the indexes, where each is of its type
  indexes_placed : (over : List FlatSimple) (us : List Outcome) → AreOutcomes n us →
      all_there (map (λ (t, u). place_within (places_in (world n types) t) u) (zip over (map (placed_outcome spots) us))) ≡ option_map (map (placed spots)) (index_values n over us)
  indexes_placed [] us h = refl
  indexes_placed (t ∷ over) [] h = refl
  indexes_placed (t ∷ over) (None ∷ us) h = refl
  indexes_placed (t ∷ over) (Some v ∷ us) h = rw (sym (same_in n types spots facts t v h.0)) (at (is_in (values_in n t) v) (indexes_placed over us h.1))
    where
      at : (b : Bool) → all_there (map (λ (t, u). place_within (places_in (world n types) t) u) (zip over (map (placed_outcome spots) us))) ≡ option_map (map (placed spots)) (index_values n over us) →
          all_there ((if b then Some (placed spots v) else None) ∷ map (λ (t, u). place_within (places_in (world n types) t) u) (zip over (map (placed_outcome spots) us)))
          ≡ option_map (map (placed spots)) (all_defined ((if b then Some v else None) ∷ map (λ (t, u). value_in (values_in n t) u) (zip over us)))
      at true ih = ap (option_map (λ ps. placed spots v ∷ ps)) ih ∙ cons_placed spots v (index_values n over us)
      at false ih = refl

  -- `in`: an answer for each member
  pub equal_each : (u : Outcome) (vs : List Outcome) → IsOutcome n u → AreOutcomes n vs →
      Picks (map (where_defined equal_places (placed_outcome spots u)) (map (placed_outcome spots) vs)) (map (equal u) vs)
  equal_each u [] p h = no_pick
  equal_each u (v ∷ vs) p h = one_more (equal_may n types spots facts u v p h.0) (equal_each u vs p h.1)

  -- a value that lies at a class, and the outcome there
  record At (t : FlatSimple) (O : Value → Outcome) (q : Place) (y : AbsOutcome) : Type 0 where
    value : Value
    of_its_type : Has (values_in n t) value
    here : placed spots value ≡ q
    outcome_is : y ≡ placed_outcome spots (O value)

  -- a quantifier: the outcomes of the classes' values, and the part of those at the rests that there are
  quantifier_may : (join : List Truth → Truth) → ((us vs : List Truth) → HaveSame us vs → join us ≡ join vs) → (t : FlatSimple) (F : Place → List AbsOutcome) (O : Value → Outcome) →
      ((v : Value) → Has (values_in n t) v → Has (F (placed spots v)) (placed_outcome spots (O v))) →
      Has (quantified join (map F (named_in (world n types) t)) (flat_map F (rests_in (world n types) t))) (shown (join (map (λ v. truth (O v)) (values_in n t))))
  quantifier_may join join_same t F O may_have =
      let w = world n types in
      let values = values_in n t in
      let classes = named_in w t in
      let rests = rests_in w t in
      let W : Value → AbsOutcome = λ v. placed_outcome spots (O v) in
      let chosen : Chosen F (At t O) classes = choose_each F (At t O) classes
      (λ q h. let r = (facts t).class_has_value q h in
      (W r.0, subst (λ x. Has (F x) (W r.0)) r.2 (may_have r.0 r.1), record { value = r.0; of_its_type = r.1; here = r.2; outcome_is = refl })) in
      let at_rest : List Value = kept_by (λ v. is_among rests (placed spots v)) values in
      let part = part_with same_outcome (flat_map F rests) (map W at_rest) same_outcome-is same_outcome-itself
      (λ x h. let r = Has-from_map W at_rest h in
      let k = Has-from_kept (λ v. is_among rests (placed spots v)) values r.1 in
      subst (Has (flat_map F rests)) (sym r.2) (Has-flat_map F (Has-is_among rests (placed spots r.0) k.1) (may_have r.0 k.0))) in
      let alike : HaveSame (map (λ v. truth (O v)) values) (map seen (chosen.list ++ part.0)) = record {
        there = λ x h. let r = Has-from_map (λ v. truth (O v)) values h in
            subst (Has (map seen (chosen.list ++ part.0))) (seen_placed spots (O r.0) ∙ sym r.2) (Has-map seen
            (elim (Has-cases classes rests ((facts t).is_somewhere r.0 r.1)) [
              | inl c ↦ let y = chosen.stands_for (placed spots r.0) c in
                  let one = (facts t).class_has_one r.0 y.2.value r.1 y.2.of_its_type c (sym y.2.here) in
                  Has-left part.0 (subst (Has chosen.list) (y.2.outcome_is ∙ ap W (sym one)) y.1)
              | inr e ↦ Has-right chosen.list (part.2 (W r.0) (Has-map W (Has-kept (λ v. is_among rests (placed spots v)) r.1 (is_among-Has e))))
            ]));
        back = λ x h. let r = Has-from_map seen (chosen.list ++ part.0) h in
            elim (Has-cases chosen.list part.0 r.1) [
              | inl l ↦ let q = chosen.comes_from r.0 l in
                  subst (Has (map (λ v. truth (O v)) values)) (sym (r.2 ∙ (ap seen q.2.outcome_is ∙ seen_placed spots (O q.2.value)))) (Has-map (λ v. truth (O v)) q.2.of_its_type)
              | inr l ↦ let q = Has-from_map W at_rest (part.3 r.0 l) in
                  let k = Has-from_kept (λ v. is_among rests (placed spots v)) values q.1 in
                  subst (Has (map (λ v. truth (O v)) values)) (sym (r.2 ∙ (ap seen q.2 ∙ seen_placed spots (O q.0)))) (Has-map (λ v. truth (O v)) k.0)
            ];
      } in
      subst (λ x. Has (quantified join (map F classes) (flat_map F rests)) (shown x)) (sym (join_same (map (λ v. truth (O v)) values) (map seen (chosen.list ++ part.0)) alike))
      (Has-pairs (λ us vs. shown (join (map seen (us ++ vs))) ∷ []) (Has-choices chosen.is_choice) part.1 first)

  module _ (s : FlatState) (is_state : IsState n s) where
    read_is : (family : ℕ) (o : Option Family) → slice_get n.families family ≡ o → (us : List Outcome) → IsOutcome n (flat_element_at n s family o us)
    read_is family None e us = tt
    read_is family (Some f) e us = at (index_values n f.over us) (index_types n f.over us)
      where
        at : (o : Option (List Value)) → OfTypes n f.over o → IsOutcome n (option_map (s family) o)
        at None h = tt
        at (Some vs) h = of_type n f.value (s family vs) (is_state family f e vs h)

    -- an outcome is Undefined or a value of the design
    mutual
      pub outcome_is : (e : FlatExpr) (b : List Value) → AreValues n b → IsOutcome n (flat_outcome n s e b)
      outcome_is (Number value place) b h = tt
      outcome_is (Read' family shape indexes place) b h = read_is family (slice_get n.families family) refl (flat_outcomes n s indexes b)
      outcome_is (Var var place) b h = bound_is n b var h
      outcome_is (Loop value place) b h = tt
      outcome_is (Constant list value place) b h = constant_is n (slice_get (get_or n.enums list []) value)
      outcome_is (Not' shape (more_of-FlatExpr e end_of-FlatExpr) place) b h = bit_is n _
      outcome_is (And' shape parts) b h = bit_is n _
      outcome_is (Or' shape parts) b h = bit_is n _
      outcome_is (Implies' shape parts) b h = bit_is n _
      outcome_is (Iff' l (more_of-FlatExpr left end_of-FlatExpr) r (more_of-FlatExpr right end_of-FlatExpr)) b h = bit_is n _
      outcome_is (Compare' op l (more_of-FlatExpr left end_of-FlatExpr) r (more_of-FlatExpr right end_of-FlatExpr)) b h = bit_is n _
      outcome_is (Within' l (more_of-FlatExpr left end_of-FlatExpr) r (more_of-FlatExpr set end_of-FlatExpr)) b h = bit_is n _
      outcome_is (Sum' f (more_of-FlatExpr head end_of-FlatExpr) shape more) b h = sum_is more (flat_outcome n s head b) b (outcome_is head b h)
      outcome_is (Modulo' shape (more_of-FlatExpr e end_of-FlatExpr) by place) b h = modulo_is n (flat_outcome n s e b) by
      outcome_is (Choose' c (more_of-FlatExpr test end_of-FlatExpr) l (more_of-FlatExpr left end_of-FlatExpr) r (more_of-FlatExpr right end_of-FlatExpr)) b h =
          branch_is n (truth (flat_outcome n s test b)) (flat_outcome n s left b) (flat_outcome n s right b) (outcome_is left b h) (outcome_is right b h)
      outcome_is (All' shape (more_of-FlatExpr body end_of-FlatExpr) var over place) b h = bit_is n _
      outcome_is (Any' shape (more_of-FlatExpr body end_of-FlatExpr) var over place) b h = bit_is n _
      outcome_is (List' shape members place) b h = tt
      outcome_is (Each' var over test place) b h = tt

      sum_is : {m : _} (row : Row_of-FlatSigned m) (u : Outcome) (b : List Value) → IsOutcome n u → IsOutcome n (flat_sum n s row u b)
      sum_is end_of-FlatSigned u b h = h
      sum_is (more_of-FlatSigned minus e others) u b h = sum_is others (add minus u (flat_outcome n s e b)) b (add_is n minus u (flat_outcome n s e b))

    outcomes_are : {m : _} (row : Row_of-FlatExpr m) (b : List Value) → AreValues n b → AreOutcomes n (flat_outcomes n s row b)
    outcomes_are end_of-FlatExpr b h = tt
    outcomes_are (more_of-FlatExpr e others) b h = (outcome_is e b h, outcomes_are others b h)

    numbers_are : (ks : List ℕ) (us : List Outcome) → AreOutcomes n us → AreOutcomes n (map (λ k. Some (number k)) ks ++ us)
    numbers_are [] us h = h
    numbers_are (k ∷ ks) us h = (tt, numbers_are ks us h)

    pub members_are : {m : _} (row : Row_of-FlatMember m) (b : List Value) → AreValues n b → AreOutcomes n (flat_members n s row b)
    members_are end_of-FlatMember b h = tt
    members_are (more_of-FlatMember (One e) others) b h = (outcome_is e b h, members_are others b h)
    members_are (more_of-FlatMember (SpanOf span place) others) b h = numbers_are (numbers_from span.low (span.high + 1 - span.low)) (flat_members n s others b) (members_are others b h)

    listed_are : (e : FlatExpr) (b : List Value) → AreValues n b → AreOutcomes n (flat_listed n s e b)
    listed_are (List' shape members place) b h = members_are members b h
    listed_are _ b h = tt

    module _ (kept : Kept) (a : AbsState) (picture : IsPicture n spots kept s a) where
      element_may : (family : ℕ) (f : Family) → slice_get n.families family ≡ Some f → (o : Option (List Value)) → OfTypes n f.over o →
          Has (places_at (world n types) kept a family f (option_map (map (placed spots)) o)) (placed_outcome spots (option_map (s family) o))
      element_may family f e None h = first
      element_may family f e (Some vs) h = at (kept family (map (placed spots) vs)) refl
        where
          at : (b : Bool) → kept family (map (placed spots) vs) ≡ b →
              Has (if b then Some (a family (map (placed spots) vs)) ∷ [] else map Some (places_in (world n types) f.value)) (Some (placed spots (s family vs)))
          at true k = rw (picture family f e vs h k) first
          at false k = Has-map Some ((facts f.value).is_somewhere (s family vs) (is_state family f e vs h))

      read_may : (family : ℕ) (o : Option Family) → slice_get n.families family ≡ o → (us : List Outcome) → AreOutcomes n us →
          Has (may_read (world n types) kept a family o (map (placed_outcome spots) us)) (placed_outcome spots (flat_element_at n s family o us))
      read_may family None e us h = first
      read_may family (Some f) e us h =
          subst (λ x. Has (places_at (world n types) kept a family f x) (placed_outcome spots (option_map (s family) (index_values n f.over us)))) (sym (indexes_placed f.over us h))
          (element_may family f e (index_values n f.over us) (index_types n f.over us))

      -- a chain of logic
      joined : (join : List Truth → Truth) (xss : List (List AbsOutcome)) (us : List Outcome) → Picks xss (map (placed_outcome spots) us) →
          Has (map (λ us. shown (join (map seen us))) (one_of_each xss)) (placed_outcome spots (bit (join (map truth us))))
      joined join xss us p = subst (Has (map (λ us. shown (join (map seen us))) (one_of_each xss)))
          (ap (λ ts. shown (join ts)) (seen_each spots us) ∙ shown_placed spots (join (map truth us)))
          (Has-map (λ us. shown (join (map seen us))) (Has-choices p))

      keeps_numbers : (ks : List ℕ) (xss : List (List AbsOutcome)) (us : List Outcome) → Picks xss (map (placed_outcome spots) us) →
          Picks (map (λ k. Some (named (number k)) ∷ []) ks ++ xss) (map (placed_outcome spots) (map (λ k. Some (number k)) ks ++ us))
      keeps_numbers [] xss us p = p
      keeps_numbers (k ∷ ks) xss us p = one_more first (keeps_numbers ks xss us p)

      abbrev May : FlatExpr → List Value → List AbsOutcome
      May e b = may (world n types) kept a e (map (placed spots) b)

      abbrev Lies : FlatExpr → List Value → AbsOutcome
      Lies e b = placed_outcome spots (flat_outcome n s e b)

      mutual
        pub keeps : (e : FlatExpr) (b : List Value) → AreValues n b → Has (may (world n types) kept a e (map (placed spots) b)) (placed_outcome spots (flat_outcome n s e b))
        keeps (Number value place) b h = first
        keeps (Read' family shape indexes place) b h =
            Has-flat_map (may_read (world n types) kept a family (slice_get n.families family)) (Has-choices (keeps_each indexes b h))
            (read_may family (slice_get n.families family) refl (flat_outcomes n s indexes b) (outcomes_are indexes b h))
        keeps (Var var place) b h = subst (λ u. Has (u ∷ []) (placed_outcome spots (slice_get b var))) (sym (bound_placed spots b var)) first
        keeps (Loop value place) b h = first
        keeps (Constant list value place) b h =
            subst (λ u. Has (u ∷ []) (placed_outcome spots (option_map constant (slice_get (get_or n.enums list []) value)))) (sym (constant_placed spots (slice_get (get_or n.enums list []) value))) first
        keeps (Not' shape (more_of-FlatExpr e end_of-FlatExpr) place) b h =
            subst (Has (map (λ u. shown (not_of (seen u))) (May e b)))
            (ap (λ t. shown (not_of t)) (seen_placed spots (flat_outcome n s e b)) ∙ shown_placed spots (not_of (truth (flat_outcome n s e b))))
            (Has-map (λ u. shown (not_of (seen u))) (keeps e b h))
        keeps (And' shape parts) b h = joined conjunction (may_each (world n types) kept a parts (map (placed spots) b)) (flat_outcomes n s parts b) (keeps_each parts b h)
        keeps (Or' shape parts) b h = joined disjunction (may_each (world n types) kept a parts (map (placed spots) b)) (flat_outcomes n s parts b) (keeps_each parts b h)
        keeps (Implies' shape parts) b h = joined implication (may_each (world n types) kept a parts (map (placed spots) b)) (flat_outcomes n s parts b) (keeps_each parts b h)
        keeps (Iff' l (more_of-FlatExpr left end_of-FlatExpr) r (more_of-FlatExpr right end_of-FlatExpr)) b h =
            Has-pairs (λ u v. shown (iff_of (seen u) (seen v)) ∷ []) (keeps left b h) (keeps right b h)
            (subst (λ x. Has (x ∷ []) (placed_outcome spots (bit (iff_of (truth (flat_outcome n s left b)) (truth (flat_outcome n s right b))))))
            (sym (ap (λ t. shown (iff_of t (seen (Lies right b)))) (seen_placed spots (flat_outcome n s left b))
            ∙ (ap (λ t. shown (iff_of (truth (flat_outcome n s left b)) t)) (seen_placed spots (flat_outcome n s right b))
            ∙ shown_placed spots (iff_of (truth (flat_outcome n s left b)) (truth (flat_outcome n s right b))))))
            first)
        keeps (Compare' op l (more_of-FlatExpr left end_of-FlatExpr) r (more_of-FlatExpr right end_of-FlatExpr)) b h =
            Has-pairs (λ u v. map shown (may_compare op u v)) (keeps left b h) (keeps right b h)
            (subst (Has (map shown (may_compare op (Lies left b) (Lies right b)))) (shown_placed spots (compare op (flat_outcome n s left b) (flat_outcome n s right b)))
            (Has-map shown (compare_may n types spots facts op (flat_outcome n s left b) (flat_outcome n s right b) (outcome_is left b h) (outcome_is right b h))))
        keeps (Within' l (more_of-FlatExpr left end_of-FlatExpr) r (more_of-FlatExpr set end_of-FlatExpr)) b h =
            let u = flat_outcome n s left b in
            let vs = flat_listed n s set b in
            Has-pairs (λ u vs. map (λ ts. shown (disjunction ts)) (one_of_each (map (where_defined equal_places u) vs))) (keeps left b h) (Has-choices (keeps_listed set b h))
            (subst (Has (map (λ ts. shown (disjunction ts)) (one_of_each (map (where_defined equal_places (placed_outcome spots u)) (map (placed_outcome spots) vs)))))
            (shown_placed spots (disjunction (map (equal u) vs)))
            (Has-map (λ ts. shown (disjunction ts)) (Has-choices (equal_each u vs (outcome_is left b h) (listed_are set b h)))))
        keeps (Sum' f (more_of-FlatExpr head end_of-FlatExpr) shape more) b h = keeps_sum more (May head b) (flat_outcome n s head b) b h (keeps head b h)
        keeps (Modulo' shape (more_of-FlatExpr e end_of-FlatExpr) by place) b h =
            subst (Has (map (λ u. as_place (modulo (valued u) by)) (May e b))) (modulo_placed spots (flat_outcome n s e b) by) (Has-map (λ u. as_place (modulo (valued u) by)) (keeps e b h))
        keeps (Choose' c (more_of-FlatExpr test end_of-FlatExpr) l (more_of-FlatExpr left end_of-FlatExpr) r (more_of-FlatExpr right end_of-FlatExpr)) b h =
            Has-flat_map (λ u. branch (None ∷ []) (seen u) (May left b) (May right b)) (keeps test b h)
            (subst (λ t. Has (branch (None ∷ []) t (May left b) (May right b)) (placed_outcome spots (branch None (truth (flat_outcome n s test b)) (flat_outcome n s left b) (flat_outcome n s right b))))
            (sym (seen_placed spots (flat_outcome n s test b)))
            (branch_may spots (truth (flat_outcome n s test b)) (flat_outcome n s left b) (flat_outcome n s right b) (May left b) (May right b) (keeps left b h) (keeps right b h)))
        keeps (All' shape (more_of-FlatExpr body end_of-FlatExpr) var over place) b h =
            subst (Has (may (world n types) kept a (All' shape (more_of-FlatExpr body end_of-FlatExpr) var over place) (map (placed spots) b)))
            (shown_placed spots (conjunction (map (λ v. truth (flat_outcome n s body (bind b var v))) (values_in n over))))
            (quantifier_may conjunction conjunction_same over (λ p. may (world n types) kept a body (bind_place (map (placed spots) b) var p)) (λ v. flat_outcome n s body (bind b var v))
            (λ v k. subst (λ ps. Has (may (world n types) kept a body ps) (Lies body (bind b var v))) (bind_placed spots b var v)
            (keeps body (bind b var v) (bind_are n b var v h (of_type n over v k)))))
        keeps (Any' shape (more_of-FlatExpr body end_of-FlatExpr) var over place) b h =
            subst (Has (may (world n types) kept a (Any' shape (more_of-FlatExpr body end_of-FlatExpr) var over place) (map (placed spots) b)))
            (shown_placed spots (disjunction (map (λ v. truth (flat_outcome n s body (bind b var v))) (values_in n over))))
            (quantifier_may disjunction disjunction_same over (λ p. may (world n types) kept a body (bind_place (map (placed spots) b) var p)) (λ v. flat_outcome n s body (bind b var v))
            (λ v k. subst (λ ps. Has (may (world n types) kept a body ps) (Lies body (bind b var v))) (bind_placed spots b var v)
            (keeps body (bind b var v) (bind_are n b var v h (of_type n over v k)))))
        keeps (List' shape members place) b h = first
        keeps (Each' var over test place) b h = first

        pub keeps_each : {m : _} (row : Row_of-FlatExpr m) (b : List Value) → AreValues n b →
            Picks (may_each (world n types) kept a row (map (placed spots) b)) (map (placed_outcome spots) (flat_outcomes n s row b))
        keeps_each end_of-FlatExpr b h = no_pick
        keeps_each (more_of-FlatExpr e others) b h = one_more (keeps e b h) (keeps_each others b h)

        keeps_sum : {m : _} (row : Row_of-FlatSigned m) (us : List AbsOutcome) (u : Outcome) (b : List Value) → AreValues n b → Has us (placed_outcome spots u) →
            Has (may_sum (world n types) kept a row us (map (placed spots) b)) (placed_outcome spots (flat_sum n s row u b))
        keeps_sum end_of-FlatSigned us u b h k = k
        keeps_sum (more_of-FlatSigned minus e others) us u b h k =
            keeps_sum others (pairs (λ u v. as_place (add minus (valued u) (valued v)) ∷ []) us (May e b)) (add minus u (flat_outcome n s e b)) b h
            (Has-pairs (λ u v. as_place (add minus (valued u) (valued v)) ∷ []) k (keeps e b h)
            (subst (λ x. Has (x ∷ []) (placed_outcome spots (add minus u (flat_outcome n s e b)))) (sym (added_placed spots minus u (flat_outcome n s e b))) first))

        keeps_listed : (e : FlatExpr) (b : List Value) → AreValues n b →
            Picks (may_listed (world n types) kept a e (map (placed spots) b)) (map (placed_outcome spots) (flat_listed n s e b))
        keeps_listed (List' shape members place) b h = keeps_members members b h
        keeps_listed _ b h = no_pick

        pub keeps_members : {m : _} (row : Row_of-FlatMember m) (b : List Value) → AreValues n b →
            Picks (may_members (world n types) kept a row (map (placed spots) b)) (map (placed_outcome spots) (flat_members n s row b))
        keeps_members end_of-FlatMember b h = no_pick
        keeps_members (more_of-FlatMember (One e) others) b h = one_more (keeps e b h) (keeps_members others b h)
        keeps_members (more_of-FlatMember (SpanOf span place) others) b h =
            keeps_numbers (numbers_from span.low (span.high + 1 - span.low)) (may_members (world n types) kept a others (map (placed spots) b)) (flat_members n s others b) (keeps_members others b h)
