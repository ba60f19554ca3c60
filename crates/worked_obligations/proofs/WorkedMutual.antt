-- The worked plan of two maps that use each other has what a plan has to have, and no violating path.
use Rattle.std.proofs.Common.{◌≡◌, ℕ, zero, suc, arith, List, [], ◌∷◌, false, refl, sym, subst, inl, inr, Option, Some, None}
use Rattle.std.specs.List.{slice_get}
use Rattle.law_lists.proofs.Options.{some_is}
use Rattle.smv_core.specs.Values.{number, Sizes}
use Rattle.smv_core.specs.declared.flat.Class.{Class}
use Rattle.smv_core.specs.declared.flat.Family.{Family}
use Rattle.law_obligations.specs.Sets.{Has, first, later}
use Rattle.law_obligations.specs.Places.{named}
use Rattle.law_obligations.specs.May.{AbsState}
use Rattle.law_obligations.specs.Pictures.{IsAbsState, KeepsNamed}
use Rattle.law_obligations.specs.LeafCases.{leaf_cases}
use Rattle.law_obligations.specs.Circular.{is_violating_after}
use Rattle.law_obligations.specs.Obligations.{AbstractProblem, obligation}
use Rattle.law_obligations.specs.Soundness.{at_sizes, HasValue, LeafProof, by_base, by_use, IsCase, IsDefinition, IsLeaf, HaveValues, IsPlan, HasNoViolatingPath}
use Rattle.worked_obligations.specs.WorkedObligations.{stepping, zeroed}
use Rattle.worked_obligations.specs.WorkedSoundness.{of_bits, bit_problem, bit_leaf, mutual_plan}
use Rattle.law_obligations.proofs.Computing.{computing}
use Rattle.worked_obligations.proofs.WorkedMaps.{last_false, middle_false}
use Rattle.law_obligations.proofs.Members.{one_of_one, one_of_two}

is_stepping_a : IsDefinition mutual_plan (stepping 0 0 1)
unfolding computing
is_stepping_a = record {
  family = _;
  is_family = refl;
  is_conflict_free = record { init = (omega arith, λ k l. absurd (omega arith)); next = (omega arith, λ k l. absurd (omega arith)); comb = tt };
  is_whole = record { init = ((λ e h. elim h [ ]), tt); next = ((λ e h. elim h [ ]), (tt, tt)); comb = tt };
}

is_stepping_b : IsDefinition mutual_plan (stepping 1 0 0)
unfolding computing
is_stepping_b = record {
  family = _;
  is_family = refl;
  is_conflict_free = record { init = (omega arith, λ k l. absurd (omega arith)); next = (omega arith, λ k l. absurd (omega arith)); comb = tt };
  is_whole = record { init = ((λ e h. elim h [ ]), tt); next = ((λ e h. elim h [ ]), (tt, tt)); comb = tt };
}

-- a layer's map, of a family that is there
is_zeroed : (of : ℕ) (f : Family) → slice_get of_bits.families of ≡ Some f → IsDefinition mutual_plan (zeroed of)
unfolding computing
is_zeroed of f e = record {
  family = f;
  is_family = e;
  is_conflict_free = record { init = tt; next = tt; comb = (omega arith, λ k l. absurd (omega arith)) };
  is_whole = record { init = tt; next = tt; comb = ((λ e h. elim h [ ]), tt) };
}

keeps : (own other : ℕ) (classes : List Class) → KeepsNamed (bit_problem own other classes).world (bit_problem own other classes).kept
keeps own other classes of f e [] h = tt
keeps own other classes of f e (q ∷ qs) h = absurd (cc)

is_case_a : (classes : List Class) → IsCase mutual_plan 0 (bit_leaf 0 1) classes (bit_problem 0 1 classes)
is_case_a classes = record {
  is_world = refl;
  are_params = refl;
  keeps_named = keeps 0 1 classes;
  is_target = refl;
  keeps_target = λ e. refl;
  are_guards = refl;
  now = λ d h. by_base (stepping 0 0 1) first (record { places = []; are_named = first; is_kept = refl; is_said = one_of_one h });
  before = λ d h. by_use 1 refl (bit_leaf 1 0) refl (record { places = []; are_named = first; is_kept = refl; is_said = one_of_one h });
}

is_case_b : (classes : List Class) → IsCase mutual_plan 1 (bit_leaf 1 0) classes (bit_problem 1 0 classes)
is_case_b classes = record {
  is_world = refl;
  are_params = refl;
  keeps_named = keeps 1 0 classes;
  is_target = refl;
  keeps_target = λ e. refl;
  are_guards = refl;
  now = λ d h. by_base (stepping 1 0 0) (later first) (record { places = []; are_named = first; is_kept = refl; is_said = one_of_one h });
  before = λ d h. by_use 0 refl (bit_leaf 0 1) refl (record { places = []; are_named = first; is_kept = refl; is_said = one_of_one h });
}

is_leaf : (own other : ℕ) (f : Family) → slice_get of_bits.families own ≡ Some f → f.over ≡ [] → IsLeaf mutual_plan (bit_leaf own other)
is_leaf own other f e none = record {
  is_unit = is_zeroed own f e;
  added = [];
  are_params = rw (e, none) refl;
  are_index_types = λ q h. elim h [ ];
  are_guards = record {
    is_added = λ g h. elim h [ ];
    is_of_type = λ g h. elim h [ ];
    reads_before = λ g h. elim h [ ];
    one_each = λ g i h k e. elim h [ ];
  };
}

each_of_two : {X : Type 0} {x y : X} (P : X → Type 0) → P x → P y → (z : X) → Has (x ∷ y ∷ []) z → P z
each_of_two P p q z h = elim (one_of_two h) [ inl e ↦ subst P (sym e) p | inr e ↦ subst P (sym e) q ]

have_values : (sizes : Sizes) → HaveValues mutual_plan sizes
have_values sizes = record {
  families = each_of_two (λ f. HasValue (at_sizes of_bits sizes) f.value) (number 0, first) (number 0, first);
  params = each_of_two (λ leaf. (q : _) → Has leaf.params q → HasValue (at_sizes of_bits sizes) q.over) (λ q h. elim h [ ]) (λ q h. elim h [ ]);
}

are_cases : (u : ℕ) (leaf : LeafProof) → slice_get mutual_plan.leaves u ≡ Some leaf → (classes : List Class) → IsCase mutual_plan u leaf classes (leaf.problem classes)
are_cases zero leaf e classes = subst (λ leaf. IsCase mutual_plan 0 leaf classes (leaf.problem classes)) (some_is e) (is_case_a classes)
are_cases (suc zero) leaf e classes = subst (λ leaf. IsCase mutual_plan 1 leaf classes (leaf.problem classes)) (some_is e) (is_case_b classes)
are_cases (suc (suc u)) leaf e classes = absurd (cc)

pub is_plan : IsPlan mutual_plan
is_plan = record {
  base = each_of_two (IsDefinition mutual_plan) is_stepping_a is_stepping_b;
  leaves = each_of_two (IsLeaf mutual_plan) (is_leaf 0 1 _ refl refl) (is_leaf 1 0 _ refl refl);
  order = λ u. 0;
  falls = λ u v e. absurd (cc);
  are_cases = λ u leaf e classes h. are_cases u leaf e classes;
  are_apart = ((λ other h. elim h [ ]), tt);
  have_values = λ sizes h. have_values sizes;
}

-- a state whose element of this family is 0, if there is a state
abbrev IsZero : ℕ → Option AbsState → Type 0
IsZero of None = Unit {0}
IsZero of (Some s) = s of [] ≡ named (number 0)

abbrev AreStates : AbstractProblem → List AbsState → Type 0
AreStates p path = (a : AbsState) → Has path a → IsAbsState p.world p.kept a

-- a was 0 where b was 0 before, and at first
none_at_a : (old : Option AbsState) → IsZero 1 old → (a : AbsState) → IsAbsState (bit_problem 0 1 []).world (bit_problem 0 1 []).kept a → is_violating_after (obligation (bit_problem 0 1 [])) old (a ∷ []) ≡ false
unfolding computing
none_at_a None k a h = elim (one_of_two (h.is_somewhere 0 _ refl [] refl)) [ inl e ↦ rw e refl | inr e ↦ rw e refl ]
none_at_a (Some s) k a h = elim (one_of_two (h.is_somewhere 0 _ refl [] refl)) [ inl e ↦ rw (e, k) refl | inr e ↦ rw (e, k) refl ]

none_a : (old : Option AbsState) → IsZero 1 old → (path : List AbsState) → AreStates (bit_problem 0 1 []) path → is_violating_after (obligation (bit_problem 0 1 [])) old path ≡ false
unfolding computing
none_a old k [] h = refl
none_a old k (a ∷ []) h = none_at_a old k a (h a first)
none_a old k (a ∷ b ∷ path) h =
    let o = obligation (bit_problem 0 1 []) in
    elim (one_of_two ((h a first).is_somewhere 1 _ refl [] refl)) [
      | inl e ↦ last_false (o.now old a) (o.before old a) (none_a (Some a) e (b ∷ path) (λ c l. h c (later l)))
      | inr e ↦ middle_false (o.now old a) (is_violating_after o (Some a) (b ∷ path)) (rw e refl)
    ]

none_at_b : (old : Option AbsState) → IsZero 0 old → (a : AbsState) → IsAbsState (bit_problem 1 0 []).world (bit_problem 1 0 []).kept a → is_violating_after (obligation (bit_problem 1 0 [])) old (a ∷ []) ≡ false
unfolding computing
none_at_b None k a h = elim (one_of_two (h.is_somewhere 1 _ refl [] refl)) [ inl e ↦ rw e refl | inr e ↦ rw e refl ]
none_at_b (Some s) k a h = elim (one_of_two (h.is_somewhere 1 _ refl [] refl)) [ inl e ↦ rw (e, k) refl | inr e ↦ rw (e, k) refl ]

none_b : (old : Option AbsState) → IsZero 0 old → (path : List AbsState) → AreStates (bit_problem 1 0 []) path → is_violating_after (obligation (bit_problem 1 0 [])) old path ≡ false
unfolding computing
none_b old k [] h = refl
none_b old k (a ∷ []) h = none_at_b old k a (h a first)
none_b old k (a ∷ b ∷ path) h =
    let o = obligation (bit_problem 1 0 []) in
    elim (one_of_two ((h a first).is_somewhere 0 _ refl [] refl)) [
      | inl e ↦ last_false (o.now old a) (o.before old a) (none_b (Some a) e (b ∷ path) (λ c l. h c (later l)))
      | inr e ↦ middle_false (o.now old a) (is_violating_after o (Some a) (b ∷ path)) (rw e refl)
    ]

pub no_path : HasNoViolatingPath mutual_plan
no_path = each_of_two (λ leaf. (classes : List Class) → Has (leaf_cases of_bits.sets leaf.params leaf.keeps) classes → (path : List AbsState) → AreStates (leaf.problem classes) path →
    is_violating_after (obligation (leaf.problem classes)) None path ≡ false)
    (λ classes k path. subst (λ classes. AreStates (bit_problem 0 1 classes) path → is_violating_after (obligation (bit_problem 0 1 classes)) None path ≡ false) (sym (one_of_one k)) (none_a None tt path))
    (λ classes k path. subst (λ classes. AreStates (bit_problem 1 0 classes) path → is_violating_after (obligation (bit_problem 1 0 classes)) None path ≡ false) (sym (one_of_one k)) (none_b None tt path))
