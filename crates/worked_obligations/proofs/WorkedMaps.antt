-- The worked script of two maps that are proved by each other, one before and one now.
use Rattle.std.proofs.Common.{◌≡◌, ℕ, zero, suc, List, [], ◌∷◌, Bool, true, false, ◌&&◌, refl, sym, subst, inl, inr, Option, Some, None, arith}
use Rattle.std.specs.List.{slice_get}
use Rattle.law_lists.proofs.Options.{some_is}
use Rattle.smv_core.specs.Values.{number}
use Rattle.smv_core.specs.declared.flat.Class.{Class}
use Rattle.smv_core.specs.declared.flat.Family.{Family}
use Rattle.smv_core.specs.declared.flat.Def.{Def}
use Rattle.law_obligations.specs.Sets.{Has, first, later}
use Rattle.law_obligations.specs.Places.{named}
use Rattle.law_obligations.specs.May.{AbsState}
use Rattle.law_obligations.specs.Pictures.{IsAbsState}
use Rattle.law_obligations.specs.Circular.{is_violating_after}
use Rattle.law_obligations.specs.LeafCases.{leaf_cases}
use Rattle.law_obligations.specs.Obligations.{AbstractProblem, obligation}
use Rattle.law_obligations.specs.Soundness.{IsDefinition}
use Rattle.law_obligations.proofs.Computing.{computing}
use Rattle.law_obligations.specs.Outlines.{Entry, Script, outline_of}
use Rattle.law_obligations.specs.Times.{graph, timed}
use Rattle.law_obligations.specs.Problems.{problem_of, plan_of}
use Rattle.law_obligations.specs.Checked.{IsFilled, IsSplit, IsChecked, IsProved}
use Rattle.worked_obligations.specs.WorkedTomasulo.{one, num, set, always, stepwise, by_layer}
use Rattle.worked_obligations.specs.WorkedScripts.{picking, of_map}
use Rattle.worked_obligations.specs.WorkedProblems.{one_steps}
use Rattle.law_obligations.proofs.Members.{one_of_one, one_of_two}

abbrev the_script : Script
the_script = one_steps (one 0)

abbrev base_a : Def
base_a = stepwise 0 None (set (num 0)) (set (one 1)) 0

abbrev base_b : Def
base_b = always 1 None (set (one 0)) 1

abbrev entry_a : Entry
entry_a = of_map 2 [] (picking (by_layer 1 0 ∷ []))

abbrev entry_b : Entry
entry_b = of_map 3 [] (picking (by_layer 0 0 ∷ []))

is_base_a : IsDefinition (plan_of the_script) base_a
unfolding computing
is_base_a = record {
  family = _;
  is_family = refl;
  is_conflict_free = record { init = (omega arith, λ k l. absurd (omega arith)); next = (omega arith, λ k l. absurd (omega arith)); comb = tt };
  is_whole = record { init = ((λ e h. elim h [ ]), tt); next = ((λ e h. elim h [ ]), (tt, tt)); comb = tt };
}

is_base_b : IsDefinition (plan_of the_script) base_b
unfolding computing
is_base_b = record {
  family = _;
  is_family = refl;
  is_conflict_free = record { init = tt; next = tt; comb = (omega arith, λ k l. absurd (omega arith)) };
  is_whole = record { init = tt; next = tt; comb = ((λ e h. elim h [ ]), (tt, tt)) };
}

is_zeroed : (of place : ℕ) (f : Family) → slice_get the_script.design.families of ≡ Some f → IsDefinition (plan_of the_script) (always of (Some 0) (set (num 0)) place)
unfolding computing
is_zeroed of place f e = record {
  family = f;
  is_family = e;
  is_conflict_free = record { init = tt; next = tt; comb = (omega arith, λ k l. absurd (omega arith)) };
  is_whole = record { init = tt; next = tt; comb = ((λ e h. elim h [ ]), tt) };
}

are_definitions : (def : Def) → Has the_script.design.defs def → IsDefinition (plan_of the_script) def
are_definitions _ first = is_base_a
are_definitions _ (later first) = is_base_b
are_definitions _ (later (later first)) = is_zeroed 0 2 _ refl
are_definitions _ (later (later (later first))) = is_zeroed 1 3 _ refl
are_definitions def (later (later (later (later h)))) = elim h [ ]

are_split : (entry : Entry) → Has the_script.entries entry → IsSplit the_script entry
are_split _ first = record {
  added = [];
  are_params = refl;
  are_index_types = λ p h. elim h [ ];
  are_filled = λ p h. elim h [ ];
  are_guards = record { is_added = λ g h. elim h [ ]; is_of_type = λ g h. elim h [ ]; reads_before = λ g h. elim h [ ]; one_each = λ g h i j e. elim i [ ] };
}
are_split _ (later first) = record {
  added = [];
  are_params = refl;
  are_index_types = λ p h. elim h [ ];
  are_filled = λ p h. elim h [ ];
  are_guards = record { is_added = λ g h. elim h [ ]; is_of_type = λ g h. elim h [ ]; reads_before = λ g h. elim h [ ]; one_each = λ g h i j e. elim i [ ] };
}
are_split entry (later (later h)) = elim h [ ]

are_filled : (f : Family) → Has the_script.design.families f → IsFilled the_script.design f.value
are_filled _ first = omega arith
are_filled _ (later first) = omega arith
are_filled f (later (later h)) = elim h [ ]

pub checked : IsChecked the_script
checked = record {
  are_apart = ((λ other h. elim h [ ]), tt);
  are_filled = are_filled;
  are_whole = λ claim h. elim h [ ];
  are_definitions = are_definitions;
  are_split = are_split;
}

abbrev problem_a : AbstractProblem
problem_a = problem_of (outline_of the_script) entry_a (timed (outline_of the_script) (graph the_script) 0 entry_a) []

abbrev problem_b : AbstractProblem
problem_b = problem_of (outline_of the_script) entry_b (timed (outline_of the_script) (graph the_script) 1 entry_b) []

pub last_false : (a b : Bool) {c : Bool} → c ≡ false → (a && (b && c)) ≡ false
last_false true true e = e
last_false true false e = refl
last_false false b e = refl

pub middle_false : (a : Bool) {b : Bool} (c : Bool) → b ≡ false → (a && (b && c)) ≡ false
middle_false true c e = rw e refl
middle_false false c e = refl

-- b is 0 in the state before, if there is one
abbrev IsZero : Option AbsState → Type 0
IsZero None = Unit {0}
IsZero (Some s) = s 1 [] ≡ named (number 0)

abbrev AreStates : AbstractProblem → List AbsState → Type 0
AreStates p path = (a : AbsState) → Has path a → IsAbsState p.world p.kept a

none_at_a : (old : Option AbsState) → IsZero old → (a : AbsState) → IsAbsState problem_a.world problem_a.kept a → is_violating_after (obligation problem_a) old (a ∷ []) ≡ false
unfolding computing
none_at_a None k a h = elim (one_of_two (h.is_somewhere 0 _ refl [] refl)) [ inl e ↦ rw e refl | inr e ↦ rw e refl ]
none_at_a (Some s) k a h = elim (one_of_two (h.is_somewhere 0 _ refl [] refl)) [ inl e ↦ rw (e, k) refl | inr e ↦ rw (e, k) refl ]

none_a : (old : Option AbsState) → IsZero old → (path : List AbsState) → AreStates problem_a path → is_violating_after (obligation problem_a) old path ≡ false
unfolding computing
none_a old k [] h = refl
none_a old k (a ∷ []) h = none_at_a old k a (h a first)
none_a old k (a ∷ b ∷ path) h =
    let o = obligation problem_a in
    elim (one_of_two ((h a first).is_somewhere 1 _ refl [] refl)) [
      | inl e ↦ last_false (o.now old a) (o.before old a) (none_a (Some a) e (b ∷ path) (λ c l. h c (later l)))
      | inr e ↦ middle_false (o.now old a) (is_violating_after o (Some a) (b ∷ path)) (rw e refl)
    ]

none_at_b : (old : Option AbsState) (a : AbsState) → IsAbsState problem_b.world problem_b.kept a → is_violating_after (obligation problem_b) old (a ∷ []) ≡ false
unfolding computing
none_at_b old a h = elim (one_of_two (h.is_somewhere 0 _ refl [] refl)) [
  | inl e ↦ elim (one_of_two (h.is_somewhere 1 _ refl [] refl)) [ inl q ↦ rw (e, q) refl | inr q ↦ rw (e, q) refl ]
  | inr e ↦ rw e refl
]

none_b : (old : Option AbsState) (path : List AbsState) → AreStates problem_b path → is_violating_after (obligation problem_b) old path ≡ false
unfolding computing
none_b old [] h = refl
none_b old (a ∷ []) h = none_at_b old a (h a first)
none_b old (a ∷ b ∷ path) h = let o = obligation problem_b in last_false (o.now old a) (o.before old a) (none_b (Some a) (b ∷ path) (λ c l. h c (later l)))

abbrev HasNone : AbstractProblem → Type 0
HasNone p = (path : List AbsState) → AreStates p path → is_violating_after (obligation p) None path ≡ false

at_a : (entry : Entry) → entry_a ≡ entry → (classes : List Class) → Has (leaf_cases the_script.design.sets entry.leaf.params entry.choice.keeps) classes →
    HasNone (problem_of (outline_of the_script) entry (timed (outline_of the_script) (graph the_script) 0 entry) classes)
unfolding computing
at_a entry e = subst (λ entry. (classes : List Class) → Has (leaf_cases the_script.design.sets entry.leaf.params entry.choice.keeps) classes →
    HasNone (problem_of (outline_of the_script) entry (timed (outline_of the_script) (graph the_script) 0 entry) classes)) e
    (λ classes h. subst (λ classes. HasNone (problem_of (outline_of the_script) entry_a (timed (outline_of the_script) (graph the_script) 0 entry_a) classes)) (sym (one_of_one h)) (none_a None tt))

at_b : (entry : Entry) → entry_b ≡ entry → (classes : List Class) → Has (leaf_cases the_script.design.sets entry.leaf.params entry.choice.keeps) classes →
    HasNone (problem_of (outline_of the_script) entry (timed (outline_of the_script) (graph the_script) 1 entry) classes)
unfolding computing
at_b entry e = subst (λ entry. (classes : List Class) → Has (leaf_cases the_script.design.sets entry.leaf.params entry.choice.keeps) classes →
    HasNone (problem_of (outline_of the_script) entry (timed (outline_of the_script) (graph the_script) 1 entry) classes)) e
    (λ classes h. subst (λ classes. HasNone (problem_of (outline_of the_script) entry_b (timed (outline_of the_script) (graph the_script) 1 entry_b) classes)) (sym (one_of_one h)) (none_b None))

pub proved : IsProved the_script
proved zero entry e classes h path states = at_a entry (some_is e) classes h path states
proved (suc zero) entry e classes h path states = at_b entry (some_is e) classes h path states
proved (suc (suc u)) entry e classes h path states = absurd (cc)
