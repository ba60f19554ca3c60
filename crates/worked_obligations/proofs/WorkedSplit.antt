-- The worked script of a claim that is split.
use Rattle.std.proofs.Common.{◌≡◌, zero, suc, List, [], ◌∷◌, false, refl, sym, subst, ◌∙◌, inl, inr, Option, Some, None, arith}
use Rattle.std.specs.List.{slice_get}
use Rattle.law_lists.proofs.Options.{some_is}
use Rattle.smv_core.specs.declared.flat.Simple.TheVariants.{Set}
use Rattle.smv_core.specs.declared.flat.Class.{Class}
use Rattle.smv_core.specs.declared.flat.Class.TheVariants.{Named}
use Rattle.smv_core.specs.declared.flat.Claim.{Claim}
use Rattle.smv_core.specs.declared.flat.Guard.{Guard}
use Rattle.smv_core.specs.declared.flat.Param.{Param}
use Rattle.smv_core.specs.declared.flat.Family.{Family}
use Rattle.law_obligations.specs.Sets.{Has, first, later}
use Rattle.law_obligations.specs.May.{AbsState}
use Rattle.law_obligations.specs.Pictures.{IsAbsState}
use Rattle.law_obligations.specs.Circular.{is_violating_after}
use Rattle.law_obligations.specs.Covers.{IsIndexType}
use Rattle.law_obligations.specs.Scopes.{ReadsOnly, before}
use Rattle.law_obligations.specs.Guards.{AreGuards}
use Rattle.law_obligations.specs.LeafCases.{leaf_cases}
use Rattle.law_obligations.specs.Obligations.{AbstractProblem, obligation}
use Rattle.law_obligations.specs.Whole.{IsWhole}
use Rattle.law_obligations.proofs.Computing.{computing}
use Rattle.law_obligations.specs.Outlines.{Entry, Script, outline_of}
use Rattle.law_obligations.specs.Times.{graph, timed}
use Rattle.law_obligations.specs.Problems.{problem_of}
use Rattle.law_obligations.specs.Checked.{IsFilled, IsSplit, IsChecked, IsProved}
use Rattle.worked_obligations.specs.WorkedScripts.{picking, of_claim}
use Rattle.worked_obligations.specs.WorkedProblems.{twice_equal, split_by, a_is_i}
use Rattle.law_obligations.proofs.Members.{one_of_one, one_of_two}

abbrev the_script : Script
the_script = split_by (a_is_i ∷ [])

abbrev the_entry : Entry
the_entry = of_claim 0 (Set 0 ∷ []) (a_is_i ∷ []) (picking [])

one_guard : (P : Guard → Type 0) (g : Guard) → Has (a_is_i ∷ []) g → P a_is_i → P g
one_guard P g h k = subst P (sym (one_of_one h)) k

are_guards : AreGuards 0 (Set 0 ∷ []) (a_is_i ∷ [])
unfolding computing
are_guards = record {
  is_added = λ g h. omega arith;
  is_of_type = λ g h. one_guard (λ g. slice_get (Set 0 ∷ []) g.var ≡ Some g.over) g h refl;
  reads_before = λ g h. one_guard (λ g. ReadsOnly (before g.var) g.expr) g h tt;
  one_each = λ g h i j e. one_of_one i ∙ sym (one_of_one j);
}

is_split : IsSplit the_script the_entry
is_split = record {
  added = Set 0 ∷ [];
  are_params = refl;
  are_index_types = λ p h. subst (λ (p : Param). IsIndexType p.over) (sym (one_of_one h)) tt;
  are_filled = λ p h. subst (λ (p : Param). IsFilled the_script.design p.over) (sym (one_of_one h)) (_, refl);
  are_guards = are_guards;
}

is_whole : IsWhole the_script.design.families twice_equal
unfolding computing
is_whole = (((tt, tt), (tt, tt)), (((tt, tt), (tt, tt)), tt))

pub checked : IsChecked the_script
checked = record {
  are_apart = ((λ other h. elim h [ ]), tt);
  are_filled = λ f h. elim (one_of_two h) [
    | inl e ↦ subst (λ (f : Family). IsFilled the_script.design f.value) (sym e) (_, refl)
    | inr e ↦ subst (λ (f : Family). IsFilled the_script.design f.value) (sym e) (_, refl)
  ];
  are_whole = λ claim h. subst (λ (claim : Claim). IsWhole the_script.design.families claim.body) (sym (one_of_one h)) is_whole;
  are_definitions = λ def h. elim h [ ];
  are_split = λ entry h. subst (IsSplit the_script) (sym (one_of_one h)) is_split;
}

-- the one case, with its class and the rest
abbrev the_problem : AbstractProblem
the_problem = problem_of (outline_of the_script) the_entry (timed (outline_of the_script) (graph the_script) 0 the_entry) (Named 0 ∷ [])

none_at : (old : Option AbsState) (a : AbsState) → IsAbsState the_problem.world the_problem.kept a → is_violating_after (obligation the_problem) old (a ∷ []) ≡ false
unfolding computing
none_at old a h = elim (one_of_two (h.is_somewhere 0 _ refl [] refl)) [
  | inl e ↦ elim (one_of_two (h.is_somewhere 1 _ refl [] refl)) [ inl q ↦ rw (e, q) refl | inr q ↦ rw (e, q) refl ]
  | inr e ↦ rw e refl
]

none_after : (old : Option AbsState) (path : List AbsState) → ((a : AbsState) → Has path a → IsAbsState the_problem.world the_problem.kept a) → is_violating_after (obligation the_problem) old path ≡ false
unfolding computing
none_after old [] h = refl
none_after old (a ∷ []) h = none_at old a (h a first)
none_after old (a ∷ b ∷ path) h = none_after (Some a) (b ∷ path) (λ c k. h c (later k))

abbrev HasNone : AbstractProblem → Type 0
HasNone p = (path : List AbsState) → ((a : AbsState) → Has path a → IsAbsState p.world p.kept a) → is_violating_after (obligation p) None path ≡ false

at_entry : (entry : Entry) → the_entry ≡ entry → (classes : List Class) → Has (leaf_cases the_script.design.sets entry.leaf.params entry.choice.keeps) classes →
    HasNone (problem_of (outline_of the_script) entry (timed (outline_of the_script) (graph the_script) 0 entry) classes)
unfolding computing
at_entry entry e = subst (λ entry. (classes : List Class) → Has (leaf_cases the_script.design.sets entry.leaf.params entry.choice.keeps) classes →
    HasNone (problem_of (outline_of the_script) entry (timed (outline_of the_script) (graph the_script) 0 entry) classes)) e
    (λ classes h. subst (λ classes. HasNone (problem_of (outline_of the_script) the_entry (timed (outline_of the_script) (graph the_script) 0 the_entry) classes)) (sym (one_of_one h)) (none_after None))

pub proved : IsProved the_script
proved zero entry e classes h path states = at_entry entry (some_is e) classes h path states
proved (suc u) entry e classes h path states = absurd (cc)
