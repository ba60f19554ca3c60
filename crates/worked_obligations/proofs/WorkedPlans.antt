-- The worked plan has what a plan has to have, and no violating path.
use Rattle.std.proofs.Common.{◌≡◌, ℕ, zero, suc, ◌<◌, arith, List, [], ◌∷◌, false, refl, sym, subst, ◌∙◌, inl, inr, Option, Some, None}
use Rattle.std.specs.List.{slice_get}
use Rattle.smv_core.specs.Values.{scalar, Sizes, numbers_from}
use Rattle.smv_core.specs.declared.flat.Simple.TheVariants.{Set}
use Rattle.smv_core.specs.declared.flat.Class.{Class}
use Rattle.smv_core.specs.declared.flat.Class.TheVariants.{Named}
use Rattle.smv_core.specs.declared.flat.Guard.{Guard}
use Rattle.smv_core.specs.declared.flat.Param.{Param}
use Rattle.law_obligations.specs.Sets.{Has, first, later}
use Rattle.law_obligations.specs.May.{AbsState}
use Rattle.law_obligations.specs.Pictures.{IsAbsState, KeepsNamed}
use Rattle.law_obligations.specs.LeafCases.{leaf_cases}
use Rattle.law_obligations.specs.Scopes.{ReadsOnly, before}
use Rattle.law_obligations.specs.Circular.{is_violating_after}
use Rattle.law_obligations.specs.Obligations.{AbstractProblem, obligation}
use Rattle.law_obligations.specs.Soundness.{at_sizes, AreSizes, HasValue, LeafProof, IsCase, IsLeaf, HaveValues, IsPlan, HasNoViolatingPath}
use Rattle.law_obligations.specs.Covers.{IsIndexType}
use Rattle.worked_obligations.specs.Worked.{p, signal}
use Rattle.worked_obligations.specs.WorkedObligations.{guard}
use Rattle.worked_obligations.specs.WorkedSoundness.{index, of_two, split_problem, split_leaf, split_plan}
use Rattle.law_obligations.proofs.Members.{Has-map, one_of_one, one_of_two}
use Rattle.law_obligations.proofs.OneOfEach.{get_Has}
use Rattle.law_obligations.proofs.Computing.{computing}

has_zero : (k : ℕ) → 0 < k → Has (numbers_from 0 k) 0
has_zero zero l = absurd (omega arith)
has_zero (suc k) l = first

-- P has a value
value_of_P : (sizes : Sizes) → AreSizes of_two sizes → HasValue (at_sizes of_two sizes) (Set 0)
value_of_P sizes h = (p 0, Has-map (scalar _) (has_zero _ (h _ first).0))

is_case : (u : ℕ) (classes : List Class) → IsCase split_plan u split_leaf classes (split_problem classes)
is_case u classes = record {
  is_world = refl;
  are_params = refl;
  keeps_named = keeps;
  is_target = refl;
  keeps_target = λ e. tt;
  are_guards = refl;
  now = λ d h. elim h [ ];
  before = λ d h. elim h [ ];
}
  where
    keeps : KeepsNamed (split_problem classes).world (split_problem classes).kept
    keeps family f e [] h = tt
    keeps family f e (q ∷ qs) h = absurd (cc)

one_guard : (P : Guard → Type 0) (g : Guard) → Has split_leaf.guards g → P (guard 0 (signal 0)) → P g
one_guard P g h k = subst P (sym (one_of_one h)) k

only_param : (P : Param → Type 0) (q : Param) → Has split_leaf.params q → P index → P q
only_param P q h k = subst P (sym (one_of_one h)) k

is_leaf : IsLeaf split_plan split_leaf
unfolding computing
is_leaf = record {
  is_unit = (((tt, tt), (tt, tt)), (((tt, tt), (tt, tt)), tt));
  added = Set 0 ∷ [];
  are_params = refl;
  are_index_types = λ q h. only_param (λ q. IsIndexType q.over) q h tt;
  are_guards = record {
    is_added = λ g h. omega arith;
    is_of_type = λ g h. one_guard (λ g. slice_get (Set 0 ∷ []) g.var ≡ Some g.over) g h refl;
    reads_before = λ g h. one_guard (λ g. ReadsOnly (before g.var) g.expr) g h tt;
    one_each = λ g h i j e. one_of_one i ∙ sym (one_of_one j);
  };
}

have_values : (sizes : Sizes) → AreSizes of_two sizes → HaveValues split_plan sizes
have_values sizes h = record {
  families = λ f k. elim (one_of_two k) [
    | inl e ↦ subst (λ f. HasValue (at_sizes of_two sizes) f.value) (sym e) (value_of_P sizes h)
    | inr e ↦ subst (λ f. HasValue (at_sizes of_two sizes) f.value) (sym e) (value_of_P sizes h)
  ];
  params = λ leaf k q i. subst (λ leaf. (q : Param) → Has leaf.params q → HasValue (at_sizes of_two sizes) q.over) (sym (one_of_one k))
      (λ q i. only_param (λ q. HasValue (at_sizes of_two sizes) q.over) q i (value_of_P sizes h)) q i;
}

pub is_plan : IsPlan split_plan
is_plan = record {
  base = λ def h. elim h [ ];
  leaves = λ leaf h. subst (IsLeaf split_plan) (sym (one_of_one h)) is_leaf;
  order = λ u. 0;
  falls = λ u v e. absurd (cc);
  are_cases = λ u leaf e classes h. subst (λ leaf. IsCase split_plan u leaf classes (leaf.problem classes)) (sym (one_of_one (get_Has split_plan.leaves u leaf e))) (is_case u classes);
  are_apart = ((λ other h. elim h [ ]), tt);
  have_values = have_values;
}

-- the one case, with its class and the rest
abbrev only_case : List Class
only_case = Named 0 ∷ []

abbrev only_problem : AbstractProblem
only_problem = split_problem only_case

-- no state of it is violating: a is at the class where the guard may hold, and b is at the class or at the rest
none_at : (old : Option AbsState) (a : AbsState) → IsAbsState only_problem.world only_problem.kept a → is_violating_after (obligation only_problem) old (a ∷ []) ≡ false
unfolding computing
none_at old a h = elim (one_of_two (h.is_somewhere 0 _ refl [] refl)) [
  | inl e ↦ elim (one_of_two (h.is_somewhere 1 _ refl [] refl)) [ inl q ↦ rw (e, q) refl | inr q ↦ rw (e, q) refl ]
  | inr e ↦ rw e refl
]

none_after : (old : Option AbsState) (path : List AbsState) → ((a : AbsState) → Has path a → IsAbsState only_problem.world only_problem.kept a) → is_violating_after (obligation only_problem) old path ≡ false
none_after old [] h = refl
none_after old (a ∷ []) h = none_at old a (h a first)
none_after old (a ∷ b ∷ path) h = none_after (Some a) (b ∷ path) (λ c k. h c (later k))

pub no_path : HasNoViolatingPath split_plan
no_path leaf h classes k path states = at leaf (one_of_one h) classes k path states
  where
    at : (leaf : LeafProof) → leaf ≡ split_leaf → (classes : List Class) → Has (leaf_cases of_two.sets leaf.params leaf.keeps) classes → (path : List AbsState) →
        ((a : AbsState) → Has path a → IsAbsState (leaf.problem classes).world (leaf.problem classes).kept a) → is_violating_after (obligation (leaf.problem classes)) None path ≡ false
    at leaf e = subst (λ leaf. (classes : List Class) → Has (leaf_cases of_two.sets leaf.params leaf.keeps) classes → (path : List AbsState) →
        ((a : AbsState) → Has path a → IsAbsState (leaf.problem classes).world (leaf.problem classes).kept a) → is_violating_after (obligation (leaf.problem classes)) None path ≡ false) (sym e)
        (λ classes k path. subst (λ classes. ((a : AbsState) → Has path a → IsAbsState (split_problem classes).world (split_problem classes).kept a) → is_violating_after (obligation (split_problem classes)) None path ≡ false)
        (sym (one_of_one k)) (none_after None path))
