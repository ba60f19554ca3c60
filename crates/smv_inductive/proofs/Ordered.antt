-- Laws in another order.
use Rattle.std.proofs.Common.{◌≡◌, ℕ, zero, suc, ◌*◌, ◌<◌, ◌⊎◌, inl, inr, Bool, true, ◌↔◌, List, [], ◌∷◌, ◌++◌, map, length, get_or, refl, sym, ◌∙◌, ap, subst, arith}
use Rattle.std.specs.List.{remove}
use Rattle.bdd_store.specs.declared.Ref.{Ref}
use Rattle.bdd_store.specs.Diagram.{Diagram, table}
use Rattle.bdd_ops.specs.Functions.{Function}
use Rattle.smv_rings.specs.declared.Rel.{Rel}
use Rattle.smv_rings.specs.Lists.{both, all_of, IsCurrent, AllCurrent, IsRel, lists_of, refs_of}
use Rattle.smv_rings.specs.Ops.{IsOneOf}
use Rattle.smv_rings.proofs.Early.{and_true, true_and}
use Rattle.smv_rings.proofs.Refs.{one_left, one_right, one_append, each_live, live_each, in_broken_first, in_now_step, in_before_step, in_broken_step}
use Rattle.smv_inductive.specs.declared.order.Law.{Law}
use Rattle.smv_inductive.specs.Order.{functions_of}
use Rattle.smv_inductive.specs.Halves.{HoldsOn}

-- ---- some functions are in order, and those of these laws are left

abbrev pub AreSplit : List Ref → List Ref → List Law → Type 0
AreSplit fs order laws = (r : Ref) → (IsOneOf r order ⊎ IsOneOf r (functions_of laws)) ↔ IsOneOf r fs

pub split_start : (fs : List Ref) (laws : List Law) → functions_of laws ≡ fs → AreSplit fs [] laws
split_start fs laws e r = (
  (λ either. elim either [ inl none ↦ absurd none | inr one ↦ subst (IsOneOf r) e one ]),
  (λ one. inr (subst (IsOneOf r) (sym e) one)),
)

taken_to : (r : Ref) (laws : List Law) (i : ℕ) (law : Law) → i < length laws → law ≡ get_or laws i law → IsOneOf r (functions_of laws) → (r ≡ law.function) ⊎ IsOneOf r (functions_of (remove laws i))
taken_to r [] i law lt is one = absurd one
taken_to r (x ∷ laws) zero law lt is one = elim one [ inl e ↦ inl (e ∙ ap (λ (y : Law). y.function) (sym is)) | inr more ↦ inr more ]
taken_to r (x ∷ laws) (suc i) law lt is one = elim one [
  | inl e ↦ inr (inl e)
  | inr more ↦ elim (taken_to r laws i law (omega arith) is more) [ inl e ↦ inl e | inr later ↦ inr (inr later) ]
]

taken_from : (r : Ref) (laws : List Law) (i : ℕ) (law : Law) → i < length laws → law ≡ get_or laws i law → (r ≡ law.function) ⊎ IsOneOf r (functions_of (remove laws i)) → IsOneOf r (functions_of laws)
taken_from r [] i law lt is either = absurd (omega arith)
taken_from r (x ∷ laws) zero law lt is either = elim either [ inl e ↦ inl (e ∙ ap (λ (y : Law). y.function) is) | inr more ↦ inr more ]
taken_from r (x ∷ laws) (suc i) law lt is either = elim either [
  | inl e ↦ inr (taken_from r laws i law (omega arith) is (inl e))
  | inr one ↦ elim one [ inl e ↦ inl e | inr more ↦ inr (taken_from r laws i law (omega arith) is (inr more)) ]
]

pub split_step : (fs order : List Ref) (laws : List Law) (i : ℕ) (law : Law) → i < length laws → law ≡ get_or laws i law → AreSplit fs order laws → AreSplit fs (order ++ (law.function ∷ [])) (remove laws i)
split_step fs order laws i law lt is split r = (
  (λ either. elim either [
    | inl one ↦ elim (one_append r order (law.function ∷ []) one) [
      | inl before ↦ (split r).0 (inl before)
      | inr last ↦ elim last [ inl e ↦ (split r).0 (inr (taken_from r laws i law lt is (inl e))) | inr none ↦ absurd none ]
    ]
    | inr more ↦ (split r).0 (inr (taken_from r laws i law lt is (inr more)))
  ]),
  (λ one. elim ((split r).1 one) [
    | inl before ↦ inl (one_left r order (law.function ∷ []) before)
    | inr more ↦ elim (taken_to r laws i law lt is more) [
      | inl e ↦ inl (one_right r order (law.function ∷ []) (inl e))
      | inr later ↦ inr later
    ]
  ]),
)

pub split_end : (fs order : List Ref) (laws : List Law) → length laws ≡ 0 → AreSplit fs order laws → (r : Ref) → IsOneOf r order ↔ IsOneOf r fs
split_end fs order [] none split r = ((λ one. (split r).0 (inl one)), (λ one. elim ((split r).1 one) [ inl is ↦ is | inr left ↦ absurd left ]))
split_end fs order (x ∷ laws) none split r = absurd (omega arith)

-- ---- a conjunction says no more than its functions

all_to : (d : Diagram) (fs : List Ref) (a : ℕ → Bool) → all_of (map (table d) fs) a ≡ true → (r : Ref) → IsOneOf r fs → table d r a ≡ true
all_to d [] a e r one = absurd one
all_to d (f ∷ fs) a e r one =
    let parts = and_true (table d f a) (all_of (map (table d) fs) a) e in
    elim one [ inl is ↦ ap (λ (q : Ref). table d q a) is ∙ parts.0 | inr more ↦ all_to d fs a parts.1 r more ]

all_from : (d : Diagram) (fs : List Ref) (a : ℕ → Bool) → ((r : Ref) → IsOneOf r fs → table d r a ≡ true) → all_of (map (table d) fs) a ≡ true
all_from d [] a each = refl
all_from d (f ∷ fs) a each = true_and (table d f a) (all_of (map (table d) fs) a) (each f (inl refl)) (all_from d fs a (λ r one. each r (inr one)))

all_within : (d : Diagram) (fs gs : List Ref) (a : ℕ → Bool) → ((r : Ref) → IsOneOf r fs → IsOneOf r gs) → all_of (map (table d) gs) a ≡ true → all_of (map (table d) fs) a ≡ true
all_within d fs gs a within e = all_from d fs a (λ r one. all_to d gs a e r (within r one))

-- ---- a Rel and another with the same laws of a step, and none of the first state

module _ (d : Diagram) (rel other : Rel) (before : other.before_step.items ≡ rel.before_step.items) (broken : other.broken_step ≡ rel.broken_step) where
  holds_under : (p : Function) → ((r : Ref) → IsOneOf r other.now_step.items → IsOneOf r rel.now_step.items) → HoldsOn (lists_of d other) p → HoldsOn (lists_of d rel) p
  unfolding lists_of
  holds_under p within on = record {
    closed = λ old new e steps. on.closed old new e (
      all_within d other.now_step.items rel.now_step.items (both old new) within steps.0,
      ap (λ (rs : List Ref). all_of (map (table d) rs) (both old new)) before ∙ steps.1,
    );
    safe = λ old new e now fails. on.safe old new e (all_within d other.now_step.items rel.now_step.items (both old new) within now) (ap (λ (r : Ref). table d r (both old new)) broken ∙ fails);
  }

pub holds_same : (d : Diagram) (rel other : Rel) → ((r : Ref) → IsOneOf r other.now_step.items ↔ IsOneOf r rel.now_step.items) → other.before_step.items ≡ rel.before_step.items → other.broken_step ≡ rel.broken_step → (p : Function) → HoldsOn (lists_of d other) p ↔ HoldsOn (lists_of d rel) p
holds_same d rel other same before broken p = (
  holds_under d rel other before broken p (λ r. (same r).0),
  holds_under d other rel (sym before) (sym broken) p (λ r. (same r).1),
)

module _ (d : Diagram) (rel other : Rel) (ok : IsRel d rel) (same : (r : Ref) → IsOneOf r other.now_step.items ↔ IsOneOf r rel.now_step.items) (before : other.before_step.items ≡ rel.before_step.items) (broken : other.broken_step ≡ rel.broken_step) (first : other.now_first.items ≡ []) (first_before : other.before_first.items ≡ []) (first_broken : other.broken_first ≡ rel.broken_first) (bits : other.bits ≡ rel.bits) where
  in_rel : (r : Ref) → IsOneOf r (refs_of other) → IsOneOf r (refs_of rel)
  unfolding refs_of
  in_rel r one = elim (one_append r other.now_first.items _ one) [
    | inl none ↦ absurd (subst (IsOneOf r) first none)
    | inr one_2 ↦ elim (one_append r other.before_first.items _ one_2) [
      | inl none ↦ absurd (subst (IsOneOf r) first_before none)
      | inr one_3 ↦ elim one_3 [
        | inl e ↦ in_broken_first rel r (e ∙ first_broken)
        | inr one_4 ↦ elim (one_append r other.now_step.items _ one_4) [
          | inl now ↦ in_now_step rel r ((same r).0 now)
          | inr one_5 ↦ elim (one_append r other.before_step.items _ one_5) [
            | inl one_6 ↦ in_before_step rel r (subst (IsOneOf r) before one_6)
            | inr last ↦ elim last [ inl e ↦ in_broken_step rel r (e ∙ broken) | inr none ↦ absurd none ]
          ]
        ]
      ]
    ]
  ]

  pub rel_same : IsRel d other
  rel_same = record {
    vars = ok.vars ∙ ap (λ (n : ℕ). 2 * n) (sym bits);
    live = live_each d (refs_of other) (λ r one. each_live d (refs_of rel) ok.live r (in_rel r one));
    now_first = subst (λ (rs : List Ref). AllCurrent (map (table d) rs)) (sym first) tt;
    before_first = subst (λ (rs : List Ref). AllCurrent (map (table d) rs)) (sym first_before) tt;
    broken_first = subst (λ (r : Ref). IsCurrent (table d r)) (sym first_broken) ok.broken_first;
  }
