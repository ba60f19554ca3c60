-- A Rel in a store that grew, and its runs of operations.
use Rattle.std.proofs.Common.{◌≡◌, ℕ, ◌*◌, Bool, true, ◌↔◌, ◌⊎◌, IsTrue, inl, inr, List, [], ◌∷◌, ◌++◌, map, refl, sym, ◌∙◌, ap, subst, Result, Ok, Err, IfOk}
use Rattle.bdd_store.specs.declared.Ref.{Ref}
use Rattle.bdd_store.specs.Diagram.{Diagram, IsLive, IsConstant, table, Keeps}
use Rattle.bdd_store.proofs.Keeping.{table_kept}
use Rattle.bdd_ops.specs.Functions.{Function}
use Rattle.smv_rings.specs.declared.Rel.{Rel}
use Rattle.smv_rings.specs.declared.ops.Op.{Op}
use Rattle.smv_rings.specs.declared.ops.Op.TheVariants.{And, Look}
use Rattle.smv_rings.specs.Functions.{always, DependsBelow}
use Rattle.smv_rings.specs.Lists.{Lists, IsCurrent, IsRel, lists_of, refs_of}
use Rattle.smv_rings.specs.Paths.{IsInductive}
use Rattle.smv_rings.specs.Schedule.{Act, turn}
use Rattle.smv_rings.specs.Schedule.Act.{Join, Look_at}
use Rattle.smv_rings.specs.Ops.{IsOneOf, acts_of, refs_in_all, FitsActs}
use Rattle.smv_rings.proofs.Fits.{turn_fits}
use Rattle.smv_rings.proofs.Refs.{in_now_first, in_before_first, in_broken_first}
use Rattle.smv_rings.proofs.Rels.{lists_ok}
use Rattle.smv_rings.proofs.Tables.{table_below}
use Rattle.smv_rings.proofs.Kept.{acts_append, lists_kept}
use Rattle.smv_inductive.specs.Runs.{StaysWithin}
use Rattle.smv_inductive.specs.Halves.{HoldsFirst, HoldsOn, first_ops_of}
use Rattle.smv_inductive.proofs.Means.{first_acts, first_means, steps_mean}

-- ---- the operations of the first state

acts_ands : (d : Diagram) (k : ℕ) (rs : List Ref) → acts_of d k (map And rs) ≡ map Join (map (table d) rs)
acts_ands d k [] = refl
acts_ands d k (r ∷ rs) = ap (λ acts. Join (table d r) ∷ acts) (acts_ands d k rs)

first_is : (d : Diagram) (k : ℕ) (rel : Rel) → acts_of d k (first_ops_of rel) ≡ first_acts k (lists_of d rel)
unfolding lists_of
first_is d k rel =
    acts_append d k (map And rel.now_first.items) (Look rel.broken_first ∷ map And rel.before_first.items)
    ∙ ap (λ acts. acts ++ (Look_at k (table d rel.broken_first) ∷ acts_of d k (map And rel.before_first.items))) (acts_ands d k rel.now_first.items)
    ∙ ap (λ acts. map Join (map (table d) rel.now_first.items) ++ (Look_at k (table d rel.broken_first) ∷ acts)) (acts_ands d k rel.before_first.items)

fits_ands : (d : Diagram) (n k : ℕ) (rs : List Ref) (ops : List Op) (p : Function) → ((q : Function) → FitsActs n q (acts_of d k ops)) → FitsActs n p (acts_of d k (map And rs ++ ops))
fits_ands d n k [] ops p fits = fits p
fits_ands d n k (r ∷ rs) ops p fits = (tt, fits_ands d n k rs ops _ fits)

fits_last : (d : Diagram) (n k : ℕ) (rs : List Ref) (p : Function) → FitsActs n p (acts_of d k (map And rs))
fits_last d n k [] p = tt
fits_last d n k (r ∷ rs) p = (tt, fits_last d n k rs _)

pub first_fits : (d : Diagram) (n k : ℕ) (rel : Rel) (p : Function) → FitsActs n p (acts_of d k (first_ops_of rel))
first_fits d n k rel p = fits_ands d n k rel.now_first.items (Look rel.broken_first ∷ map And rel.before_first.items) p (λ q. (tt, fits_last d n k rel.before_first.items q))

in_ands : (r : Ref) (rs : List Ref) → IsOneOf r (refs_in_all (map And rs)) → IsOneOf r rs
in_ands r [] one = one
in_ands r (q ∷ rs) one = elim one [ inl e ↦ inl e | inr more ↦ inr (in_ands r rs more) ]

in_ands_or : (r : Ref) (rs : List Ref) (ops : List Op) → IsOneOf r (refs_in_all (map And rs ++ ops)) → IsOneOf r rs ⊎ IsOneOf r (refs_in_all ops)
in_ands_or r [] ops one = inr one
in_ands_or r (q ∷ rs) ops one = elim one [
  | inl e ↦ inl (inl e)
  | inr more ↦ elim (in_ands_or r rs ops more) [ inl here ↦ inl (inr here) | inr behind ↦ inr behind ]
]

pub first_refs : (rel : Rel) (r : Ref) → IsOneOf r (refs_in_all (first_ops_of rel)) → IsOneOf r (refs_of rel)
first_refs rel r one = elim (in_ands_or r rel.now_first.items (Look rel.broken_first ∷ map And rel.before_first.items) one) [
  | inl now ↦ in_now_first rel r now
  | inr more ↦ elim more [
    | inl e ↦ in_broken_first rel r e
    | inr before ↦ in_before_first rel r (in_ands r rel.before_first.items before)
  ]
]

-- ---- what the runs mean

set_below : (d : Diagram) (rel : Rel) (set : Ref) → IsRel d rel → DependsBelow (2 * rel.bits) (table d set)
set_below d rel set ok = subst (λ (n : ℕ). DependsBelow n (table d set)) ok.vars (table_below d set)

pub first_half : (d : Diagram) (rel : Rel) (set all : Ref) (ops : List Op) → IsRel d rel → IsCurrent (table d set) → IsConstant d all true → ops ≡ first_ops_of rel → StaysWithin (table d all) (acts_of d 1 ops) (table d set) ↔ HoldsFirst (lists_of d rel) (table d set)
unfolding lists_of
first_half d rel set all ops ok current constant is =
    let start : table d all ≡ always = λ i a. constant a i in
    let acts : acts_of d 1 ops ≡ first_acts 1 (lists_of d rel) = ap (acts_of d 1) is ∙ first_is d 1 rel in
    subst (λ (p : Function). StaysWithin p (acts_of d 1 ops) (table d set) ↔ HoldsFirst (lists_of d rel) (table d set)) (sym start)
    (subst (λ (xs : List Act). StaysWithin always xs (table d set) ↔ HoldsFirst (lists_of d rel) (table d set)) (sym acts)
    (first_means (lists_of d rel) (lists_ok d rel ok) (table d set) (set_below d rel set ok) current 1))

pub step_half : (d : Diagram) (rel : Rel) (set : Ref) (ops : List Op) → IsRel d rel → IsCurrent (table d set) → acts_of d 1 ops ≡ turn (lists_of d rel) 0 → StaysWithin (table d set) (acts_of d 1 ops) (table d set) ↔ HoldsOn (lists_of d rel) (table d set)
unfolding lists_of
step_half d rel set ops ok current acts =
    subst (λ (xs : List Act). StaysWithin (table d set) xs (table d set) ↔ HoldsOn (lists_of d rel) (table d set)) (sym acts)
    (steps_mean (lists_of d rel) (lists_ok d rel ok) (table d set) (set_below d rel set ok) current 0)

pub step_fits : (d : Diagram) (rel : Rel) (set : Ref) (ops : List Op) → IsRel d rel → acts_of d 1 ops ≡ turn (lists_of d rel) 0 → FitsActs d.vars (table d set) (acts_of d 1 ops)
unfolding lists_of
step_fits d rel set ops ok acts =
    subst (λ (n : ℕ). FitsActs n (table d set) (acts_of d 1 ops)) (sym ok.vars)
    (subst (FitsActs (2 * rel.bits) (table d set)) (sym acts) (turn_fits (lists_of d rel) (lists_ok d rel ok) (table d set) 0 (set_below d rel set ok)))

-- ---- the two halves

pub iff_then : {E : Type 0} → (r : Result Bool E) (A B : Type 0) → A ↔ B → IfOk r (λ x. IsTrue x ↔ A) → IfOk r (λ x. IsTrue x ↔ B)
iff_then (Ok x) A B iff is = ((λ t. iff.0 (is.0 t)), λ b. is.1 (iff.1 b))
iff_then (Err e) A B iff is = tt

pub iff_trans : {A B C : Type 0} → A ↔ B → B ↔ C → A ↔ C
iff_trans ab bc = ((λ a. bc.0 (ab.0 a)), λ c. ab.1 (bc.1 c))

-- the half of steps is said of the store after the half of the first state
pub halves_join : (d e : Diagram) (rel : Rel) (set : Ref) → IsRel d rel → IsLive d set → Keeps d e → HoldsFirst (lists_of d rel) (table d set) → HoldsOn (lists_of e rel) (table e set) ↔ IsInductive (lists_of d rel) (table d set)
halves_join d e rel set ok live keeps first =
    subst (λ (l : Lists). HoldsOn l (table e set) ↔ IsInductive (lists_of d rel) (table d set)) (sym (lists_kept d e rel ok keeps))
    (subst (λ (p : Function). HoldsOn (lists_of d rel) p ↔ IsInductive (lists_of d rel) (table d set)) (sym (table_kept d e set keeps live)) (
      (λ on. record { starts = first.starts; closed = on.closed; safe_first = first.safe; safe_step = on.safe }),
      (λ is. record { closed = is.closed; safe = is.safe_step }),
    ))

pub current_kept : (d e : Diagram) (set : Ref) → Keeps d e → IsLive d set → IsCurrent (table d set) → IsCurrent (table e set)
current_kept d e set keeps live current = subst IsCurrent (sym (table_kept d e set keeps live)) current
