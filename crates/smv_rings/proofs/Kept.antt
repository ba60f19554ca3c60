-- A Rel and its operations in a store that grew.
use Rattle.std.proofs.Common.{◌≡◌, ℕ, List, [], ◌∷◌, ◌++◌, map, refl, sym, ◌∙◌, ap, subst, inl, inr}
use Rattle.bdd_store.specs.declared.Ref.{Ref}
use Rattle.bdd_store.specs.Diagram.{Diagram, IsLive, table, Keeps}
use Rattle.bdd_store.proofs.Keeping.{table_kept}
use Rattle.bdd_ops.specs.Functions.{Function}
use Rattle.smv_rings.specs.declared.Rel.{Rel}
use Rattle.smv_rings.specs.declared.ops.Op.{Op}
use Rattle.smv_rings.specs.declared.ops.Op.TheVariants.{And, Exists, Look, Rename}
use Rattle.smv_rings.specs.Lists.{IsCurrent, AllCurrent, IsRel, lists_of, refs_of}
use Rattle.smv_rings.specs.Ops.{IsOneOf, act_of, acts_of, refs_in, FitsAct}
use Rattle.smv_rings.specs.Schedule.Act.{Join, Look_at}
use Rattle.smv_rings.proofs.Refs.{each_live, live_each, in_now_first, in_before_first, in_broken_first, in_now_step, in_before_step, in_broken_step}
use Rattle.smv_rings.proofs.Fits.{fits_any}

pub held_kept : (d e : Diagram) (rs : List Ref) → Keeps d e → ((r : Ref) → IsOneOf r rs → IsLive d r) → map (table e) rs ≡ map (table d) rs
held_kept d e [] keeps live = refl
held_kept d e (r ∷ rs) keeps live = ap (λ f. f ∷ map (table e) rs) (table_kept d e r keeps (live r (inl refl))) ∙ ap (λ fs. table d r ∷ fs) (held_kept d e rs keeps (λ q one. live q (inr one)))

-- ---- a Rel in a store that keeps its functions
module _ (d e : Diagram) (rel : Rel) (ok : IsRel d rel) (keeps : Keeps d e) where
  one_live : (r : Ref) → IsOneOf r (refs_of rel) → IsLive d r
  one_live = each_live d (refs_of rel) ok.live

  now_first_kept : map (table e) rel.now_first.items ≡ map (table d) rel.now_first.items
  now_first_kept = held_kept d e rel.now_first.items keeps (λ r one. one_live r (in_now_first rel r one))

  before_first_kept : map (table e) rel.before_first.items ≡ map (table d) rel.before_first.items
  before_first_kept = held_kept d e rel.before_first.items keeps (λ r one. one_live r (in_before_first rel r one))

  broken_first_kept : table e rel.broken_first ≡ table d rel.broken_first
  broken_first_kept = table_kept d e rel.broken_first keeps (one_live rel.broken_first (in_broken_first rel rel.broken_first refl))

  now_step_kept : map (table e) rel.now_step.items ≡ map (table d) rel.now_step.items
  now_step_kept = held_kept d e rel.now_step.items keeps (λ r one. one_live r (in_now_step rel r one))

  before_step_kept : map (table e) rel.before_step.items ≡ map (table d) rel.before_step.items
  before_step_kept = held_kept d e rel.before_step.items keeps (λ r one. one_live r (in_before_step rel r one))

  broken_step_kept : table e rel.broken_step ≡ table d rel.broken_step
  broken_step_kept = table_kept d e rel.broken_step keeps (one_live rel.broken_step (in_broken_step rel rel.broken_step refl))

  pub lists_kept : lists_of e rel ≡ lists_of d rel
  unfolding lists_of
  lists_kept = λ i. record {
    now_first = now_first_kept i;
    before_first = before_first_kept i;
    broken_first = broken_first_kept i;
    now_step = now_step_kept i;
    before_step = before_step_kept i;
    broken_step = broken_step_kept i;
    bits = rel.bits;
  }

  pub rel_kept : IsRel e rel
  rel_kept = record {
    vars = keeps.vars ∙ ok.vars;
    live = live_each e (refs_of rel) (λ r one. keeps.live r (one_live r one));
    now_first = subst AllCurrent (sym now_first_kept) ok.now_first;
    before_first = subst AllCurrent (sym before_first_kept) ok.before_first;
    broken_first = subst IsCurrent (sym broken_first_kept) ok.broken_first;
  }

-- ---- operations

pub act_kept : (d e : Diagram) (op : Op) → Keeps d e → ((r : Ref) → IsOneOf r (refs_in op) → IsLive d r) → act_of e 1 op ≡ act_of d 1 op
act_kept d e (And f) keeps live = ap Join (table_kept d e f keeps (live f (inl refl)))
act_kept d e (Exists v) keeps live = refl
act_kept d e (Look f) keeps live = ap (Look_at 1) (table_kept d e f keeps (live f (inl refl)))
act_kept d e Rename keeps live = refl

pub acts_append : (d : Diagram) (k : ℕ) (xs ys : List Op) → acts_of d k (xs ++ ys) ≡ acts_of d k xs ++ acts_of d k ys
acts_append d k [] ys = refl
acts_append d k (x ∷ xs) ys = ap (λ acts. act_of d k x ∷ acts) (acts_append d k xs ys)

-- whatever path a look is for
pub fits_one : (d : Diagram) (n : ℕ) (p : Function) (op : Op) → FitsAct n p (act_of d 1 op) → FitsAct n p (act_of d 0 op)
fits_one d n p op fits = (fits_any d n 1 0 p (op ∷ []) (fits, tt)).0
