-- Runs of operations.
use Rattle.std.proofs.Common.{◌≡◌, ℕ, suc, ◌+◌, ◌<◌, ◌≤◌, Bool, true, false, ◌↔◌, IsTrue, List, [], ◌∷◌, length, drop, get_or, refl, sym, ◌∙◌, ap, subst, arith, Option, Some, None}
use Rattle.std.proofs.Math.Seq.{drop-cons}
use Rattle.std.proofs.lemmas.List.{drop_all}
use Rattle.bdd_store.specs.declared.Ref.{Ref}
use Rattle.bdd_store.specs.Diagram.{Diagram, IsLive, table, Keeps}
use Rattle.bdd_store.proofs.Keeping.{keeps_self, keeps_then, table_kept}
use Rattle.bdd_ops.specs.Functions.{Function}
use Rattle.smv_rings.specs.Schedule.{Act, made_by, after}
use Rattle.smv_rings.specs.declared.ops.Op.{Op}
use Rattle.smv_rings.specs.declared.ops.Op.TheVariants.{And, Exists, Look, Rename}
use Rattle.smv_rings.specs.Ops.{IsOneOf, act_of, acts_of, refs_in, refs_in_all, FitsAct, FitsActs}
use Rattle.smv_rings.proofs.Refs.{one_left, one_right}
use Rattle.smv_rings.proofs.Kept.{act_kept}
use Rattle.smv_inductive.specs.Runs.{FindsNothing, AllFindNothing, Leaves, StaysWithin}

-- ---- one operation, whatever path a look is for

pub look_passes : (d e : Diagram) (p made f : Ref) (op : Op) → op ≡ Look f → Keeps d e → IsLive d p → table e made ≡ made_by (act_of d 0 op) (table d p) → ((a : ℕ → Bool) → table e made a ≡ false) → Leaves e (table d p) (act_of d 1 op ∷ []) (Some p)
look_passes d e p made f op is keeps live makes none =
    subst (λ (o : Op). table e made ≡ made_by (act_of d 0 o) (table d p) → Leaves e (table d p) (act_of d 1 o ∷ []) (Some p)) (sym is)
    (λ e0. (((λ a. sym (ap (λ g. g a) e0) ∙ none a), tt), keeps.live p live, table_kept d e p keeps live)) makes

pub look_finds : (d e : Diagram) (p made f : Ref) (op : Op) → op ≡ Look f → table e made ≡ made_by (act_of d 0 op) (table d p) → (((a : ℕ → Bool) → table e made a ≡ false) → ⊥) → Leaves e (table d p) (act_of d 1 op ∷ []) None
look_finds d e p made f op is makes some =
    subst (λ (o : Op). table e made ≡ made_by (act_of d 0 o) (table d p) → Leaves e (table d p) (act_of d 1 o ∷ []) None) (sym is)
    (λ e0 passes. some (λ a. ap (λ g. g a) e0 ∙ passes.0 a)) makes

pub plain_leaves : (d e : Diagram) (p made : Ref) (op : Op) → ((f : Ref) → op ≡ Look f → ⊥) → IsLive e made → table e made ≡ made_by (act_of d 0 op) (table d p) → Leaves e (table d p) (act_of d 1 op ∷ []) (Some made)
plain_leaves d e p made (And f) no_look live makes = ((tt, tt), live, makes)
plain_leaves d e p made (Exists v) no_look live makes = ((tt, tt), live, makes)
plain_leaves d e p made (Look f) no_look live makes = absurd (no_look f refl)
plain_leaves d e p made Rename no_look live makes = ((tt, tt), live, makes)

-- ---- a run, of which some operations are left

pub record IsLeft (d : Diagram) (start : Ref) (all : List Op) (e : Diagram) (p : Ref) (left : List Op) : Type 0 where
  pub keeps : Keeps d e
  pub live : IsLive e p
  pub refs : (r : Ref) → IsOneOf r (refs_in_all left) → IsLive d r
  pub fits : FitsActs d.vars (table e p) (acts_of d 1 left)
  pub leads : after (table d start) (acts_of d 1 all) ≡ after (table e p) (acts_of d 1 left)
  pub passed : AllFindNothing (table d start) (acts_of d 1 all) ↔ AllFindNothing (table e p) (acts_of d 1 left)

pub left_all : (d : Diagram) (start : Ref) (all : List Op) → IsLive d start → ((r : Ref) → IsOneOf r (refs_in_all all) → IsLive d r) → FitsActs d.vars (table d start) (acts_of d 1 all) → IsLeft d start all d start all
left_all d start all live refs fits = record { keeps = keeps_self d; live = live; refs = refs; fits = fits; leads = refl; passed = ((λ h. h), λ h. h) }

-- the operation at index i is next
module _ (d : Diagram) (start : Ref) (all : List Op) (e : Diagram) (p : Ref) (i : ℕ) (o : Op) (lt : i < length all) (is : IsLeft d start all e p (drop i all)) where
  abbrev op : Op
  op = get_or all i o

  abbrev rest : List Op
  rest = drop (suc i) all

  next : IsLeft d start all e p (op ∷ rest)
  next = subst (IsLeft d start all e p) (drop-cons all i o lt) is

  op_live : (r : Ref) → IsOneOf r (refs_in op) → IsLive d r
  op_live r one = next.refs r (one_left r (refs_in op) (refs_in_all rest) one)

  same : act_of e 1 op ≡ act_of d 1 op
  same = act_kept d e op next.keeps op_live

  pub op_refs : (r : Ref) → IsOneOf r (refs_in (get_or all i o)) → IsLive e r
  op_refs r one = next.keeps.live r (op_live r one)

  pub op_fits : FitsAct e.vars (table e p) (act_of e 1 (get_or all i o))
  op_fits = subst (λ (n : ℕ). FitsAct n (table e p) (act_of e 1 op)) (sym next.keeps.vars) (subst (FitsAct d.vars (table e p)) (sym same) next.fits.0)

  pub op_finds : (f : Diagram) (r : Option Ref) → r ≡ None → Leaves f (table e p) (act_of e 1 (get_or all i o) ∷ []) r → AllFindNothing (table d start) (acts_of d 1 all) → ⊥
  op_finds f r none finds pass = subst (Leaves f (table e p) (act_of e 1 op ∷ [])) none finds (subst (λ (act : Act). FindsNothing act (table e p)) (sym same) (next.passed.0 pass).0, tt)

  pub op_leaves : (f : Diagram) (r : Option Ref) (q : Ref) → r ≡ Some q → Keeps e f → Leaves f (table e p) (act_of e 1 (get_or all i o) ∷ []) r → IsLeft d start all f q (drop (i + 1) all)
  op_leaves f r q some keeps leaves =
      let at : Leaves f (table e p) (act_of d 1 op ∷ []) (Some q) = subst (λ (act : Act). Leaves f (table e p) (act ∷ []) (Some q)) same (subst (Leaves f (table e p) (act_of e 1 op ∷ [])) some leaves) in
      let more : suc i ≡ i + 1 = omega arith in
      subst (λ (j : ℕ). IsLeft d start all f q (drop j all)) more (record {
        keeps = keeps_then d e f next.keeps keeps;
        live = at.1;
        refs = λ r one. next.refs r (one_right r (refs_in op) (refs_in_all rest) one);
        fits = subst (λ (g : Function). FitsActs d.vars g (acts_of d 1 rest)) (sym at.2) next.fits.1;
        leads = next.leads ∙ ap (λ g. after g (acts_of d 1 rest)) (sym at.2);
        passed = (
          (λ pass. subst (λ (g : Function). AllFindNothing g (acts_of d 1 rest)) (sym at.2) (next.passed.0 pass).1),
          (λ pass. next.passed.1 (at.0.0, subst (λ (g : Function). AllFindNothing g (acts_of d 1 rest)) at.2 pass)),
        );
      })

pub left_none : (d : Diagram) (start : Ref) (all : List Op) (e : Diagram) (p : Ref) (i : ℕ) → length all ≤ i → IsLeft d start all e p (drop i all) → Leaves e (table d start) (acts_of d 1 all) (Some p)
left_none d start all e p i le is =
    let none : IsLeft d start all e p [] = subst (IsLeft d start all e p) (drop_all i all le) is in
    (none.passed.1 tt, none.live, sym none.leads)

-- ---- what is left is compared with the set

pub within_some : (d e : Diagram) (set left : Ref) (p : Function) (acts : List Act) (x : Bool) → Keeps d e → IsLive d set → Leaves e p acts (Some left) → (IsTrue x ↔ ((a : ℕ → Bool) → table e left a ≡ true → table e set a ≡ true)) → IsTrue x ↔ StaysWithin p acts (table d set)
within_some d e set left p acts x keeps live leaves iff = (
  (λ is. record { passes = leaves.0; within = λ a h. sym (keeps.tables set live a) ∙ iff.0 is a (ap (λ g. g a) leaves.2 ∙ h) }),
  (λ within. iff.1 (λ a h. keeps.tables set live a ∙ within.within a (sym (ap (λ g. g a) leaves.2) ∙ h))),
)

pub within_none : (e : Diagram) (p : Function) (acts : List Act) (set : Function) → Leaves e p acts None → IsTrue false ↔ StaysWithin p acts set
within_none e p acts set leaves = ((λ is. absurd (differ is)), λ within. absurd (leaves within.passes))
  where
    differ : IsTrue false → ⊥
    differ e = cc
