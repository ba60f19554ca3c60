-- Runs of operations.
use Rattle.std.proofs.Common.{◌≡◌, ℕ, zero, suc, ◌+◌, ◌<◌, ◌≤◌, inl, List, [], ◌∷◌, ◌++◌, map, length, drop, get_or, refl, sym, ◌∙◌, ap, subst, arith, append_assoc, Result, Ok, Err, Option, Some, None}
use Rattle.std.proofs.Math.Seq.{drop-cons}
use Rattle.bdd_store.specs.declared.Ref.{Ref}
use Rattle.bdd_store.specs.Diagram.{Diagram, IsLive, table}
use Rattle.bdd_ops.specs.Functions.{Function}
use Rattle.smv_rings.specs.Schedule.{Act, Line, left_by, lines, after}
use Rattle.smv_rings.specs.Schedule.Act.{Join, Look_at}
use Rattle.smv_rings.specs.Ops.{IsOneOf}
use Rattle.smv_search.specs.Keeping.{AllHeld, KeepsRefs}
use Rattle.smv_rings.specs.declared.ops.Op.{Op}
use Rattle.smv_rings.specs.declared.ops.Op.TheVariants.{And, Exists, Look, Rename}
use Rattle.smv_search.specs.declared.counts.Stop.{Stop}
use Rattle.smv_search.specs.declared.counts.Stop.TheVariants.{TooMany, OutOfMemory}
use Rattle.law_events.specs.Events.{Budget, Event, AllUneventful, First}
use Rattle.law_events.specs.Events.Event.{Counted, Reached}
use Rattle.smv_rings.specs.Ops.{act_of, acts_of, refs_in, refs_in_all, FitsAct, FitsActs}
use Rattle.smv_search.specs.Runs.{Runs, Ran}
use Rattle.smv_search.proofs.Keep.{map_kept, keeps_then}
use Rattle.smv_rings.proofs.Refs.{one_left, one_right}

pub nil_append : (xs : List Line) → xs ++ [] ≡ xs
nil_append [] = refl
nil_append (x ∷ xs) = ap (λ ys. x ∷ ys) (nil_append xs)

pub pass_append : (b : Budget) (xs ys : List Line) → AllUneventful b xs → AllUneventful b ys → AllUneventful b (xs ++ ys)
unfolding AllUneventful
pass_append b [] ys p q = q
pass_append b (x ∷ xs) ys p q = (p.0, pass_append b xs ys p.1 q)

-- the first event behind lines that pass
pub first_behind : (b : Budget) (xs ys zs : List Line) (v : Event) → AllUneventful b xs → First b ys v → First b (xs ++ (ys ++ zs)) v
unfolding First
first_behind b xs ys zs v pass (before, line, behind, is, passed, decides) = (
  xs ++ before,
  line,
  behind ++ zs,
  ap (λ ls. xs ++ (ls ++ zs)) is ∙ ap (λ ls. xs ++ ls) (append_assoc before (line ∷ behind) zs) ∙ sym (append_assoc xs before (line ∷ (behind ++ zs))),
  pass_append b xs before pass passed,
  decides,
)

pub ran_start : (b : Budget) (kept : List Function) (p : Function) (acts : List Act) → Ran b kept p acts p acts
unfolding AllUneventful
ran_start b kept p acts = record { done = []; passed = tt; is_left = refl; leads = refl }

module _ (b : Budget) (kept : List Function) (start : Function) (acts : List Act) (p : Function) where
  pub ran_on : (act : Act) (left : List Act) → Ran b kept start acts p (act ∷ left) → AllUneventful b (lines kept p (act ∷ [])) → Ran b kept start acts (left_by act p) left
  ran_on act left ran pass = record {
    done = ran.done ++ lines kept p (act ∷ []);
    passed = pass_append b ran.done (lines kept p (act ∷ [])) ran.passed pass;
    is_left = ran.is_left ∙ sym (append_assoc ran.done (lines kept p (act ∷ [])) (lines kept (left_by act p) left));
    leads = ran.leads;
  }

  pub ran_first : (act : Act) (left : List Act) (v : Event) → Ran b kept start acts p (act ∷ left) → First b (lines kept p (act ∷ [])) v → First b (lines kept start acts) v
  ran_first act left v ran first = subst (λ ls. First b ls v) (sym ran.is_left) (first_behind b ran.done (lines kept p (act ∷ [])) (lines kept (left_by act p) left) v ran.passed first)

  pub ran_end : Ran b kept start acts p [] → AllUneventful b (lines kept start acts) × (p ≡ after start acts)
  ran_end ran = (subst (AllUneventful b) (sym (nil_append ran.done) ∙ sym ran.is_left) ran.passed, sym ran.leads)

pub act_kept : (d e : Diagram) (k : ℕ) (op : Op) (refs : List Ref) → KeepsRefs d e refs → ((r : Ref) → IsOneOf r (refs_in op) → IsOneOf r refs) → act_of e k op ≡ act_of d k op
act_kept d e k (And f) refs keeps sub = ap Join (keeps.tables f (sub f (inl refl)))
act_kept d e k (Exists v) refs keeps sub = refl
act_kept d e k (Look f) refs keeps sub = ap (Look_at k) (keeps.tables f (sub f (inl refl)))
act_kept d e k Rename refs keeps sub = refl

-- what an operation says of its line, said over the first store
pub runs_from : (d e f : Diagram) (k images nodes : ℕ) (op : Op) (refs now : List Ref) (p : Function) (r : Result (Option Ref) Stop) → KeepsRefs d e refs → ((q : Ref) → IsOneOf q (refs_in op) → IsOneOf q refs) → now ≡ refs
    → Runs f (record { vars = e.vars; nodes = nodes; images = images }) (map (table e) now) p (act_of e k op ∷ []) k r
    → Runs f (record { vars = d.vars; nodes = nodes; images = images }) (map (table d) refs) p (act_of d k op ∷ []) k r
runs_from d e f k images nodes op refs now p r keeps sub same runs =
    subst (λ (act : Act). Runs f (record { vars = d.vars; nodes = nodes; images = images }) (map (table d) refs) p (act ∷ []) k r) (act_kept d e k op refs keeps sub) (
    subst (λ (kept : List Function). Runs f (record { vars = d.vars; nodes = nodes; images = images }) kept p (act_of e k op ∷ []) k r) (ap (map (table e)) same ∙ map_kept d e refs keeps) (
    subst (λ (n : ℕ). Runs f (record { vars = n; nodes = nodes; images = images }) (map (table e) now) p (act_of e k op ∷ []) k r) keeps.vars runs))

module _ (f : Diagram) (b : Budget) (kept : List Function) (start : Function) (acts : List Act) (p : Function) (act : Act) (left : List Act) (k : ℕ) (ran : Ran b kept start acts p (act ∷ left)) where
  pub stops : (e : Stop) → Runs f b kept p (act ∷ []) k (Err e) → Runs f b kept start acts k (Err e)
  stops (TooMany n) runs = ran_first b kept start acts p act left (Counted n) ran runs
  stops OutOfMemory runs = tt

  pub finds : Runs f b kept p (act ∷ []) k (Ok None) → Runs f b kept start acts k (Ok None)
  finds runs = ran_first b kept start acts p act left (Reached k) ran runs

  pub goes_on : (made : Ref) → Runs f b kept p (act ∷ []) k (Ok (Some made)) → Ran b kept start acts (table f made) left
  goes_on made runs = subst (λ q. Ran b kept start acts q left) (sym runs.2) (ran_on b kept start acts p act left ran runs.0)

-- what is left at an index
pub acts_drop : (d : Diagram) (k : ℕ) (ops : List Op) (i : ℕ) (o : Op) → i < length ops → acts_of d k (drop i ops) ≡ act_of d k (get_or ops i o) ∷ acts_of d k (drop (i + 1) ops)
acts_drop d k ops i o lt = ap (acts_of d k) (drop-cons ops i o lt) ∙ ap (λ j. act_of d k (get_or ops i o) ∷ acts_of d k (drop j ops)) (let e : suc i ≡ i + 1 = omega arith in e)

pub refs_at : (ops : List Op) (i : ℕ) (o : Op) → i < length ops → (r : Ref) → IsOneOf r (refs_in (get_or ops i o)) → IsOneOf r (refs_in_all ops)
refs_at [] i o lt r one = absurd (omega arith)
refs_at (x ∷ ops) zero o lt r one = one_left r (refs_in x) (refs_in_all ops) one
refs_at (x ∷ ops) (suc i) o lt r one = one_right r (refs_in x) (refs_in_all ops) (refs_at ops i o (omega arith) r one)

module _ (d e : Diagram) (refs now : List Ref) (ops : List Op) (i : ℕ) (o : Op) (p : Ref) (lt : i < length ops) (sub : (r : Ref) → IsOneOf r (refs_in_all ops) → IsOneOf r refs)
    (same : now ≡ refs) (keeps : KeepsRefs d e refs) (fits : FitsActs d.vars (table e p) (acts_of d 0 (drop i ops))) where
  pub held_now : AllHeld e now
  held_now = subst (AllHeld e) (sym same) keeps.live

  pub sub_op : (q : Ref) → IsOneOf q (refs_in (get_or ops i o)) → IsOneOf q refs
  sub_op q one = sub q (refs_at ops i o lt q one)

  pub sub_now : (q : Ref) → IsOneOf q (refs_in (get_or ops i o)) → IsOneOf q now
  sub_now q one = subst (IsOneOf q) (sym same) (sub_op q one)

  fits_here : FitsActs d.vars (table e p) (act_of d 0 (get_or ops i o) ∷ acts_of d 0 (drop (i + 1) ops))
  fits_here = subst (FitsActs d.vars (table e p)) (acts_drop d 0 ops i o lt) fits

  pub fits_op : FitsAct e.vars (table e p) (act_of e 0 (get_or ops i o))
  fits_op = subst (FitsAct e.vars (table e p)) (sym (act_kept d e 0 (get_or ops i o) refs keeps sub_op)) (subst (λ n. FitsAct n (table e p) (act_of d 0 (get_or ops i o))) (sym keeps.vars) fits_here.0)

  module _ (f : Diagram) (nodes : ℕ) (start : Ref) (r : Result (Option Ref) Stop) (step_keeps : KeepsRefs e f now)
      (ran : (k images : ℕ) → Ran (record { vars = d.vars; nodes = nodes; images = images }) (map (table d) refs) (table d start) (acts_of d k ops) (table e p) (acts_of d k (drop i ops)))
      (runs : (k images : ℕ) → Runs f (record { vars = e.vars; nodes = nodes; images = images }) (map (table e) now) (table e p) (act_of e k (get_or ops i o) ∷ []) k r) where
    pub keeps_on : KeepsRefs d f refs
    keeps_on = keeps_then d e f refs keeps (subst (KeepsRefs e f) same step_keeps)

    abbrev Budget_of : ℕ → Budget
    Budget_of images = record { vars = d.vars; nodes = nodes; images = images }

    ran_here : (k images : ℕ) → Ran (Budget_of images) (map (table d) refs) (table d start) (acts_of d k ops) (table e p) (act_of d k (get_or ops i o) ∷ acts_of d k (drop (i + 1) ops))
    ran_here k images = subst (Ran (Budget_of images) (map (table d) refs) (table d start) (acts_of d k ops) (table e p)) (acts_drop d k ops i o lt) (ran k images)

    runs_here : (s : Result (Option Ref) Stop) → r ≡ s → (k images : ℕ) → Runs f (Budget_of images) (map (table d) refs) (table e p) (act_of d k (get_or ops i o) ∷ []) k s
    runs_here s is k images = subst (λ (t : Result (Option Ref) Stop). Runs f (Budget_of images) (map (table d) refs) (table e p) (act_of d k (get_or ops i o) ∷ []) k t) is (runs_from d e f k images nodes (get_or ops i o) refs now (table e p) r keeps sub_op same (runs k images))

    pub on_stop : (s : Stop) → r ≡ Err s → (k images : ℕ) → Runs f (Budget_of images) (map (table d) refs) (table d start) (acts_of d k ops) k (Err s)
    on_stop s is k images = stops f (Budget_of images) (map (table d) refs) (table d start) (acts_of d k ops) (table e p) (act_of d k (get_or ops i o)) (acts_of d k (drop (i + 1) ops)) k (ran_here k images) s (runs_here (Err s) is k images)

    pub on_none : r ≡ Ok None → (k images : ℕ) → Runs f (Budget_of images) (map (table d) refs) (table d start) (acts_of d k ops) k (Ok None)
    on_none is k images = finds f (Budget_of images) (map (table d) refs) (table d start) (acts_of d k ops) (table e p) (act_of d k (get_or ops i o)) (acts_of d k (drop (i + 1) ops)) k (ran_here k images) (runs_here (Ok None) is k images)

    pub on_some : (made : Ref) → r ≡ Ok (Some made) → (k images : ℕ) → Ran (Budget_of images) (map (table d) refs) (table d start) (acts_of d k ops) (table f made) (acts_of d k (drop (i + 1) ops))
    on_some made is k images = goes_on f (Budget_of images) (map (table d) refs) (table d start) (acts_of d k ops) (table e p) (act_of d k (get_or ops i o)) (acts_of d k (drop (i + 1) ops)) k (ran_here k images) made (runs_here (Ok (Some made)) is k images)

    pub some_live : (made : Ref) → r ≡ Ok (Some made) → IsLive f made
    some_live made is = (runs_here (Ok (Some made)) is 0 0).1

    pub some_fits : (made : Ref) → r ≡ Ok (Some made) → FitsActs d.vars (table f made) (acts_of d 0 (drop (i + 1) ops))
    some_fits made is = subst (λ q. FitsActs d.vars q (acts_of d 0 (drop (i + 1) ops))) (sym (runs_here (Ok (Some made)) is 0 0).2) fits_here.1

drop_all : (ops : List Op) (i : ℕ) → length ops ≤ i → drop i ops ≡ []
drop_all [] zero le = refl
drop_all [] (suc i) le = refl
drop_all (op ∷ ops) zero le = absurd (omega arith)
drop_all (op ∷ ops) (suc i) le = drop_all ops i (omega arith)

pub ran_all : (d : Diagram) (b : Budget) (kept : List Function) (start p : Function) (ops : List Op) (i k : ℕ) → length ops ≤ i → Ran b kept start (acts_of d k ops) p (acts_of d k (drop i ops)) → AllUneventful b (lines kept start (acts_of d k ops)) × (p ≡ after start (acts_of d k ops))
ran_all d b kept start p ops i k le ran = ran_end b kept start (acts_of d k ops) p (subst (λ left. Ran b kept start (acts_of d k ops) p (acts_of d k left)) (drop_all ops i le) ran)
