-- Conjunctions, the steps to a state, and what operations leave of a set.
use Rattle.std.proofs.Common.{◌≡◌, ◌↔◌, ℕ, suc, ◌+◌, ◌*◌, ◌/◌, ◌%◌, ◌<◌, ◌≤◌, Bool, true, false, cond, ◌&&◌, List, [], ◌∷◌, length, drop, get_or, map, refl, sym, ◌∙◌, ap, subst, arith, inl, inr, ◌⊎◌}
use Rattle.std.proofs.Math.Seq.{drop-cons}
use Rattle.std.proofs.lemmas.List.{drop_all}
use Rattle.std.proofs.lemmas.Bool.{cases_lt}
use Rattle.bdd_store.specs.declared.Ref.{Ref}
use Rattle.bdd_store.specs.Diagram.{Diagram, IsLive, AreLive, IsConstant, table, Keeps, first_var}
use Rattle.bdd_store.proofs.Keeping.{keeps_self, keeps_then}
use Rattle.bdd_ops.specs.Functions.{Function, bit_at}
use Rattle.smv_rings.specs.Lists.{State, both, all_of}
use Rattle.smv_rings.specs.Schedule.{made_by, left_by, after}
use Rattle.smv_rings.specs.declared.ops.Op.{Op}
use Rattle.smv_rings.specs.declared.ops.Op.TheVariants.{And, Exists, Look, Rename}
use Rattle.smv_rings.specs.Ops.{IsOneOf, act_of, acts_of, refs_in, refs_in_all, FitsAct, FitsActs}
use Rattle.smv_rings.proofs.Image.{both_odd, both_even}
use Rattle.smv_rings.proofs.Refs.{one_left, one_right, each_live, one_at}
use Rattle.smv_rings.proofs.Tables.{table_below}
use Rattle.smv_rings.proofs.Kept.{act_kept}

and_assoc : (x y z : Bool) → (x && y) && z ≡ x && (y && z)
and_assoc true y z = refl
and_assoc false y z = refl

and_true_right : (x : Bool) → x && true ≡ x
and_true_right true = refl
and_true_right false = refl

-- ---- the conjunction with a list, of which the first i functions are joined
pub record IsJoined (d : Diagram) (start : Ref) (fs : List Ref) (e : Diagram) (all : Ref) (i : ℕ) : Type 0 where
  pub keeps : Keeps d e
  pub live : IsLive e all
  pub table_is : (a : ℕ → Bool) → (table e all a && all_of (map (table d) (drop i fs)) a) ≡ (table d start a && all_of (map (table d) fs) a)

pub joined_none : (d : Diagram) (start : Ref) (fs : List Ref) → IsLive d start → IsJoined d start fs d start 0
joined_none d start fs live = record { keeps = keeps_self d; live = live; table_is = λ a. refl }

pub joined_one : (d e f : Diagram) (start all made : Ref) (fs : List Ref) (i : ℕ) (o : Ref) → i < length fs → AreLive d fs → IsJoined d start fs e all i → Keeps e f → IsLive f made
    → ((a : ℕ → Bool) → table f made a ≡ (table e all a && table e (get_or fs i o) a)) → IsJoined d start fs f made (i + 1)
joined_one d e f start all made fs i o lt live is keeps made_live makes =
    let more : suc i ≡ i + 1 = omega arith in
    let old : (a : ℕ → Bool) → table e (get_or fs i o) a ≡ table d (get_or fs i o) a = λ a. is.keeps.tables (get_or fs i o) (each_live d fs live (get_or fs i o) (one_at fs i o lt)) a in
    record {
      keeps = keeps_then d e f is.keeps keeps;
      live = made_live;
      table_is = λ a. subst (λ (j : ℕ). (table f made a && all_of (map (table d) (drop j fs)) a) ≡ (table d start a && all_of (map (table d) fs) a)) more
          (ap (λ x. x && all_of (map (table d) (drop (suc i) fs)) a) (makes a ∙ ap (λ x. table e all a && x) (old a))
          ∙ and_assoc (table e all a) (table d (get_or fs i o) a) (all_of (map (table d) (drop (suc i) fs)) a)
          ∙ ap (λ rest. table e all a && all_of (map (table d) rest) a) (sym (drop-cons fs i o lt))
          ∙ is.table_is a);
    }

pub joined_all : (d : Diagram) (start : Ref) (fs : List Ref) (e : Diagram) (all : Ref) (i : ℕ) → length fs ≤ i → IsJoined d start fs e all i → (a : ℕ → Bool) → table e all a ≡ (table d start a && all_of (map (table d) fs) a)
joined_all d start fs e all i le is a = sym (and_true_right (table e all a)) ∙ ap (λ rest. table e all a && all_of (map (table d) rest) a) (sym (drop_all i fs le)) ∙ is.table_is a

-- ---- the steps to a state

-- a choice between a function and 0
pub bit_true : (d e : Diagram) (none f r : Ref) (var : ℕ) → IsConstant d none false → ((a : ℕ → Bool) → table e r a ≡ cond (a var) (table d f a) (table d none a)) → (a : ℕ → Bool) → (table e r a ≡ true) ↔ ((a var ≡ true) × (table d f a ≡ true))
bit_true d e none f r var constant is a = by (a var) refl
  where
    by : (x : Bool) → a var ≡ x → (table e r a ≡ true) ↔ ((a var ≡ true) × (table d f a ≡ true))
    by true h =
        let same : table e r a ≡ table d f a = is a ∙ ap (λ y. cond y (table d f a) (table d none a)) h in
        ((λ t. (h, sym same ∙ t)), λ both. same ∙ both.1)
    by false h =
        let same : table e r a ≡ false = is a ∙ ap (λ y. cond y (table d f a) (table d none a)) h ∙ constant a in
        ((λ t. absurd (clash (sym t ∙ same))), λ both. absurd (clash (sym both.0 ∙ h)))
      where
        clash : true ≡ false → ⊥
        clash e = cc

pub bit_false : (d e : Diagram) (none f r : Ref) (var : ℕ) → IsConstant d none false → ((a : ℕ → Bool) → table e r a ≡ cond (a var) (table d none a) (table d f a)) → (a : ℕ → Bool) → (table e r a ≡ true) ↔ ((a var ≡ false) × (table d f a ≡ true))
bit_false d e none f r var constant is a = by (a var) refl
  where
    by : (x : Bool) → a var ≡ x → (table e r a ≡ true) ↔ ((a var ≡ false) × (table d f a ≡ true))
    by false h =
        let same : table e r a ≡ table d f a = is a ∙ ap (λ y. cond y (table d none a) (table d f a)) h in
        ((λ t. (h, sym same ∙ t)), λ both. same ∙ both.1)
    by true h =
        let same : table e r a ≡ false = is a ∙ ap (λ y. cond y (table d none a) (table d f a)) h ∙ constant a in
        ((λ t. absurd (clash (sym t ∙ same))), λ both. absurd (clash (sym h ∙ both.0)))
      where
        clash : true ≡ false → ⊥
        clash e = cc

-- the steps in which the next bits from this one on are those of the state
pub record AreSteps (d : Diagram) (next : List Bool) (e : Diagram) (steps : Ref) (left : ℕ) : Type 0 where
  pub within : left ≤ length next
  pub keeps : Keeps d e
  pub live : IsLive e steps
  pub later : 2 * left ≤ first_var e steps
  pub means : (a : ℕ → Bool) → (table e steps a ≡ true) ↔ ((b : ℕ) → left ≤ b → b < length next → a (2 * b + 1) ≡ bit_at next b)

pub steps_none : (d : Diagram) (next : List Bool) (steps : Ref) (left : ℕ) → left ≡ length next → d.vars ≡ 2 * length next → IsLive d steps → IsConstant d steps true → first_var d steps ≡ d.vars → AreSteps d next d steps left
steps_none d next steps left all vars live constant first = record {
  within = omega arith;
  keeps = keeps_self d;
  live = live;
  later = omega arith;
  means = λ a. ((λ t b le lt. absurd (omega arith)), λ same. constant a);
}

pub steps_more : (d e f : Diagram) (next : List Bool) (steps made : Ref) (left b : ℕ) → left ≡ suc b → AreSteps d next e steps left → Keeps e f → IsLive f made → 2 * b + 1 ≤ first_var f made
    → ((a : ℕ → Bool) → (table f made a ≡ true) ↔ ((a (2 * b + 1) ≡ bit_at next b) × (table e steps a ≡ true))) → AreSteps d next f made b
steps_more d e f next steps made left b is_left is keeps live first makes =
    let within = is.within in
    record {
      within = omega arith;
      keeps = keeps_then d e f is.keeps keeps;
      live = live;
      later = omega arith;
      means = λ a. (
        (λ t k le lt. elim (cases_lt b k) [
          | inl past ↦ (is.means a).0 ((makes a).0 t).1 k (omega arith) lt
          | inr here ↦ let same : b ≡ k = omega arith in subst (λ (j : ℕ). a (2 * j + 1) ≡ bit_at next j) same ((makes a).0 t).0
        ]),
        λ same. (makes a).1 (same b (omega arith) (omega arith), (is.means a).1 (λ k le lt. same k (omega arith) lt)),
      );
    }

pub steps_all : (d : Diagram) (next : List Bool) (e : Diagram) (steps : Ref) (left : ℕ) → left ≡ 0 → AreSteps d next e steps left → (a : ℕ → Bool) → (table e steps a ≡ true) ↔ ((b : ℕ) → b < length next → a (2 * b + 1) ≡ bit_at next b)
steps_all d next e steps left none is a = ((λ t b lt. (is.means a).0 t b (omega arith) lt), λ same. (is.means a).1 (λ b le lt. same b lt))

-- ---- one of a set of steps

pub one_is_some : (d : Diagram) (f : Ref) → ((a : ℕ → Bool) × (table d f a ≡ true)) → IsConstant d f false → ⊥
one_is_some d f (a, e) none = let n = none a in cc

pub even_or_odd : (v : ℕ) → (v % 2 ≡ 0) ⊎ (v % 2 ≡ 1)
even_or_odd v = elim (cases_lt 0 (v % 2)) [ inl some ↦ inr (omega arith) | inr none ↦ inl (omega arith) ]

-- the next bits of an assignment
abbrev odds : List Bool → State
odds values b = bit_at values (2 * b + 1)

pub picked : (d : Diagram) (f : Ref) (bits : ℕ) (values state : List Bool) → d.vars ≡ 2 * bits → table d f (bit_at values) ≡ true → ((k : ℕ) → k < bits → bit_at state k ≡ bit_at values (2 * k)) → (next : State) × (table d f (both (bit_at state) next) ≡ true)
picked d f bits values state vars e same = (odds values, table_below d f (both (bit_at state) (odds values)) (bit_at values) (λ v lt. agree v lt) ∙ e)
  where
    agree : (v : ℕ) → v < d.vars → both (bit_at state) (odds values) v ≡ bit_at values v
    agree v lt = elim (even_or_odd v) [
      | inl even ↦ both_even (bit_at state) (odds values) v even ∙ same (v / 2) (omega arith) ∙ ap (bit_at values) (let is : 2 * (v / 2) ≡ v = omega arith in is)
      | inr odd ↦ both_odd (bit_at state) (odds values) v odd ∙ ap (bit_at values) (let is : 2 * (v / 2) + 1 ≡ v = omega arith in is)
    ]

-- ---- what operations leave

pub left_is : (d : Diagram) (p : Function) (op : Op) → ((f : Ref) → op ≡ Look f → ⊥) → made_by (act_of d 0 op) p ≡ left_by (act_of d 1 op) p
left_is d p (And f) no_look = refl
left_is d p (Exists v) no_look = refl
left_is d p (Look f) no_look = absurd (no_look f refl)
left_is d p Rename no_look = refl

pub look_leaves : (d : Diagram) (p : Function) (op : Op) (f : Ref) → op ≡ Look f → p ≡ left_by (act_of d 1 op) p
look_leaves d p op f is = subst (λ (o : Op). p ≡ left_by (act_of d 1 o) p) (sym is) refl

-- some operations are left
pub record IsLeft (d : Diagram) (start : Ref) (all : List Op) (e : Diagram) (p : Ref) (left : List Op) : Type 0 where
  pub keeps : Keeps d e
  pub live : IsLive e p
  pub refs : (r : Ref) → IsOneOf r (refs_in_all left) → IsLive d r
  pub fits : FitsActs d.vars (table e p) (acts_of d 1 left)
  pub leads : after (table d start) (acts_of d 1 all) ≡ after (table e p) (acts_of d 1 left)

pub left_all : (d : Diagram) (start : Ref) (all : List Op) → IsLive d start → ((r : Ref) → IsOneOf r (refs_in_all all) → IsLive d r) → FitsActs d.vars (table d start) (acts_of d 1 all) → IsLeft d start all d start all
left_all d start all live refs fits = record { keeps = keeps_self d; live = live; refs = refs; fits = fits; leads = refl }

-- the operation at index i is next
module _ (d : Diagram) (start : Ref) (all : List Op) (e : Diagram) (p : Ref) (i : ℕ) (o : Op) (lt : i < length all) (is : IsLeft d start all e p (drop i all)) where
  abbrev op : Op
  op = get_or all i o

  abbrev rest : List Op
  rest = drop (suc i) all

  next : IsLeft d start all e p (op ∷ rest)
  next = subst (IsLeft d start all e p) (drop-cons all i o lt) is

  op_live : (r : Ref) → IsOneOf r (refs_in op) → IsLive d r
  op_live r one = next.refs r (one_left r (refs_in op) (refs_in_all rest) one)

  same : act_of e 1 op ≡ act_of d 1 op
  same = act_kept d e op next.keeps op_live

  pub op_refs : (r : Ref) → IsOneOf r (refs_in (get_or all i o)) → IsLive e r
  op_refs r one = next.keeps.live r (op_live r one)

  pub op_fits : FitsAct e.vars (table e p) (act_of e 1 (get_or all i o))
  op_fits = subst (λ (n : ℕ). FitsAct n (table e p) (act_of e 1 op)) (sym next.keeps.vars) (subst (FitsAct d.vars (table e p)) (sym same) next.fits.0)

  pub op_leaves : (f : Diagram) (q : Ref) → Keeps e f → IsLive f q → table f q ≡ left_by (act_of e 1 (get_or all i o)) (table e p) → IsLeft d start all f q (drop (i + 1) all)
  op_leaves f q keeps live leaves =
      let at : table f q ≡ left_by (act_of d 1 op) (table e p) = leaves ∙ ap (λ act. left_by act (table e p)) same in
      let more : suc i ≡ i + 1 = omega arith in
      subst (λ (j : ℕ). IsLeft d start all f q (drop j all)) more (record {
        keeps = keeps_then d e f next.keeps keeps;
        live = live;
        refs = λ r one. next.refs r (one_right r (refs_in op) (refs_in_all rest) one);
        fits = subst (λ (g : Function). FitsActs d.vars g (acts_of d 1 rest)) (sym at) next.fits.1;
        leads = next.leads ∙ ap (λ g. after g (acts_of d 1 rest)) (sym at);
      })

pub left_none : (d : Diagram) (start : Ref) (all : List Op) (e : Diagram) (p : Ref) (i : ℕ) → length all ≤ i → IsLeft d start all e p (drop i all) → table e p ≡ after (table d start) (acts_of d 1 all)
left_none d start all e p i le is =
    let none : IsLeft d start all e p [] = subst (IsLeft d start all e p) (drop_all i all le) is in
    sym none.leads
