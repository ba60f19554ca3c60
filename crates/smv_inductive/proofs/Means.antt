-- What looks and images say of the conditions of induction.
use Rattle.std.proofs.Common.{◌≡◌, ℕ, suc, ◌*◌, Bool, true, false, ◌&&◌, ◌↔◌, List, [], ◌∷◌, ◌++◌, map, refl, sym, ◌∙◌, ap, subst, arith}
use Rattle.std.specs.List.{filter}
use Rattle.bdd_ops.specs.Functions.{Function, depends}
use Rattle.smv_rings.specs.Functions.{always, conj, DependsBelow}
use Rattle.smv_rings.specs.Lists.{Lists, State, both, at, all_of, AllBelow, IsCurrent, AllCurrent, IsLists}
use Rattle.smv_rings.specs.Paths.{Ends, InRing, Violates}
use Rattle.smv_rings.specs.Schedule.{Act, left_by, after, reads_none, evens, vars, outs, joins, unread, forth, back, turn, ring}
use Rattle.smv_rings.specs.Schedule.Act.{Join, Out, Look_at, Lower}
use Rattle.smv_rings.proofs.Early.{and_true, true_and, true_or_left}
use Rattle.smv_rings.proofs.Turns.{current_agree, after_append}
use Rattle.smv_rings.proofs.Image.{image_to, image_from, image_below, image_current, look_to, look_from, both_at}
use Rattle.smv_rings.proofs.Rings.{ring_facts, ring_to, ring_from}
use Rattle.smv_inductive.specs.Runs.{AllFindNothing, StaysWithin}
use Rattle.smv_inductive.specs.Halves.{HoldsFirst, HoldsOn}
use Rattle.smv_inductive.specs.Laws.{EqualRingsAreInductive}

differ : {x : Bool} → x ≡ true → x ≡ false → ⊥
differ e f = cc

false_if : (x : Bool) → (x ≡ true → ⊥) → x ≡ false
false_if true no_way = absurd (no_way refl)
false_if false no_way = refl

and_assoc : (x y z : Bool) → (x && y) && z ≡ x && (y && z)
and_assoc true y z = refl
and_assoc false y z = refl

and_unit : (x : Bool) → x ≡ x && true
and_unit true = refl
and_unit false = refl

-- the state of an assignment
abbrev here : (ℕ → Bool) → State
here a b = a (2 * b)

-- ---- acts without a look

abbrev Quiet : List Act → Type 0
Quiet [] = Unit {0}
Quiet (Join f ∷ acts) = Quiet acts
Quiet (Out v ∷ acts) = Quiet acts
Quiet (Look_at k f ∷ acts) = ⊥
Quiet (Lower ∷ acts) = Quiet acts

quiet_append : (xs ys : List Act) → Quiet xs → Quiet ys → Quiet (xs ++ ys)
quiet_append [] ys quiet more = more
quiet_append (Join f ∷ xs) ys quiet more = quiet_append xs ys quiet more
quiet_append (Out v ∷ xs) ys quiet more = quiet_append xs ys quiet more
quiet_append (Look_at k f ∷ xs) ys quiet more = absurd quiet
quiet_append (Lower ∷ xs) ys quiet more = quiet_append xs ys quiet more

quiet_outs : (vs : List ℕ) → Quiet (map Out vs)
quiet_outs [] = tt
quiet_outs (v ∷ vs) = quiet_outs vs

quiet_ands : (fs : List Function) → Quiet (map Join fs)
quiet_ands [] = tt
quiet_ands (f ∷ fs) = quiet_ands fs

pass_quiet : (acts : List Act) (p : Function) → Quiet acts → AllFindNothing p acts
pass_quiet [] p quiet = tt
pass_quiet (Join f ∷ acts) p quiet = (tt, pass_quiet acts (conj p f) quiet)
pass_quiet (Out v ∷ acts) p quiet = (tt, pass_quiet acts (left_by (Out v) p) quiet)
pass_quiet (Look_at k f ∷ acts) p quiet = absurd quiet
pass_quiet (Lower ∷ acts) p quiet = (tt, pass_quiet acts (left_by Lower p) quiet)

pass_behind : (xs ys : List Act) (p : Function) → Quiet xs → AllFindNothing p (xs ++ ys) ↔ AllFindNothing (after p xs) ys
pass_behind [] ys p quiet = ((λ h. h), λ h. h)
pass_behind (Join f ∷ xs) ys p quiet = let more = pass_behind xs ys (conj p f) quiet in ((λ h. more.0 h.1), λ h. (tt, more.1 h))
pass_behind (Out v ∷ xs) ys p quiet = let more = pass_behind xs ys (left_by (Out v) p) quiet in ((λ h. more.0 h.1), λ h. (tt, more.1 h))
pass_behind (Look_at k f ∷ xs) ys p quiet = absurd quiet
pass_behind (Lower ∷ xs) ys p quiet = let more = pass_behind xs ys (left_by Lower p) quiet in ((λ h. more.0 h.1), λ h. (tt, more.1 h))

-- one look
look_means : (xs ys : List Act) (k : ℕ) (f p : Function) → Quiet xs → Quiet ys → AllFindNothing p (xs ++ (Look_at k f ∷ ys)) ↔ ((a : ℕ → Bool) → after p xs a && f a ≡ false)
look_means xs ys k f p quiet more = (
  (λ pass. ((pass_behind xs (Look_at k f ∷ ys) p quiet).0 pass).0),
  (λ none. (pass_behind xs (Look_at k f ∷ ys) p quiet).1 (none, pass_quiet ys (after p xs) more)),
)

-- ---- the first state

after_ands : (fs : List Function) (p : Function) → after p (map Join fs) ≡ conj p (all_of fs)
after_ands [] p = λ i a. and_unit (p a) i
after_ands (f ∷ fs) p = after_ands fs (conj p f) ∙ (λ i a. and_assoc (p a) (f a) (all_of fs a) i)

abbrev pub first_acts : ℕ → Lists → List Act
first_acts k l = map Join l.now_first ++ (Look_at k l.broken_first ∷ map Join l.before_first)

first_left : (k : ℕ) (l : Lists) → after always (first_acts k l) ≡ conj (all_of l.now_first) (all_of l.before_first)
first_left k l =
    after_append always (map Join l.now_first) (Look_at k l.broken_first ∷ map Join l.before_first)
    ∙ after_ands l.before_first (after always (map Join l.now_first))
    ∙ ap (λ p. conj p (all_of l.before_first)) (after_ands l.now_first always)

first_looks : (k : ℕ) (l : Lists) → AllFindNothing always (first_acts k l) ↔ ((a : ℕ → Bool) → all_of l.now_first a && l.broken_first a ≡ false)
first_looks k l =
    subst (λ (p : Function). AllFindNothing always (map Join l.now_first ++ (Look_at k l.broken_first ∷ map Join l.before_first)) ↔ ((a : ℕ → Bool) → p a && l.broken_first a ≡ false))
    (after_ands l.now_first always)
    (look_means (map Join l.now_first) (map Join l.before_first) k l.broken_first always (quiet_ands l.now_first) (quiet_ands l.before_first))

one_here : (n : ℕ) (f : Function) → DependsBelow n f → IsCurrent f → (a : ℕ → Bool) → f a ≡ f (at (here a))
one_here n f below current a = current_agree n f below current a (at (here a)) (both_at a)

all_here : (n : ℕ) (fs : List Function) → AllBelow n fs → AllCurrent fs → (a : ℕ → Bool) → all_of fs a ≡ all_of fs (at (here a))
all_here n [] below current a = refl
all_here n (f ∷ fs) below current a = ap (λ x. x && all_of fs a) (one_here n f below.0 current.0 a) ∙ ap (λ x. f (at (here a)) && x) (all_here n fs below.1 current.1 a)

module _ (l : Lists) (ok : IsLists l) (set : Function) (below : DependsBelow (2 * l.bits) set) (current : IsCurrent set) where
  pub first_means : (k : ℕ) → StaysWithin always (first_acts k l) set ↔ HoldsFirst l set
  first_means k = (
    (λ is. record {
      starts = λ s starts. is.within (at s) (ap (λ p. p (at s)) (first_left k l) ∙ true_and (all_of l.now_first (at s)) (all_of l.before_first (at s)) starts.0 starts.1);
      safe = λ s now broken. differ (true_and (all_of l.now_first (at s)) (l.broken_first (at s)) now broken) ((first_looks k l).0 is.passes (at s));
    }),
    (λ holds. record {
      passes = (first_looks k l).1 (λ a. false_if (all_of l.now_first a && l.broken_first a) (λ e.
          let parts = and_true (all_of l.now_first a) (l.broken_first a) e in
          holds.safe (here a) (sym (all_here n l.now_first ok.now_first.0 ok.now_first.1 a) ∙ parts.0) (sym (one_here n l.broken_first ok.broken_first.0 ok.broken_first.1 a) ∙ parts.1)));
      within = λ a e.
          let parts = and_true (all_of l.now_first a) (all_of l.before_first a) (sym (ap (λ p. p a) (first_left k l)) ∙ e) in
          one_here n set below current a ∙ holds.starts (here a) (sym (all_here n l.now_first ok.now_first.0 ok.now_first.1 a) ∙ parts.0, sym (all_here n l.before_first ok.before_first.0 ok.before_first.1 a) ∙ parts.1);
    }),
  )
    where
      n : ℕ
      n = 2 * l.bits

  quiet_joins : (fs later : List Function) → Quiet (joins l fs later)
  quiet_joins [] later = tt
  quiet_joins (f ∷ fs) later = quiet_append (outs l f (fs ++ later)) (joins l fs later) (quiet_outs (filter (λ v. depends (vars l) f v && reads_none (vars l) (fs ++ later) v) (evens l.bits))) (quiet_joins fs later)

  quiet_forth : Quiet (forth l)
  quiet_forth = quiet_append (unread l) (joins l l.now_step (l.broken_step ∷ l.before_step)) (quiet_outs (filter (reads_none (vars l) (l.now_step ++ (l.broken_step ∷ l.before_step))) (evens l.bits))) (quiet_joins l.now_step (l.broken_step ∷ l.before_step))

  quiet_back : Quiet (back l)
  quiet_back =
      quiet_append (outs l l.broken_step l.before_step) (joins l l.before_step [] ++ (Lower ∷ []))
      (quiet_outs (filter (λ v. depends (vars l) l.broken_step v && reads_none (vars l) l.before_step v) (evens l.bits)))
      (quiet_append (joins l l.before_step []) (Lower ∷ []) (quiet_joins l.before_step []) tt)

  turn_looks : (k : ℕ) → AllFindNothing set (turn l k) ↔ ((a : ℕ → Bool) → after set (forth l) a && l.broken_step a ≡ false)
  turn_looks k = look_means (forth l) (back l) (suc k) l.broken_step set quiet_forth quiet_back

  pub steps_mean : (k : ℕ) → StaysWithin set (turn l k) set ↔ HoldsOn l set
  steps_mean k = (
    (λ is. record {
      closed = λ old new e steps. is.within (at new) (image_from l ok set k below current old new e steps);
      safe = λ old new e now broken. differ (look_from l ok set below current old new e now broken) ((turn_looks k).0 is.passes (both old new));
    }),
    (λ holds. record {
      passes = (turn_looks k).1 (λ a. false_if (after set (forth l) a && l.broken_step a) (λ e.
          let step = look_to l ok set below current a e in
          holds.safe step.0 step.1 step.2 step.3 step.4));
      within = λ a e.
          let is = one_here (2 * l.bits) (after set (turn l k)) (image_below l ok set k below) (image_current l ok set k below) a in
          let step = image_to l ok set k below current (here a) (sym is ∙ e) in
          one_here (2 * l.bits) set below current a ∙ holds.closed step.0 (here a) step.1 step.2;
    }),
  )

-- ---- a ring

pub equal_inductive : EqualRingsAreInductive
unfolding Violates Ends InRing
equal_inductive l ok k closed none = record {
  starts = λ s starts. ring_from l ok k s (0, omega arith, starts);
  closed = λ old new e steps. ap (λ f. f (at new)) (sym closed) ∙ true_or_left (after (ring l k) (turn l k) (at new)) (ring l k (at new)) (image_from l ok (ring l k) k (ring_facts l ok k).0 (ring_facts l ok k).1 old new e steps);
  safe_first = λ s now broken. none 0 (omega arith) s (now, broken);
  safe_step = λ old new e now broken. let early = ring_to l ok k old e in none (suc early.0) (omega (arith, early.1)) new (old, early.2, now, broken);
}
