-- The circular induction: by time, and at one time by the order of the uses that are now.
use Rattle.std.proofs.Common.{◌≡◌, ℕ, zero, suc, ◌<◌, ◌≤◌, arith, List, [], ◌∷◌, length, map, take, Option, Some, None, option_map, Bool, true, false, refl, sym, subst, ◌⊎◌, inl, inr}
use Rattle.std.proofs.lemmas.Bool.{cases_Bool}
use Rattle.law_lists.proofs.Booleans.{and_both, left_of, right_of}
use Rattle.law_obligations.specs.Circular.{Demand, Obligation, always, is_violating_after, Circle, AreHeld, IsShown, ShowsFailures, HasNoViolation, AlwaysHolds}

-- strong induction on numbers
below : (P : ℕ → Type 0) → ((n : ℕ) → ((m : ℕ) → m < n → P m) → P n) → (n : ℕ) → (m : ℕ) → m < n → P m
below P step zero m h = absurd (omega arith)
below P step (suc n) m h = step m (λ k less. below P step n k (omega arith))

strong : (P : ℕ → Type 0) → ((n : ℕ) → ((m : ℕ) → m < n → P m) → P n) → (n : ℕ) → P n
strong P step n = step n (below P step n)

-- the rule alone: what units say of times
module _ (rank : ℕ → ℕ) (Now Before : ℕ → ℕ → Type 0) (Holds : ℕ → ℕ → Type 0)
    (falls : (u v : ℕ) → Now u v → rank v < rank u)
    (step : (u t : ℕ) → ((v : ℕ) → Now u v → (k : ℕ) → k ≤ t → Holds v k) → ((v : ℕ) → Before u v → (k : ℕ) → k < t → Holds v k) → Holds u t)
  where
    at_time : (t : ℕ) → ((m : ℕ) → m < t → (u : ℕ) → Holds u m) → (r : ℕ) → (u : ℕ) → rank u < r → Holds u t
    at_time t earlier zero u h = absurd (omega arith)
    at_time t earlier (suc r) u h =
        step u t
        (λ v uses k le. let low : rank v < rank u = falls u v uses in
        elim (split k t le) [
          | inl less ↦ earlier k less v
          | inr same ↦ subst (Holds v) (sym same) (at_time t earlier r v (omega arith))
        ])
        (λ v uses k less. earlier k less v)
      where
        split : (k t : ℕ) → k ≤ t → (k < t) ⊎ (k ≡ t)
        split k t le = grind arith

    circular : (u t : ℕ) → Holds u t
    circular u t = strong (λ n. (v : ℕ) → Holds v n) (λ n earlier v. at_time n earlier (suc (rank v)) v (omega arith)) t u

-- what a demand says of time k of a path that begins after this state; past the path's end it says nothing
abbrev AtTime : {State : Type 0} → (Option State → State → Type 0) → Option State → List State → ℕ → Type 0
AtTime D old [] k = Unit {0}
AtTime D old (s ∷ path) zero = D old s
AtTime D old (s ∷ path) (suc k) = AtTime D (Some s) path k

abbrev Met : {State : Type 0} → Demand State → Option State → State → Type 0
Met demand old s = demand old s ≡ true

at_each : {State : Type 0} (demand : Demand State) (old : Option State) (path : List State) → always demand old path ≡ true → (k : ℕ) → AtTime (Met demand) old path k
at_each demand old [] h k = tt
at_each demand old (s ∷ path) h zero = left_of (demand old s) (always demand (Some s) path) h
at_each demand old (s ∷ path) h (suc k) = at_each demand (Some s) path (right_of (demand old s) (always demand (Some s) path) h) k

from_each : {State : Type 0} (demand : Demand State) (old : Option State) (path : List State) → ((k : ℕ) → AtTime (Met demand) old path k) → always demand old path ≡ true
from_each demand old [] h = refl
from_each demand old (s ∷ path) h = and_both (h 0) (from_each demand (Some s) path (λ k. h (suc k)))

-- from a run to a path: the demands of a path, pulled back along the picture
module _ {State Picture : Type 0} (picture : State → Picture) (o : Obligation Picture) where
  abbrev pulled : Demand Picture → Option State → State → Type 0
  pulled demand old s = demand (option_map picture old) (picture s) ≡ true

  violated : (t : ℕ) (old : Option State) (run : List State) → t < length run →
      ((k : ℕ) → k ≤ t → AtTime (pulled o.now) old run k) →
      ((k : ℕ) → k < t → AtTime (pulled o.before) old run k) →
      AtTime (pulled o.broken) old run t →
      is_violating_after o (option_map picture old) (map picture (take (suc t) run)) ≡ true
  violated t old [] short now before breaks = absurd (omega arith)
  violated zero old (s ∷ path) short now before breaks = and_both (now 0 (omega arith)) breaks
  violated (suc t) old (s ∷ []) short now before breaks = absurd (omega arith)
  violated (suc t) old (s ∷ (r ∷ path)) short now before breaks =
      and_both (now 0 (omega arith)) (and_both (before 0 (omega arith))
      (violated t (Some s) (r ∷ path) (omega arith) (λ k le. now (suc k) (omega arith)) (λ k less. before (suc k) (omega arith)) breaks))

-- a demand at one time, from two that imply it
both : {State : Type 0} (P Q R : Option State → State → Type 0) → ((old : Option State) (s : State) → P old s → Q old s → R old s) →
    (old : Option State) (run : List State) (k : ℕ) → AtTime P old run k → AtTime Q old run k → AtTime R old run k
both P Q R joined old [] k a b = tt
both P Q R joined old (s ∷ path) zero a b = joined old s a b
both P Q R joined old (s ∷ path) (suc k) a b = both P Q R joined (Some s) path k a b

-- the step of a run at a time within it
record Located (State : Type 0) (old : Option State) (run : List State) (t : ℕ) : Type 1 where
  before : Option State
  state : State
  reads : (D : Option State → State → Type 0) → AtTime D old run t → D before state
  writes : (D : Option State → State → Type 0) → D before state → AtTime D old run t

located : (State : Type 0) (old : Option State) (run : List State) (t : ℕ) → t < length run → Located State old run t
located State old [] t h = absurd (omega arith)
located State old (s ∷ path) zero h = record { before = old; state = s; reads = λ D held. held; writes = λ D held. held }
located State old (s ∷ path) (suc t) h = let l = located State (Some s) path t (omega arith) in
    record { before = l.before; state = l.state; reads = λ D held. l.reads D held; writes = λ D held. l.writes D held }

-- past the end nothing is said
past : {State : Type 0} (D : Option State → State → Type 0) (old : Option State) (run : List State) (t : ℕ) → length run ≤ t → AtTime D old run t
past D old [] t h = tt
past D old (s ∷ path) zero h = absurd (omega arith)
past D old (s ∷ path) (suc t) h = past D (Some s) path t (omega arith)

-- what holds of each of many at a time
each : {State : Type 0} (Which : Type 0) (D : Which → Option State → State → Type 0) (old : Option State) (run : List State) (t : ℕ) →
    ((w : Which) → AtTime (D w) old run t) → AtTime (λ old s. (w : Which) → D w old s) old run t
each Which D old [] t held = tt
each Which D old (s ∷ path) zero held = λ w. held w
each Which D old (s ∷ path) (suc t) held = each Which D (Some s) path t held

module _ {State Instance Case : Type 0} {Picture : Case → Type 0} (circle : Circle State Instance Case Picture) (rank : ℕ → ℕ)
    (falls : (u v : ℕ) → circle.uses_now u v ≡ true → rank v < rank u) (shows : ShowsFailures circle) (none : HasNoViolation circle)
    (run : List State) (runs : (k : ℕ) → AtTime (Met circle.base) None run k)
  where
    abbrev HoldsAt : ℕ → ℕ → Type 0
    HoldsAt u t = (i : Instance) → AtTime (Met (circle.holds u i)) None run t

    many : (uses : ℕ → Bool) (k : ℕ) → ((v : ℕ) → uses v ≡ true → HoldsAt v k) → AtTime (AreHeld circle uses) None run k
    many uses k held =
        each ℕ (λ v old s. (j : Instance) → uses v ≡ true → circle.holds v j old s ≡ true) None run k
        (λ v. each Instance (λ j old s. uses v ≡ true → circle.holds v j old s ≡ true) None run k
        (λ j. each (uses v ≡ true) (λ is old s. circle.holds v j old s ≡ true) None run k (λ is. held v is j)))

    shown : (u t : ℕ) (within : t < length run) (l : Located State None run t) → IsShown circle u l.before l.state →
        ((v : ℕ) → circle.uses_now u v ≡ true → (k : ℕ) → k ≤ t → HoldsAt v k) → ((v : ℕ) → circle.uses_before u v ≡ true → (k : ℕ) → k < t → HoldsAt v k) → ⊥
    shown u t within l e now before = clash (none u e.case e.is_case (map e.picture (take (suc t) run)))
        (violated e.picture (circle.obligation u e.case) t None run within
        (λ k le. both (Met circle.base) (AreHeld circle (circle.uses_now u)) (pulled e.picture (circle.obligation u e.case) (circle.obligation u e.case).now)
        (λ old s base used. e.keeps_now old s base used) None run k (runs k) (many (circle.uses_now u) k (λ v is. now v is k le)))
        (λ k less. both (Met circle.base) (AreHeld circle (circle.uses_before u)) (pulled e.picture (circle.obligation u e.case) (circle.obligation u e.case).before)
        (λ old s base used. e.keeps_before old s base used) None run k (runs k) (many (circle.uses_before u) k (λ v is. before v is k less)))
        (l.writes (pulled e.picture (circle.obligation u e.case) (circle.obligation u e.case).broken) e.breaks))
      where
        clash : {b : Bool} → b ≡ false → b ≡ true → ⊥
        clash p q = cc

    one_step : (u t : ℕ) → ((v : ℕ) → circle.uses_now u v ≡ true → (k : ℕ) → k ≤ t → HoldsAt v k) → ((v : ℕ) → circle.uses_before u v ≡ true → (k : ℕ) → k < t → HoldsAt v k) → HoldsAt u t
    one_step u t now before i = elim (inside t) [ inl within ↦ at_step within | inr out ↦ past (Met (circle.holds u i)) None run t out ]
      where
        inside : (t : ℕ) → (t < length run) ⊎ (length run ≤ t)
        inside t = grind arith

        at_step : t < length run → AtTime (Met (circle.holds u i)) None run t
        at_step within = let l = located State None run t within in
            elim (cases_Bool (circle.holds u i l.before l.state)) [
              | inl holds ↦ l.writes (Met (circle.holds u i)) holds
              | inr fails ↦ absurd (shown u t within l (shows u i l.before l.state (l.reads (Met circle.base) (runs t)) fails) now before)
            ]

    everything : (u t : ℕ) → HoldsAt u t
    everything u t = circular rank (λ u v. circle.uses_now u v ≡ true) (λ u v. circle.uses_before u v ≡ true) HoldsAt falls one_step u t

pub always_holds : {State Instance Case : Type 0} {Picture : Case → Type 0} (circle : Circle State Instance Case Picture) (rank : ℕ → ℕ) →
    ((u v : ℕ) → circle.uses_now u v ≡ true → rank v < rank u) → ShowsFailures circle → HasNoViolation circle → AlwaysHolds circle
always_holds circle rank falls shows none run is_run u i =
    from_each (circle.holds u i) None run (λ k. everything circle rank falls shows none run (at_each circle.base None run is_run) u k i)
