-- Units that use one another in their proofs, now or before: what an obligation is, and when a path violates it.
use Rattle.std.specs.Prelude.{◌≡◌, ℕ, List, [], ◌∷◌, Option, Some, None, option_map, Bool, true, false, ◌&&◌}

-- what is demanded at a time, of the state then and the state before it, if there is one
abbrev pub Demand : Type 0 → Type 0
Demand State = Option State → State → Bool

-- the demand is met at each time of a path that begins after this state
abbrev pub always : {State : Type 0} → Demand State → Option State → List State → Bool
always demand old [] = true
always demand old (s ∷ path) = demand old s && always demand (Some s) path

-- what is demanded at each time, what is demanded at each time but the last, and when the target is broken (circular rule: McMillan, CAV 1998)
pub record Obligation (State : Type 0) : Type 0 where
  pub now : Demand State
  pub before : Demand State
  pub broken : Demand State

-- a path at whose last time the target is broken, though the demands of now are met at each time and those of before at each but the last
abbrev pub is_violating_after : {State : Type 0} → Obligation State → Option State → List State → Bool
is_violating_after o old [] = false
is_violating_after o old (s ∷ []) = o.now old s && o.broken old s
is_violating_after o old (s ∷ t ∷ path) = o.now old s && (o.before old s && is_violating_after o (Some s) (t ∷ path))

-- such a path from its first state on
abbrev pub is_violating : {State : Type 0} → Obligation State → List State → Bool
is_violating o path = is_violating_after o None path

-- Units by their numbers, each with its instances: what a run meets at each time, when an instance holds, what a unit uses now and
-- before, and the obligations of a unit, one for each of its cases, over the pictures of the case.
pub record Circle (State Instance Case : Type 0) (Picture : Case → Type 0) : Type 0 where
  pub base : Demand State
  pub holds : ℕ → Instance → Demand State
  pub uses_now : ℕ → ℕ → Bool
  pub uses_before : ℕ → ℕ → Bool
  pub is_case : ℕ → Case → Bool
  pub obligation : ℕ → (c : Case) → Obligation (Picture c)

module _ {State Instance Case : Type 0} {Picture : Case → Type 0} (circle : Circle State Instance Case Picture) where
  -- each unit that is used holds at this time, in each instance
  abbrev pub AreHeld : (ℕ → Bool) → Option State → State → Type 0
  AreHeld uses old s = (v : ℕ) (j : Instance) → uses v ≡ true → circle.holds v j old s ≡ true

  -- an instance fails, and a case shows it: in the pictures of any run the demands are met by what holds, and the target is broken here
  pub record IsShown (u : ℕ) (old : Option State) (s : State) : Type 0 where
    pub case : Case
    pub is_case : circle.is_case u case ≡ true
    pub picture : State → Picture case
    pub keeps_now : (old : Option State) (s : State) → circle.base old s ≡ true → AreHeld (circle.uses_now u) old s → (circle.obligation u case).now (option_map picture old) (picture s) ≡ true
    pub keeps_before : (old : Option State) (s : State) → circle.base old s ≡ true → AreHeld (circle.uses_before u) old s → (circle.obligation u case).before (option_map picture old) (picture s) ≡ true
    pub breaks : (circle.obligation u case).broken (option_map picture old) (picture s) ≡ true

  -- wherever an instance fails at a step of a run, some case shows it
  abbrev pub ShowsFailures : Type 0
  ShowsFailures = (u : ℕ) (i : Instance) (old : Option State) (s : State) → circle.base old s ≡ true → circle.holds u i old s ≡ false → IsShown u old s

  -- no case of any unit has a violating path
  abbrev pub HasNoViolation : Type 0
  HasNoViolation = (u : ℕ) (c : Case) → circle.is_case u c ≡ true → (path : List (Picture c)) → is_violating (circle.obligation u c) path ≡ false

  -- every instance of every unit holds at every time of every run
  abbrev pub AlwaysHolds : Type 0
  AlwaysHolds = (run : List State) → always circle.base None run ≡ true → (u : ℕ) (i : Instance) → always (circle.holds u i) None run ≡ true
