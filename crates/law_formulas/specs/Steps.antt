-- A formula watched along a run, state by state: what is asked of a state, and what is to be kept in mind for the next one (the progression of formulas, Bacchus and Kabanza 1998; monitors, Havelund and Rosu, TACAS 2002).
--
-- Kept in mind is a truth value for each X of the formula, in their order, and one for its W: that the place behind the X was reached one step after the place before it, and that W waits.
use Rattle.std.specs.Prelude.{◌≡◌, ℕ, suc, List, [], ◌∷◌, ◌⊎◌, Some, Bool, true, false, not, ◌&&◌, ◌||◌}
use Rattle.smv_core.specs.Values.{Name, Truth, truth}
use Rattle.smv_core.specs.Outcome.{State, Scene, Bindings, outcome, is_true}
use Rattle.smv_core.specs.declared.tree.Expr.{Expr}
use Rattle.law_formulas.specs.Formulas.{Formula, now, next, when, weak, Is}

-- a truth value is 0
abbrev pub is_false : Truth → Bool
is_false (Some false) = true
is_false _ = false

-- how many values are kept in mind
abbrev pub places_of : Formula → ℕ
places_of (now e) = 0
places_of (next at f) = suc (places_of f)
places_of (when c f) = places_of f
places_of (weak p q) = 1

-- nothing was reached, and nothing waits
abbrev pub none_of : Formula → List Bool
none_of (now e) = []
none_of (next at f) = false ∷ none_of f
none_of (when c f) = none_of f
none_of (weak p q) = false ∷ []

-- there is a truth value for each place
abbrev pub HasMarks : Formula → List Bool → Type 0
HasMarks (now e) marks = Unit {0}
HasMarks (next at f) [] = ⊥
HasMarks (next at f) (mark ∷ marks) = HasMarks f marks
HasMarks (when c f) marks = HasMarks f marks
HasMarks (weak p q) [] = ⊥
HasMarks (weak p q) (waits ∷ marks) = Unit {0}

-- there is a name for each place, and no other
abbrev pub HasNames : Formula → List Name → Type 0
HasNames (now e) [] = Unit {0}
HasNames (now e) (name ∷ names) = ⊥
HasNames (next at f) [] = ⊥
HasNames (next at f) (m ∷ names) = HasNames f names
HasNames (when c f) names = HasNames f names
HasNames (weak p q) [] = ⊥
HasNames (weak p q) (w ∷ []) = Unit {0}
HasNames (weak p q) (w ∷ name ∷ names) = ⊥

-- no mark is set in the first list that is not in the second
abbrev pub AreBelow : List Bool → List Bool → Type 0
AreBelow [] marks = Unit {0}
AreBelow (mark ∷ fewer) [] = ⊥
AreBelow (mark ∷ fewer) (other ∷ marks) = (mark ≡ true → other ≡ true) × AreBelow fewer marks

module _ (scene : Scene) (b : Bindings) where
  -- the condition is not 0, be it 1 or Undefined
  abbrev pub goes_on : Expr → State → Bool
  goes_on c s = not (is_false (truth (outcome scene s c b)))

  -- the expression is 1
  abbrev pub is_met : Expr → State → Bool
  is_met e s = is_true (truth (outcome scene s e b))

  -- what is asked of a state where the formula's front is reached or not, and the places behind it are
  abbrev pub Asked : Formula → Bool → List Bool → State → Type 0
  Asked (now e) here marks s = here ≡ true → Is scene b e s
  Asked (next at f) here [] s = Unit {0}
  Asked (next at f) here (mark ∷ marks) s = Asked f mark marks s
  Asked (when c f) here marks s = Asked f (here && goes_on c s) marks s
  Asked (weak p q) here [] s = Unit {0}
  Asked (weak p q) here (waits ∷ marks) s = here || waits ≡ true → Is scene b q s ⊎ Is scene b p s

  -- what is kept in mind for the next state
  abbrev pub stepped : Formula → Bool → List Bool → State → List Bool
  stepped (now e) here marks s = []
  stepped (next at f) here [] s = []
  stepped (next at f) here (mark ∷ marks) s = here ∷ stepped f mark marks s
  stepped (when c f) here marks s = stepped f (here && goes_on c s) marks s
  stepped (weak p q) here [] s = []
  stepped (weak p q) here (waits ∷ marks) s = ((here || waits) && not (is_met q s)) ∷ []

  -- the formula is begun at each time, and each state does what is asked of it
  abbrev pub AskedAlong : Formula → List Bool → List State → Type 0
  AskedAlong f marks [] = Unit {0}
  AskedAlong f marks (s ∷ run) = Asked f true marks s × AskedAlong f (stepped f true marks s) run
