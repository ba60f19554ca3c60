-- A plan has names for all monitors.
use Rattle.std.proofs.Common.{◌≡◌, ◌≤◌, ◌<◌, ◌+◌, ℕ, zero, suc, List, [], ◌∷◌, take, drop, length, true, refl, arith}
use Rattle.std.specs.Str.{bytes_eq}
use Rattle.std.specs.List.{AllByRecursion, list_any}
use Rattle.std.proofs.lemmas.Bool.{or_left, or_right}
use Rattle.std.proofs.lemmas.Slice.Eq.{bytes_eq-Decides}
use Rattle.smv_core.specs.Values.{Name}
use Rattle.law_formulas.specs.Formulas.{Formula, now, next, when, weak}
use Rattle.law_formulas.specs.Steps.{places_of, HasNames}
use Rattle.law_formulas.specs.Monitors.{watched, monitors_of, first_name}
use Rattle.law_formula_trees.specs.Placed.{AreNamed, AreFreshMonitors}
use Rattle.law_fresh_monitors.specs.Laws.{PlansAreNamed}
use Rattle.law_fresh_monitors.proofs.FreeNames.{each-taken}

-- ---- lists

pub each-dropped : {X : Type 0} (P : X → Type 0) (k : ℕ) (xs : List X) → AllByRecursion P xs → AllByRecursion P (drop k xs)
each-dropped P zero xs h = h
each-dropped P (suc k) [] h = tt
each-dropped P (suc k) (x ∷ xs) h = each-dropped P k xs h.1

dropped-long : {X : Type 0} (k m : ℕ) (xs : List X) → k + m ≤ length xs → m ≤ length (drop k xs)
dropped-long zero m xs h = omega (arith, h)
dropped-long (suc k) m [] h = absurd (omega (arith, h))
dropped-long (suc k) m (x ∷ xs) h = dropped-long k m xs (omega (arith, h))

abbrev pub IsIn : List Name → Name → Type 0
IsIn names m = list_any (bytes_eq m) names ≡ true

in-more : (names : List Name) (n : Name) → (ms : List Name) → AllByRecursion (IsIn names) ms → AllByRecursion (IsIn (n ∷ names)) ms
in-more names n [] h = tt
in-more names n (m ∷ ms) h = (or_right (bytes_eq m n) (list_any (bytes_eq m) names) h.0, in-more names n ms h.1)

pub all-in : (names : List Name) → AllByRecursion (IsIn names) names
all-in [] = tt
all-in (n ∷ names) = (or_left (bytes_eq n n) (list_any (bytes_eq n) names) ((bytes_eq-Decides n n).1 refl), in-more names n names (all-in names))

-- ---- names for monitors

has-names : (f : Formula) (names : List Name) → places_of f ≤ length names → HasNames f (take (places_of f) names)
has-names (now e) names h = tt
has-names (next at f) [] h = absurd (omega (arith, h))
has-names (next at f) (m ∷ names) h = has-names f names (omega (arith, h))
has-names (when c f) names h = has-names f names h
has-names (weak p q) [] h = absurd (omega (arith, h))
has-names (weak p q) (w ∷ names) h = tt

named : (formulas : List (ℕ × Formula)) (names : List Name) → monitors_of formulas ≤ length names → AreNamed (watched formulas names)
named [] names h = tt
named ((place, f) ∷ more) names h = (has-names f names (omega (arith, h)), named more (drop (places_of f) names) (dropped-long (places_of f) (monitors_of more) names h))

fresh : (all : List Name) (formulas : List (ℕ × Formula)) (names : List Name) → AllByRecursion (IsIn all) names → AreFreshMonitors all (watched formulas names)
fresh all [] names h = tt
fresh all ((place, f) ∷ more) names h = (each-taken (IsIn all) (places_of f) names h, fresh all more (drop (places_of f) names) (each-dropped (IsIn all) (places_of f) names h))

pub plans : PlansAreNamed
plans formulas names long = (named formulas names long, fresh names formulas names (all-in names))

-- the layer's name is one of the names
first-in : (all names : List Name) → AllByRecursion (IsIn all) names → 0 < length names → IsIn all (first_name names)
first-in all [] h l = absurd (omega (arith, l))
first-in all (n ∷ names) h l = h.0

pub layer-in : (names : List Name) (k : ℕ) → k < length names → IsIn names (first_name (drop k names))
layer-in names k lt = first-in names (drop k names) (each-dropped (IsIn names) k names (all-in names)) (dropped-long k 1 names (omega (arith, lt)))
