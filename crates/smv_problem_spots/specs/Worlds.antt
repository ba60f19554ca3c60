-- The worlds of which a problem speaks by numbers alone: there names are told apart exactly where their numbers are.
use Rattle.std.specs.Prelude.{◌≡◌, ℕ, List, [], length, get_or, slice_get, Bool, false, ◌&&◌, bytes_eq, nat_eq}
use Rattle.std.specs.List.{list_any}
use Rattle.smv_core.specs.Values.{Name}
use Rattle.law_obligations.specs.Places.{World}
use Rattle.smv_spots.specs.Spots.{is_ordset, both_or_none, is_same_set, AreTypes}
use Rattle.smv_problem.specs.declared.problem.Problem.{Problem}

-- how many constants an enumeration has
abbrev pub count_at : List ℕ → ℕ → ℕ
count_at lists list = get_or lists list 0

-- the name of a constant by its enumeration and its place there
abbrev pub name_at : List (List Name) → ℕ → ℕ → Name
name_at enums list k = get_or (get_or enums list []) k []

-- the number of the name of a constant by its enumeration and its place there, 0 where there is none
abbrev pub name_number_at : List (List ℕ) → ℕ → ℕ → ℕ
name_number_at names list k = get_or (get_or names list []) k 0

-- one constant by two enumerations and places: its names have one number
abbrev pub is_one_constant : List (List ℕ) → ℕ → ℕ → ℕ → ℕ → Bool
is_one_constant names list k other m = nat_eq (name_number_at names list k) (name_number_at names other m)

-- a constant is one of those of an enumeration
abbrev pub is_listed_constant : List (List ℕ) → ℕ → ℕ → ℕ → Bool
is_listed_constant names list other k = list_any (λ number. nat_eq number (name_number_at names other k)) (get_or names list [])

-- a set type is an ordset; one that is not there is none
abbrev pub is_ordered : Problem → ℕ → Bool
is_ordered p set = get_or p.ordered set false

-- one set type by two numbers: they are of one sort, and their names have one number, 0 where there is none
abbrev pub is_one_set : Problem → ℕ → ℕ → Bool
is_one_set p s t = both_or_none (is_ordered p s) (is_ordered p t) && nat_eq (get_or p.set_names s 0) (get_or p.set_names t 0)

-- a world with the families of the problem, as many constants, each of which has a number, its ordsets and the abstract forms of its set types, in which names differ where numbers do
pub record IsWorldOf (p : Problem) (w : World) : Type 0 where
  pub families : w.classes.families ≡ p.families
  pub lists : (list : ℕ) → length (get_or w.classes.enums list []) ≡ count_at p.lists list
  pub names : (list : ℕ) → length (get_or p.names list []) ≡ count_at p.lists list
  pub forms : AreTypes w w.classes.sets p.types
  pub ordered : (set : ℕ) → is_ordset (slice_get w.classes.sets set) ≡ is_ordered p set
  pub sets : (s t : ℕ) → is_same_set (slice_get w.classes.sets s) (slice_get w.classes.sets t) ≡ is_one_set p s t
  pub constants : (list k other m : ℕ) → bytes_eq (name_at w.classes.enums list k) (name_at w.classes.enums other m) ≡ is_one_constant p.names list k other m
