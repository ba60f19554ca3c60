-- Lists of names, and where one stands in a list of them.
use Rattle.std.specs.Prelude.{◌≡◌, true, refl, ℕ, suc, List, [], ◌∷◌, map, Option, Some, None, Bool, if◌then◌else◌, option_map}
use Rattle.std.proofs.Common.{Bor}
use Rattle.std.proofs.lemmas.Slice.Eq.{slice_eq-Decides, bytes_eq-Decides}
use Rattle.smv_core.specs.Values.{Name, Path}
use Rattle.smv_core.specs.Outcome.{same_path}

-- a list of names as they are held
abbrev pub path_of : List (Bor Name) → Path
path_of names = map (λ name. name.now) names

-- the first place of a path in a list
abbrev pub first_place : List Path → Path → Option ℕ
first_place [] path = None
first_place (x ∷ paths) path = if same_path x path then Some 0 else option_map suc (first_place paths path)

-- a place that was found, or else this one where it is the path's
abbrev pub found_or : Option ℕ → Bool → ℕ → Option ℕ
found_or (Some found) is_it place = Some found
found_or None is_it place = if is_it then Some place else None

-- paths that are compared as the same are the same
pub same_paths : (p q : Path) → same_path p q ≡ true → p ≡ q
same_paths p q e = (slice_eq-Decides bytes_eq-Decides p q (same_path p q) refl).0 e
