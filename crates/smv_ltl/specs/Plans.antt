-- Which plan that of the code is, and where an offset stands in it.
use Rattle.std.specs.Prelude.{ℕ, List, [], ◌∷◌, ◌+◌, Option, Some, None, Bool, if◌then◌else◌, nat_eq}
use Rattle.std.specs.HashMap.{HashMap, get_by}
use Rattle.law_formulas.specs.Monitors as monitors
use Rattle.smv_parse_formulas.specs.Trees.{meant}
use Rattle.smv_ltl.specs.declared.plan.Entry.{Entry}
use Rattle.smv_ltl.specs.declared.plan.Watched.{Watched}

abbrev pub watched_of : Watched → monitors.Watched
watched_of w = record { formula = meant w.formula.now; monitors = w.monitors.now }

abbrev pub entry_of : Entry → ℕ × monitors.Watched
entry_of e = (e.at, watched_of e.watched)

-- the place of the first entry at an offset, where the first of all has this one
abbrev pub place_in : ℕ → List Entry → ℕ → Option ℕ
place_in k [] at = None
place_in k (e ∷ es) at = if nat_eq e.at at then Some k else place_in (k + 1) es at

-- a place that was found, or else this one where it is the offset's
abbrev pub found_or : Option ℕ → Bool → ℕ → Option ℕ
found_or (Some found) is_it place = Some found
found_or None is_it place = if is_it then Some place else None

-- the place that is noted of an offset
abbrev pub noted : {S : Type 0} → HashMap ℕ ℕ S → ℕ → Option ℕ
noted places at = get_by (nat_eq at) places
