-- The ninth X of a formula, of which a text may have at most eight.
use Rattle.std.specs.Prelude.{ℕ, List, [], ◌∷◌, Option, Some, None}
use Rattle.law_formulas.specs.Formulas.{Formula, now, next, when, weak}

-- the offsets of the X of a formula, in their order
abbrev pub nexts : Formula → List ℕ
nexts (now e) = []
nexts (next at f) = at ∷ nexts f
nexts (when c f) = nexts f
nexts (weak p q) = []

-- the ninth of a list, if it has so many
abbrev pub after_eight : List ℕ → Option ℕ
after_eight (a ∷ b ∷ c ∷ d ∷ e ∷ f ∷ g ∷ h ∷ ninth ∷ more) = Some ninth
after_eight _ = None

-- the first of two offsets, of which either may be missing
abbrev pub or_later : Option ℕ → Option ℕ → Option ℕ
or_later (Some at) later = Some at
or_later None later = later

-- the offset of the first X that is the ninth of its formula
abbrev pub first_ninth : List (ℕ × Formula) → Option ℕ
first_ninth [] = None
first_ninth ((place, f) ∷ more) = or_later (after_eight (nexts f)) (first_ninth more)
