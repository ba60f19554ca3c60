-- A step of putting texts side by side.
use Rattle.std.specs.Prelude.{ℕ, zero, suc, List, [], ◌∷◌, ◌++◌}

-- a text behind that of this time, or behind all texts where there is none yet
abbrev pub put_at : ℕ → List (List ℕ) → List ℕ → List (List ℕ)
put_at zero [] other = other ∷ []
put_at zero (text ∷ texts) other = (text ++ other) ∷ texts
put_at (suc time) [] other = other ∷ []
put_at (suc time) (text ∷ texts) other = text ∷ put_at time texts other
