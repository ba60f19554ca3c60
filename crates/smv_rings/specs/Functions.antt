-- Functions of assignments.
use Rattle.std.specs.Prelude.{◌≡◌, ℕ, ◌<◌, Bool, true, false, ◌&&◌, ◌||◌}
use Rattle.bdd_ops.specs.Functions.{Function}

abbrev pub never : Function
never a = false

abbrev pub always : Function
always a = true

abbrev pub conj : Function → Function → Function
conj f g a = f a && g a

abbrev pub disj : Function → Function → Function
disj f g a = f a || g a

-- f reads variables below n alone
abbrev pub DependsBelow : ℕ → Function → Type 0
DependsBelow n f = (a c : ℕ → Bool) → ((v : ℕ) → v < n → a v ≡ c v) → f a ≡ f c
