-- Tokens whose offsets rise, and the offsets of tops.
use Rattle.std.specs.Prelude.{ℕ, Bool, false, ◌==◌, [], ◌∷◌}
use Rattle.smv_core.specs.declared.tree.Top.{Top}
use Rattle.smv_core.specs.declared.tree.Top.TheVariants.{SetType, Alias, Module}
use Rattle.smv_core.specs.Notation.{Tokens}
use Rattle.law_grammar.specs.Laws.{Rise}

abbrev pub Rises : Tokens → Type 0
Rises ts = (end : ℕ) × Rise end ts

-- the first token stands there
abbrev pub begins_at : ℕ → Tokens → Bool
begins_at at [] = false
begins_at at (t ∷ ts) = t.at == at

-- where a top stands: at its name or its word
abbrev pub place_of : Top → ℕ
place_of (SetType word ordered span at) = word.at
place_of (Alias word of at) = at
place_of (Module word formals body at) = at
