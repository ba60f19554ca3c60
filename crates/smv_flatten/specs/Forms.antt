-- Parts of the flattened text, as the program makes them.
use Rattle.std.specs.Prelude.{ℕ}
use Rattle.smv_core.specs.Values.{Name}
use Rattle.smv_core.specs.declared.tree.Word.{Word}

-- a name at a place
abbrev pub word_at : ℕ → Name → Word
word_at at name = record { name = name; at = at }
