-- The law: what the crate's public function says.
use Rattle.std.specs.Prelude.{◌≡◌, ◌≤◌, ℕ}
use Rattle.smv_core.specs.declared.tree.Text.{Text}
use Rattle.smv_core.specs.Notation.{Tokens}
use Rattle.smv_core.specs.Spelling.{Spells}
use Rattle.law_places.specs.Placeless.{placeless_text}
use Rattle.law_spelled_alike.specs.Local.{kinds_of}

-- tokens of the same kinds spell the same text within as many levels or more, but for places, splits and uses
abbrev pub TextsAreSpelledAlike : Type 0
TextsAreSpelledAlike = (n m : ℕ) → n ≤ m → (ts us : Tokens) (x : Text) → Spells n ts x → kinds_of us ≡ kinds_of ts → (y : Text) × Spells m us y × (placeless_text x ≡ placeless_text y)
