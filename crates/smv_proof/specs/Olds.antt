-- An old document before a new design.
use Rattle.std.specs.Prelude.{◌≡◌, ◌≤◌, ℕ, List, [], ◌∷◌, ◌++◌, length, codes}
use Rattle.std.specs.Fmt.{decimal}
use Rattle.smv_proof.specs.Documents.{most, line}

-- the bytes are `old N`, the N bytes of an old document, a line feed, and the bytes of a design
pub record IsOld (bytes old text : List ℕ) : Type 0 where
  pub few : length old ≤ most
  pub spelled : bytes ≡ line (codes "old" ∷ decimal (length old) ∷ []) ++ (old ++ 10 ∷ text)
