-- Lists that are made piece by piece.
use Rattle.std.proofs.Common.{◌≡◌, ◌∙◌, ℕ, List, [], ◌∷◌, ◌++◌, ap, append_assoc, refl, sym}
use Rattle.std.specs.Prelude.{Option, Some, None}
use Rattle.smv_read_report.specs.declared.line.Cells.{Cells}
use Rattle.smv_read_report.specs.Pieces.{led}
use Rattle.smv_read_report.specs.Lines.{cell_onto, word_onto}

-- one more byte before the first piece
pub led_byte : (front : List ℕ) (b : ℕ) (pieces : List (List ℕ)) → led front (led (b ∷ []) pieces) ≡ led (front ++ b ∷ []) pieces
led_byte front b [] = refl
led_byte front b (piece ∷ pieces) = ap (λ first. first ∷ pieces) (sym (append_assoc front (b ∷ []) piece))

pub led_nothing : (bytes : List ℕ) (rest : List (List ℕ)) → led [] (bytes ∷ rest) ≡ bytes ∷ rest
led_nothing bytes rest = refl

-- words before words, where there are such
abbrev pub words_behind : List (List ℕ) → Option (List (List ℕ)) → Option (List (List ℕ))
words_behind front (Some words) = Some (front ++ words)
words_behind front None = None

pub one_word : (front : List (List ℕ)) (word : List ℕ) (words : Option (List (List ℕ))) → words_behind front (word_onto (Some word) words) ≡ words_behind (front ++ word ∷ []) words
one_word front word (Some words) = ap Some (sym (append_assoc front (word ∷ []) words))
one_word front word None = refl

abbrev pub cells_behind : List (List ℕ) → List (List ℕ) → Option Cells → Option Cells
cells_behind elements values (Some cells) = Some (record { elements = elements ++ cells.elements; values = values ++ cells.values })
cells_behind elements values None = None

pub one_cell : (elements values : List (List ℕ)) (element value : List ℕ) (cells : Option Cells) →
    cells_behind elements values (cell_onto element (Some value) cells) ≡ cells_behind (elements ++ element ∷ []) (values ++ value ∷ []) cells
one_cell elements values element value (Some cells) =
    ap (λ (e : List (List ℕ)). Some (record { elements = e; values = values ++ value ∷ cells.values })) (sym (append_assoc elements (element ∷ []) cells.elements))
    ∙ ap (λ (v : List (List ℕ)). Some (record { elements = (elements ++ element ∷ []) ++ cells.elements; values = v })) (sym (append_assoc values (value ∷ []) cells.values))
one_cell elements values element value None = refl
