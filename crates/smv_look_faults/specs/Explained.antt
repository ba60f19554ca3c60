-- What is said of a fault of a text.
use Rattle.std.specs.Prelude.{◌≡◌, ◌≢◌, ℕ, List, ◌++◌, true, false}
use Rattle.smv_core.specs.declared.tree.Text.{Text}
use Rattle.smv_parse.specs.Spelling.{SpellsText}
use Rattle.smv_look_explain.specs.Faults.{fault_lines, unshown_lines}
use Rattle.smv_look_explain.specs.Others.{lines_along, lines_with}
use Rattle.smv_look_expected.specs.Expected.{IsExpected}
use Rattle.smv_look_uses.specs.Chosen.{design_in}
use Rattle.graph_loops.specs.Walks.{IsShortest}
use Rattle.smv_look_loops.specs.Paths.{IsLoopAt}
use Rattle.smv_look_faults.specs.Places.{has_other, other_place}

-- it is none of these: that of a text too long, of a token after which no text can go on, of a loop
abbrev pub IsPlain : ℕ → Type 0
IsPlain number = (number ≢ 31) × (number ≢ 5) × (number ≢ 18)

-- The lines of a fault of a text: the text is not shown where it is too long; below a fault 5 stands what could stand there, below a fault 18 a shortest loop; below one that may have another place that place, if there is one, by
-- the tree that the text spells.
pub data IsExplained (text : List ℕ) (number at : ℕ) : List ℕ → Type 0 where
  unshown : number ≡ 31 → IsExplained text number at (unshown_lines text number at)
  expecting : (expected : List ℕ) → number ≡ 5 → IsExpected text at expected → IsExplained text number at (fault_lines text number at ++ expected)
  along : (tree : Text) (places : List ℕ) → number ≡ 18 → SpellsText text tree → IsShortest (IsLoopAt (design_in tree) at) places → IsExplained text number at (lines_along text number at places)
  alone : IsPlain number → has_other number ≡ false → IsExplained text number at (fault_lines text number at)
  beside : (tree : Text) → IsPlain number → has_other number ≡ true → SpellsText text tree → IsExplained text number at (lines_with text number at (other_place tree number at))
