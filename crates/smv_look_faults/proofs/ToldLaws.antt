-- What is said of a fault, by the lines that are written.
use Rattle.std.proofs.Common.{◌≡◌, ◌∙◌, ◌++◌, ℕ, List, Option, true, false, ap, subst, sym}
use Rattle.smv_core.specs.declared.tree.Text.{Text}
use Rattle.smv_parse.specs.Spelling.{SpellsText}
use Rattle.smv_look_explain.specs.Faults.{fault_lines, unshown_lines}
use Rattle.smv_look_explain.specs.Others.{lines_along, lines_with}
use Rattle.smv_look_expected.specs.Expected.{IsExpected}
use Rattle.smv_core.specs.declared.flat.Design.{Design}
use Rattle.smv_look_uses.specs.Chosen.{design_in}
use Rattle.graph_loops.specs.Walks.{IsShortest}
use Rattle.smv_look_loops.specs.Paths.{IsLoopAt}
use Rattle.smv_look_faults.specs.Explained.{IsExplained, IsPlain, alone, along, beside, expecting, unshown}
use Rattle.smv_look_faults.specs.Places.{has_other, other_place}

module _ (text : List ℕ) (number at : ℕ) (lines : List ℕ) where
  pub told_unshown : number ≡ 31 → lines ≡ unshown_lines text number at → IsExplained text number at lines
  told_unshown long told = subst (IsExplained text number at) (sym told) (unshown long)

  pub told_alone : IsPlain number → has_other number ≡ false → lines ≡ fault_lines text number at → IsExplained text number at lines
  told_alone plain none told = subst (IsExplained text number at) (sym told) (alone plain none)

  pub told_beside : (tree : Text) (other : Option ℕ) → IsPlain number → has_other number ≡ true → SpellsText text tree → other ≡ other_place tree number at → lines ≡ lines_with text number at other → IsExplained text number at lines
  told_beside tree other plain has spelled is told = subst (IsExplained text number at) (sym (told ∙ ap (lines_with text number at) is)) (beside tree plain has spelled)

  pub told_expecting : (old expected : List ℕ) → number ≡ 5 → IsExpected text at expected → old ≡ fault_lines text number at → lines ≡ old ++ expected → IsExplained text number at lines
  told_expecting old expected five is first told = subst (IsExplained text number at) (sym (told ∙ ap (λ l. l ++ expected) first)) (expecting expected five is)

  pub told_along : (tree : Text) (design : Design) (places : List ℕ) → number ≡ 18 → SpellsText text tree → design ≡ design_in tree → IsShortest (IsLoopAt design at) places → lines ≡ lines_along text number at places → IsExplained text number at lines
  told_along tree design places loops spelled is shortest told =
      subst (IsExplained text number at) (sym told) (along tree places loops spelled (subst (λ (d : Design). IsShortest (IsLoopAt d at) places) is shortest))
