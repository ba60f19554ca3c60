-- Scripts whose design is one that has whole definitions of families without conflicts.
use Rattle.std.proofs.Common.{◌≡◌, sym, subst}
use Rattle.smv_core.specs.declared.flat.Design.{Design}
use Rattle.law_obligations.specs.Covers.{AreApart}
use Rattle.law_obligations.specs.Checked.{IsChecked}
use Rattle.law_obligations.specs.Outlines.{Script}
use Rattle.law_sound_texts.specs.Extension.{AreFilled}
use Rattle.law_sound_texts.specs.Exact.{DefinitionsAreFree}
use Rattle.law_sound_texts.specs.Whole.{ReadsWholeInClaims, ReadsWholeInDefinitions, HasDefinitions, HasSplits}

as-asked : (s : Script) → DefinitionsAreFree s.design → ReadsWholeInDefinitions s.design → HasDefinitions s
as-asked s free whole def i = let f = free def i in record { family = f.0; is_family = f.1; is_conflict_free = f.2; is_whole = whole def i }

pub definitions-as-asked : (d : Design) → DefinitionsAreFree d → ReadsWholeInDefinitions d → (s : Script) → s.design ≡ d → HasDefinitions s
definitions-as-asked d free whole s e = as-asked s (subst DefinitionsAreFree (sym e) free) (subst ReadsWholeInDefinitions (sym e) whole)

pub checked : (d : Design) → AreApart d.sets → AreFilled d → ReadsWholeInClaims d → (s : Script) → s.design ≡ d → HasDefinitions s → HasSplits s → IsChecked s
checked d apart filled claims s e definitions splits = record {
  are_apart = subst (λ (d : Design). AreApart d.sets) (sym e) apart;
  are_filled = subst AreFilled (sym e) filled;
  are_whole = subst ReadsWholeInClaims (sym e) claims;
  are_definitions = definitions;
  are_split = splits;
}
