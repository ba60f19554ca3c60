-- A text is sound where each unit of its strengthened text is true.
use Rattle.std.proofs.Common.{◌≡◌, ◌∙◌, ◌<◌, ◌^◌, ℕ, Bool, true, false, List, length, None, Ok, refl, sym, ap, subst, arith}
use Rattle.std.specs.Prelude.{◌≢◌, if◌then◌else◌}
use Rattle.std.specs.List.{list_any}
use Rattle.smv_core.specs.Values.{Name}
use Rattle.smv_core.specs.Sound.{IsSound}
use Rattle.smv_core.specs.declared.tree.Text.{Text}
use Rattle.smv_lex.specs.Lexing.{lexed}
use Rattle.smv_mentions.specs.FirstFault.{first_fault}
use Rattle.smv_bits.specs.declared.Bits.TheVariants.{Declared}
use Rattle.smv_parse.specs.Laws.{IsOneTree}
use Rattle.smv_problem.specs.declared.report.Budgets.{Budgets}
use Rattle.smv_problem.specs.declared.report.Report.{Report}
use Rattle.smv_command.specs.declared.exit.Status.{Status}
use Rattle.smv_command.specs.declared.exit.Status.TheVariants as status
use Rattle.law_reports.specs.Reports.{AllTrueUnits}
use Rattle.law_valid_texts.specs.Reports.{IsValid, IsSoundDesign}
use Rattle.law_valid_texts.specs.Laws.{RightReportsAreSound}
use Rattle.law_valid_texts.specs.PlanLaws.{ValidTextsAreFaultless}
use Rattle.law_document_answers.specs.Statuses.{is_false, is_unknown, status_of}
use Rattle.law_document_answers.proofs.Statuses.{true_units}
use Rattle.law_strengthened_texts.specs.Stronger.{Stronger, strengthened, IsStrengthened}
use Rattle.law_inductive_texts.specs.Laws.{InductionIsSound}
use Rattle.law_induct_answers.specs.Dues.{IsInductDue, inducted, refused_text, no_induction, refused_stronger}
use Rattle.law_induct_answers.specs.Laws.{StrengthenedIsSound, InductedIsSound}

-- a valid text has no fault of names
names-faultless : ValidTextsAreFaultless → (text : List ℕ) (tree : Text) → IsValid text tree → first_fault tree ≡ None
names-faultless faultless text tree valid = (faultless text tree valid).0.kinds.3

pub strengthened-sound : InductionIsSound → IsOneTree → ValidTextsAreFaultless → StrengthenedIsSound
strengthened-sound law one faultless text name var s tree other valid h valid_too sound =
    let t = valid.is_tree.spelled in
    let u = valid_too.is_tree.spelled in
    let same : h.1 ≡ tree = one text h.1 tree (h.0, h.4, h.5) t in
    let within = valid.is_tree.within in
    let short : length text < 2 ^ 32 = omega (arith, within) in
    let read : lexed (strengthened text h.0 var h.3 h.2.word.at).text ≡ Ok u.0 = ap (λ (z : Stronger). lexed z.text) (sym h.7) ∙ u.1 in
    let fine : first_fault h.1 ≡ None = ap first_fault same ∙ names-faultless faultless text tree valid in
    subst IsSound same (law text name var h.0 h.1 h.2 h.3 short h.4 h.5 fine h.6 u.0 other read u.2 (names-faultless faultless s.text other valid_too) sound)

-- the units of a report that has the status of a proved text are true
all-proved : (proved : Status) (report : Report) → proved ≢ status.SomeFalse → proved ≢ status.SomeUnknown → status_of proved report ≡ proved → AllTrueUnits report.units
all-proved proved report no_false no_unknown e = by (list_any (λ u. is_false u.verdict) report.units) (list_any (λ u. is_unknown u.verdict) report.units) refl refl e
  where
    by : (x y : Bool) → list_any (λ u. is_false u.verdict) report.units ≡ x → list_any (λ u. is_unknown u.verdict) report.units ≡ y → (if x then status.SomeFalse else (if y then status.SomeUnknown else proved)) ≡ proved → AllTrueUnits report.units
    by true y f u q = absurd (no_false (sym q))
    by false true f u q = absurd (no_unknown (sym q))
    by false false f u q = true_units report.units f u

inducted-by : InductionIsSound → IsOneTree → ValidTextsAreFaultless → RightReportsAreSound → (proved : Status) (name var : Name) (budgets : Budgets) (text : List ℕ) (due : Status) (answer : List ℕ) → proved ≢ status.SomeFalse → proved ≢ status.SomeUnknown →
    proved ≢ status.Refused → due ≡ proved → IsInductDue proved name var budgets text due answer → IsSoundDesign text
inducted-by law one faultless reports _ _ _ _ text _ _ f u r e (inducted proved name var budgets tree s report valid is right) =
    let stronger = reports s.text Declared budgets.nodes budgets.steps report right (all-proved proved report f u e) in
    (tree, valid, strengthened-sound law one faultless text name var s tree stronger.0 valid is stronger.1 stronger.2)
inducted-by law one faultless reports _ _ _ _ text _ _ f u r e (refused_text proved name var budgets number at fault) = absurd (r (sym e))
inducted-by law one faultless reports _ _ _ _ text _ _ f u r e (no_induction proved name var budgets tree valid none) = absurd (r (sym e))
inducted-by law one faultless reports _ _ _ _ text _ _ f u r e (refused_stronger proved name var budgets tree s number at valid is fault) = absurd (r (sym e))

pub inducted-sound : InductionIsSound → IsOneTree → ValidTextsAreFaultless → RightReportsAreSound → InductedIsSound
inducted-sound law one faultless reports proved name var budgets text answer f u r is = inducted-by law one faultless reports proved name var budgets text proved answer f u r refl is
