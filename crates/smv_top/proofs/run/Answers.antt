use Rattle.smv_answers.specs.Reports.{IsSoundDesign}
use Rattle.smv_answers.specs.Laws.{AreSoundFormulas, HoldsAsAsked, HoldsSound, RenewsSound}
use Rattle.smv_answers.specs.Dues.{Ends}
use Rattle.smv_top.specs.Clauses.{Completes, ShowsReal}
use Rattle.smv_top.proofs.Endings.{of_told, all_proved_is_sound, checked_holds_sound, completed, documented_is_sound, formulas_are_sound, holds_as_asked, inducted_is_sound, ranged, real_as_asked, resumed_renews_sound}
use Rattle.smv_top.proofs.run.Goals as goal

pub returns-clause-sound : goal.returns-clause-sound
returns-clause-sound g c proved = of_told _ (λ text. Ends _ _ text _ _) IsSoundDesign c.answered.ensures.ends (λ text. all_proved_is_sound c.proved_is_sound.ensures _ _ text _ _ proved)

pub returns-clause-documented : goal.returns-clause-documented
returns-clause-documented g c is = of_told _ (λ text. Ends _ _ text _ _) IsSoundDesign c.answered.ensures.ends (λ text. documented_is_sound c.documents_are_sound.ensures.documented _ _ text _ _ is)

pub returns-clause-checked : goal.returns-clause-checked
returns-clause-checked g c is = of_told _ (λ text. Ends _ _ text _ _) HoldsSound c.answered.ensures.ends (λ text. checked_holds_sound c.documents_are_sound.ensures.checked _ _ text _ _ is)

pub returns-clause-resumed : goal.returns-clause-resumed
returns-clause-resumed g c is = of_told _ (λ text. Ends _ _ text _ _) RenewsSound c.answered.ensures.ends (λ text. resumed_renews_sound c.documents_are_sound.ensures.resumed _ _ text _ _ is)

pub returns-clause-inducted : goal.returns-clause-inducted
returns-clause-inducted g c is = of_told _ (λ text. Ends _ _ text _ _) IsSoundDesign c.answered.ensures.ends (λ text. inducted_is_sound c.induction_is_sound.ensures _ _ text _ _ is)

pub returns-clause-formulas : goal.returns-clause-formulas
returns-clause-formulas g c is = of_told _ (λ text. Ends _ _ text _ _) AreSoundFormulas c.answered.ensures.ends (λ text. formulas_are_sound c.formulas_are_sound.ensures _ _ text _ _ is)

pub returns-clause-holds_here : goal.returns-clause-holds_here
returns-clause-holds_here g c is =
    of_told _ (λ text. Ends _ _ text _ _) (HoldsAsAsked _) c.answered.ensures.ends
    (λ text. holds_as_asked c.confirmed_is_so.ensures.holds _ _ text _ _ (ranged _ (c.numbers_are_in_range.ensures _)) is)

pub returns-clause-real : goal.returns-clause-real
returns-clause-real g c is =
    of_told _ (λ text. Ends _ _ text _ _) (ShowsReal _ _ _) c.answered.ensures.ends
    (λ text. real_as_asked c.confirmed_is_so.ensures.real _ _ text _ _ (ranged _ (c.numbers_are_in_range.ensures _)) is)

pub returns-clause-complete : goal.returns-clause-complete
returns-clause-complete g c no_read no_write =
    of_told _ (λ text. Ends _ _ text _ _) (Completes _ _) c.answered.ensures.ends
    (λ text. completed c.one_status.ensures _ text _ _ _ (λ e. no_read (c.answered.ensures.read_fault e)) (λ e. no_write (c.answered.ensures.write_fault e)))
