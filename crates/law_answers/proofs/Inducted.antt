-- That a text is proved by induction is due to an induction alone.
use Rattle.std.proofs.Common.{◌≡◌, ◌∙◌, ℕ, Bool, true, false, List, Some, None, refl, ap, true≢false}
use Rattle.std.specs.Prelude.{◌≢◌}
use Rattle.smv_command.specs.declared.commands.Command.{Command}
use Rattle.smv_command.specs.declared.commands.Command.TheVariants.{Prove, Only, Print, Generated, Proof, Check, Resume, Confirm, Induct, Ltl}
use Rattle.smv_command.specs.declared.exit.Status.{Status}
use Rattle.smv_command.specs.declared.exit.Status.TheVariants as status
use Rattle.law_valid_texts.specs.Reports.{IsSoundDesign}
use Rattle.law_induct_answers.specs.Laws.{InductedIsSound}
use Rattle.law_answers.proofs.Statuses.{of_ltl_statuses}
use Rattle.law_answers.specs.Dues.{text_for}
use Rattle.law_answers.specs.Laws.{InductedTextIsSound}
use Rattle.law_answers.proofs.Own.{IsApart, OwnDue, own_due}

abbrev is_inducted : Status → Bool
is_inducted status.Inducted = true
is_inducted _ = false

apart : IsApart is_inducted
apart =
    record {
      fails_all_proved = refl;
      fails_some_false = refl;
      fails_some_unknown = refl;
      fails_refused = refl;
      fails_part_proved = refl;
      fails_printed = refl;
      fails_generated = refl;
      fails_documented = refl;
      fails_checked = refl;
      fails_rejected = refl;
      fails_resumed = refl;
      fails_holds_here = refl;
      fails_real = refl;
    }

other : (due : Status) → is_inducted due ≡ false → status.Inducted ≢ due
other due not e = true≢false (ap is_inducted e ∙ not)

module _ (law : InductedIsSound) where
  own_sound : (command : Command) (text answer : List ℕ) → OwnDue command (text_for command text) status.Inducted answer → IsSoundDesign text
  own_sound (Prove bits budgets) text answer is = absurd is
  own_sound (Only name bits budgets) text answer is = absurd is
  own_sound Print text answer is = absurd is
  own_sound (Generated copies) text answer is = absurd is
  own_sound (Proof budgets) text answer is = absurd is
  own_sound Check text answer is = absurd is
  own_sound (Resume budgets) text answer is = absurd is
  own_sound (Confirm name sizes bits budgets) text answer is = absurd is
  own_sound (Induct name var budgets) text answer is = law status.Inducted name var budgets text answer (other status.SomeFalse refl) (other status.SomeUnknown refl) (other status.Refused refl) is
  own_sound (Ltl bits budgets) text answer is = absurd (true≢false (of_ltl_statuses is_inducted refl refl refl status.AllFormulas refl bits budgets text status.Inducted answer is))

  pub inducted_sound : InductedTextIsSound
  inducted_sound None text answer is = absurd (other status.Usage refl is.0)
  inducted_sound (Some command) text answer is = own_sound command text answer (own_due is_inducted apart command (text_for command text) status.Inducted answer refl is)
