use Rattle.std.proofs.Common.{ℕ}
use Rattle.smv_core.specs.declared.flat.Cell.{Cell}
use Rattle.law_sound_texts.specs.Extension.{is_added}
use Rattle.law_sound_texts.proofs.Faultless.{IsFaultless, Falls, base_is, is_faultless, has_order}
use Rattle.law_sound_texts.proofs.Runs.{extension}
use Rattle.law_sound_texts.proofs.extension.behaviours_are_kept.Goals as goal

pub returns : goal.returns
returns c = λ d none whole sizes behaviour is_run.
    let h : IsFaultless d = is_faultless d none in
    let order : (rank : Cell → ℕ) × Falls d rank = has_order d c.orders_show_no_cycle.ensures.there_is_one h in
    extension d sizes (is_added d) h whole order.0 order.1 (λ def k e. (base_is d h def k).reads_none e) behaviour is_run
