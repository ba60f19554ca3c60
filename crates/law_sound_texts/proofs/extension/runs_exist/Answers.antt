use Rattle.std.proofs.Common.{ℕ}
use Rattle.smv_core.specs.declared.flat.Cell.{Cell}
use Rattle.law_sound_texts.proofs.Faultless.{IsFaultless, Falls, is_faultless, has_order}
use Rattle.law_sound_texts.proofs.Runs.{have_values, runs}
use Rattle.law_sound_texts.proofs.extension.runs_exist.Goals as goal

pub returns : goal.returns
returns c = λ d none whole filled sizes are_sizes times.
    let h : IsFaultless d = is_faultless d none in
    let order : (rank : Cell → ℕ) × Falls d rank = has_order d c.orders_show_no_cycle.ensures.there_is_one h in
    runs d sizes (have_values d sizes are_sizes filled) h whole order.0 order.1 times
