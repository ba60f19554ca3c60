use Rattle.law_designs.specs.Flattening.{flatten}
use Rattle.law_valid_texts.proofs.Ready.{is-read, have-values}
use Rattle.law_valid_texts.proofs.true_reports.well_kinded_are_ready.Goals as goal

pub returns : goal.returns
returns c = λ text well. let kinds = c.flattened_texts_are_kinded.ensures text well in (is-read (flatten text) kinds, have-values (flatten text) kinds)
