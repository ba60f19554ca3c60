use Rattle.std.proofs.Common.{map, ap, ◌∙◌, ◌++◌}
use Rattle.smv_references.specs.Again.{placed, placed_words}
use Rattle.smv_splits.proofs.MisfitLaws.{brackets-doubled}
use Rattle.smv_splits.proofs.misfits.first_doubled.Goals as goal

pub returns : goal.returns
returns c =
    brackets-doubled c.args.split.now (map placed c.deref.result.now) c.in_ok-place.place
    (ap (map placed) c.deref.ensures.value ∙ (c.in_ok-add_words-2.ensures ∙ (ap (λ l. l ++ placed_words c.as_slice-2.result.now) (c.in_ok-add_words.ensures ∙ (ap (λ l. map placed l ++ placed_words c.as_slice.result.now) c.new-names.ensures.items
    ∙ ap placed_words c.as_slice.ensures)) ∙ ap (λ l. placed_words c.args.split.now.vars ++ placed_words l) c.as_slice-2.ensures)))
    c.in_ok-place.ensures
