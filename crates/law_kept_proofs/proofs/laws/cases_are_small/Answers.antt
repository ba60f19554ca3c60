use Rattle.law_kept_proofs.proofs.Small.{is_named, is_counted, is_narrow}
use Rattle.law_kept_proofs.proofs.laws.cases_are_small.Goals as goal

pub returns-clause-names : goal.returns-clause-names
returns-clause-names c text tree valid x h = is_named c.valid_texts_are_faultless.ensures text tree valid x h c.unit_names_are_visible.ensures

pub returns-clause-small : goal.returns-clause-small
returns-clause-small c text tree valid x h = (
  is_counted c.valid_texts_are_faultless.ensures text tree valid x h c.leaves_are_in_place.ensures c.leaves_have_room.ensures,
  is_narrow c.valid_texts_are_faultless.ensures text tree valid x h c.leaves_are_in_place.ensures c.leaves_have_room.ensures,
)
