use Rattle.std.proofs.Common.{◌∙◌, List, map, ap}
use Rattle.smv_core.specs.Values.{Name}
use Rattle.smv_core.specs.declared.flat.SetInfo.{SetInfo}
use Rattle.smv_problem.specs.Written.{name_number, set_numbers_of}
use Rattle.smv_check.proofs.units.common_of.Goals as goal

pub in_common-requires-clause-names : goal.in_common-requires-clause-names
in_common-requires-clause-names c = c.as_slice-3.ensures ∙ (c.in_ok-names.ensures ∙ ap (λ (enums : List (List Name)). map (map (name_number enums)) enums) c.as_slice.ensures)

pub in_common-requires-clause-set_names : goal.in_common-requires-clause-set_names
in_common-requires-clause-set_names c = c.as_slice-4.ensures ∙ (c.in_ok-set_names.ensures ∙ ap (λ (sets : List SetInfo). set_numbers_of sets) c.as_slice-2.ensures)
