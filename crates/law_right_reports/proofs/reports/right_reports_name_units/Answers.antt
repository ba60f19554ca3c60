use Rattle.std.proofs.Common.{sym, ◌∙◌}
use Rattle.std.proofs.lemmas.List.{length-map}
use Rattle.law_obligations.specs.Outlines.{unit_in}
use Rattle.law_obligations.specs.Units.{units_of}
use Rattle.law_splits.specs.Leaves.{leaves_of, name_of}
use Rattle.law_splits.proofs.Splits.{one_leaf_each}
use Rattle.law_uses.specs.Choices.{choice_of, choices_of}
use Rattle.law_valid_texts.specs.Joined.{flat_design}
use Rattle.law_valid_texts.specs.Reports.{script_of_tree}
use Rattle.law_right_reports.proofs.Named.{names_of_results, units_of_entries}
use Rattle.law_right_reports.proofs.reports.right_reports_name_units.Goals as goal

pub returns : goal.returns
returns c = λ text tree valid bits nodes steps report right.
    let d = flat_design tree in
    let each = length-map (leaves_of d) (choice_of d (units_of d)) ∙ one_leaf_each d in
    names_of_results (script_of_tree tree) bits nodes steps 0 (script_of_tree tree).entries report.units right.units
    ∙ (units_of_entries (λ unit. name_of d (unit_in d unit)) (units_of d) (leaves_of d) (choices_of d) (one_leaf_each d) each ∙ sym (c.units_of_valid_texts.ensures.names text tree valid))
