use Rattle.std.proofs.Common.{◌∙◌}
use Rattle.std.proofs.lemmas.List.{length-map}
use Rattle.law_obligations.specs.Units.{units_of}
use Rattle.law_splits.specs.Leaves.{leaves_of}
use Rattle.law_splits.proofs.Splits.{one_each}
use Rattle.law_uses.specs.Choices.{choice_of, choices_of}
use Rattle.law_valid_texts.specs.Joined.{flat_design}
use Rattle.law_valid_texts.proofs.valid_texts.right_reports_are_sound.Goals as goal

pub returns : goal.returns
returns c text bits nodes steps report right all =
    let tree = right.0 in
    let d = flat_design tree in
    let each = length-map (leaves_of d) (choice_of d (units_of d)) ∙ one_each d 0 (units_of d) in
    (tree, right.1, c.true_reports_are_sound.ensures tree (c.valid_texts_pass.ensures text tree right.1) (choices_of d) each bits nodes steps report right.2 all)
