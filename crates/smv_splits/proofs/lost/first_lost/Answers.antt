use Rattle.std.proofs.Common.{ap, ◌∙◌}
use Rattle.std.specs.List.{flat_map}
use Rattle.smv_mentions.specs.Scopes.{first_of_places}
use Rattle.smv_first_fault.specs.Firsts.{least}
use Rattle.law_splits.specs.SplitFaults.{astray, split_again}
use Rattle.smv_splits.proofs.lost.first_lost.Goals as goal

pub returns : goal.returns
returns c =
    let d = c.args.tables.now.design.now in
    c.first_of.ensures ∙ (ap (λ o. first_of_places o c.in_ok-again.again) c.first_astray.ensures
    ∙ ap (first_of_places (least (flat_map (astray d) d.splits))) (c.in_ok-again.ensures ∙ ap (λ l. least (split_again l)) c.as_slice.ensures))
