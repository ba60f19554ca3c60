use Rattle.std.proofs.Common.{◌∙◌, ap, sym}
use Rattle.std.specs.List.{flat_map}
use Rattle.std.proofs.lemmas.List.Folds.{flat_map-map}
use Rattle.smv_mentions.specs.Scopes.{pieces}
use Rattle.smv_mentions.specs.Said.{said}
use Rattle.smv_mentions.specs.NameFaults.{miscounted}
use Rattle.smv_first_fault.specs.Firsts.{least}
use Rattle.smv_scope.specs.Held.{piece_noted}
use Rattle.smv_scope.specs.Rules.{broken}
use Rattle.smv_scope.proofs.rules.broken_in.Goals as goal

pub returns-in-Counted : goal.returns-in-Counted
returns-in-Counted c =
    let tops = pieces c.args.tables.now.text.now in
    c.miscounted_in.ensures ∙ ap (λ l. least (flat_map (λ mention. miscounted tops (said mention)) l)) c.as_slice.ensures.value
    ∙ ap least (sym (flat_map-map (miscounted tops) said c.args.piece.now.mentions.items))
    ∙ ap (λ r. least (broken r tops (piece_noted c.args.tables.now.text.now c.args.place c.args.piece.now))) (sym c.in-Counted.is)
