use Rattle.std.proofs.Common.{◌∙◌, ap, sym, map, []}
use Rattle.std.specs.List.{flat_map}
use Rattle.smv_mentions.specs.Scopes.{pieces, first_of_places}
use Rattle.smv_mentions.specs.NameFaults.{repeated, doubled_in}
use Rattle.smv_first_fault.specs.Firsts.{least}
use Rattle.smv_first_fault.proofs.LeastLaws.{least-append}
use Rattle.smv_scope.proofs.scope.doubled.Goals as goal

pub returns : goal.returns
returns c =
    let tops = pieces c.args.tables.now.text.now in
    c.first_of.ensures ∙ ap (λ o. first_of_places o c.in_ok-inside.inside) c.in_ok-tops.ensures ∙ ap (first_of_places (least (repeated [] (map (λ piece. piece.word) tops)))) c.in_ok-inside.ensures
    ∙ sym (least-append (repeated [] (map (λ piece. piece.word) tops)) (flat_map (doubled_in tops) tops))
