use Rattle.std.proofs.Common.{◌∙◌, ap, [], ◌∷◌}
use Rattle.std.specs.List.{flat_map}
use Rattle.smv_mentions.specs.Said.{said}
use Rattle.smv_mentions.specs.NameFaults.{repeated, declared_words, doubled}
use Rattle.smv_first_fault.specs.Firsts.{least}
use Rattle.smv_scope.specs.Numbered.{scope_at}
use Rattle.smv_scope.proofs.DoubledLaws.{doubled-whole}
use Rattle.smv_scope.proofs.doubled.doubled_in.Goals as goal

pub returns : goal.returns
returns c =
    let t = c.args.tables.now in
    doubled-whole t.text.now t.pieces.now c.requires.tables.noted c.args.place c.args.piece.now c.requires.here c.formals_of.result.now c.in_ok-formal.formal c.in_ok-own.own c.in_ok-other.other c.first_of.result c.first_of-2.result
    c.formals_of.ensures c.in_ok-formal.ensures
    (c.in_ok-own.ensures ∙ ap (λ l. least (repeated [] (flat_map (λ mention. declared_words (said mention ∷ [])) l))) c.as_slice.ensures.value)
    (c.in_ok-other.ensures ∙ ap (λ l. least (flat_map (λ mention. doubled (scope_at t.text.now c.args.place) (said mention)) l)) c.as_slice-2.ensures.value)
    c.first_of.ensures c.first_of-2.ensures
