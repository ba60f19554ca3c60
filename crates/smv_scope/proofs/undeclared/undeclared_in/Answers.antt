use Rattle.std.proofs.Common.{◌∙◌, ap}
use Rattle.std.specs.List.{flat_map}
use Rattle.smv_mentions.specs.Said.{said}
use Rattle.smv_mentions.specs.NameFaults.{undeclared}
use Rattle.smv_first_fault.specs.Firsts.{least}
use Rattle.smv_scope.specs.Numbered.{scope_at}
use Rattle.smv_scope.proofs.RuleLaws.{undeclared-whole}
use Rattle.smv_scope.proofs.undeclared.undeclared_in.Goals as goal

pub returns : goal.returns
returns c =
    let t = c.args.tables.now in
    undeclared-whole t.text.now t.pieces.now c.requires.tables.noted c.args.place c.args.piece.now c.requires.here c.formals_of-words.result.now c.undeclared_formals-first.result c.in_ok-second.second c.first_of.result
    c.formals_of-words.ensures c.undeclared_formals-first.ensures
    (c.in_ok-second.ensures ∙ ap (λ l. least (flat_map (λ mention. undeclared (scope_at t.text.now c.args.place) c.formals_of-words.result.now (said mention)) l)) c.as_slice.ensures.value)
    c.first_of.ensures
