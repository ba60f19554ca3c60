use Rattle.std.proofs.Common.{◌∙◌, drop, ap, sym, ◌+◌}
use Rattle.std.proofs.lemmas.List.Folds.{flat_map-map}
use Rattle.smv_mentions.specs.Scopes.{first_of_places}
use Rattle.smv_mentions.specs.Said.{told}
use Rattle.smv_first_fault.specs.Firsts.{least}
use Rattle.smv_first_fault.proofs.LeastLaws.{least-step}
use Rattle.smv_look_modules.specs.Modules as spec
use Rattle.smv_look_modules.proofs.first_holding.Goals as goal

pub loop-piece-preserved : goal.loop-piece-preserved
loop-piece-preserved c =
    ap (λ l. first_of_places c.first_of-first.result (least l)) (flat_map-map (spec.holding c.args.at) told (drop (c.loop-piece.piece-index + 1) c.args.pieces.now))
    ∙ least-step (λ piece. spec.holding c.args.at (told piece)) c.args.pieces.now c.loop-piece.piece-index c.piece-item.result c.loop-piece.first c.holding.result c.first_of-first.result _
    c.loop-piece-test.true c.piece-item.is c.holding.ensures c.first_of-first.ensures
    (ap (λ l. first_of_places c.loop-piece.first (least l)) (sym (flat_map-map (spec.holding c.args.at) told (drop c.loop-piece.piece-index c.args.pieces.now))) ∙ c.loop-piece.invariant)
