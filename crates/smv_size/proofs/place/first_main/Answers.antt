use Rattle.std.proofs.Common.{ap, sym, ◌∙◌}
use Rattle.std.specs.Str.{bytes_eq}
use Rattle.smv_core.specs.FlatOrder.{main}
use Rattle.smv_core.specs.Values.{Name}
use Rattle.smv_size.proofs.PlaceLaws.{main_passed}
use Rattle.smv_size.proofs.place.first_main.Goals as goal

pub loop-piece-preserved : goal.loop-piece-preserved
loop-piece-preserved c = c.loop-piece.invariant ∙ main_passed c.args.pieces.now c.loop-piece.piece-index c.piece-item.result c.loop-piece-test.true c.piece-item.is
    (ap (λ (l : Name). bytes_eq l main) (sym c.as_bytes.ensures) ∙ ap (λ (l : Name). bytes_eq c.as_bytes.result.now l) (sym c.as_slice.ensures) ∙ sym c.eq.ensures ∙ c.if-eq.false)
