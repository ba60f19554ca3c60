use Rattle.std.proofs.Common.{◌≡◌, List, length, take, false, ap, sym, ◌∙◌}
use Rattle.std.specs.List.{flat_map}
use Rattle.smv_core.specs.declared.flat.Element.{Element}
use Rattle.smv_elements.specs.Elements.{put_all}
use Rattle.smv_spots.specs.declared.spots.Spot.{Spot}
use Rattle.smv_free_variables.specs.Reading.{occurs}
use Rattle.smv_reads.specs.Views.{bind_spot}
use Rattle.smv_reads.specs.Reading.{read_in}
use Rattle.smv_reads.proofs.Again.{first-alone}
use Rattle.smv_reads.proofs.FreeLaws.{unread}
use Rattle.smv_reads.proofs.expressions.turns.Goals as goal

pub returns-else-is_read : goal.returns-else-is_read
returns-else-is_read c v found =
    let f : Spot → List Element = λ p. read_in v (bind_spot c.args.bindings.now c.args.var p) c.args.body.now in
    let away : occurs (length (take c.args.var c.args.bindings.now)) c.args.body.now ≡ false = ap (λ (b : List Spot). occurs (length b) c.args.body.now) (sym c.first_spots-place.ensures) ∙ (sym c.is_read.ensures ∙ c.if-is_read.false) in
    ap (λ (ps : List Spot). put_all found (flat_map f ps)) c.first_spots.ensures ∙ first-alone f c.args.spots.now found (unread v c.args.bindings.now c.args.var c.args.body.now away)
