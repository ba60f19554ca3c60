use Rattle.std.proofs.Common.{sym, ap, ◌∙◌, map}
use Rattle.std.specs.List.{list_all}
use Rattle.law_obligations.specs.Sets.{first}
use Rattle.smv_spots.specs.Spots.{place_in}
use Rattle.smv_may_read.proofs.Others.{others_read_for}
use Rattle.smv_encode.proofs.CodedCells.{placed_indexes}
use Rattle.smv_wires.specs.Ready.{is_ready_for}
use Rattle.smv_wires.proofs.Readiness.{one_element, ready_done}
use Rattle.smv_wires.proofs.ready.is_ready.Goals as goal

pub returns : goal.returns
returns c held d is well x left h tried =
    ready_done others_read_for c.args.problem.now d is well x left (h.among x first) c.args.element.now (one_element h.written) c.args.tried.now tried (map (place_in d.problem.world.classes) c.as_slice.result.now)
    (ap (map (place_in d.problem.world.classes)) c.as_slice.ensures ∙ placed_indexes c.args.problem.now d is well x c.args.element.now (h.among x first) (one_element h.written) c.in_ok-indexes.indexes c.in_ok-indexes.ensures)
    (sym (ap (list_all (is_ready_for c.args.tried.now c.args.element.now (map (place_in d.problem.world.classes) c.as_slice.result.now))) c.as_slice-demands.ensures) ∙ sym (c.are_ready_for-ready.ensures d.problem.world.classes) ∙ held)
