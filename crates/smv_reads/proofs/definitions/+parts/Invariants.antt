use Rattle.std.proofs.Common.{◌≡◌, drop}
use Rattle.std.specs.List.{flat_map}
use Rattle.smv_elements.specs.Elements.{put_all}
use Rattle.smv_reads.specs.Views.{bind_spot}
use Rattle.smv_reads.specs.Reading.{read_by, read_by_over, AreWalked}
use Rattle.smv_reads.proofs.definitions.+parts.Given as goal

abbrev pub invariant-read_parts-loop-part : goal.invariant-read_parts-loop-part
invariant-read_parts-loop-part l =
    (put_all l.found (flat_map (read_by l.view l.own l.bindings) (drop l.part-index l.parts)) ≡ put_all l.initial.found (flat_map (read_by l.view l.own l.bindings) l.parts))
    × AreWalked l.view l.found l.walked.entries.items

abbrev pub invariant-read_turns-loop-p : goal.invariant-read_turns-loop-p
invariant-read_turns-loop-p l =
    (put_all l.found (flat_map (λ p. read_by l.view l.own (bind_spot l.bindings l.var p) l.body) (drop l.p-index l.p-items)) ≡ put_all l.initial.found (read_by_over l.view l.own l.bindings l.var l.fn.over l.body))
    × AreWalked l.view l.found l.walked.entries.items
