use Rattle.std.proofs.Common.{◌<◌, ◌≤◌, ◌∙◌, ◌++◌, ◌∷◌, [], map, length, sym, ap, arith}
use Rattle.std.proofs.lemmas.List.{map-append, length-map}
use Rattle.smv_core.specs.declared.flat.FlatSplit.{FlatSplit}
use Rattle.smv_references.specs.Again.{placed}
use Rattle.law_splits.specs.Leaves.{named_by}
use Rattle.smv_splits.proofs.LostLaws.{placed-step, placed-end}
use Rattle.smv_splits.proofs.lost.placed_names.Goals as goal

pub loop-place-preserved : goal.loop-place-preserved
loop-place-preserved c =
    let below : c.loop-place.place < length c.args.splits.now = omega (arith, c.loop-place-test.true, c.min-place-end.ensures) in
    placed-step c.args.splits.now c.args.names.now c.loop-place.place c.index-splits-place.result c.index-names-place.result (map placed c.loop-place.out.items) (map placed c.push.new.self.items) _
    c.requires below c.index-splits-place.is c.index-names-place.is
    (ap (map placed) c.in_ok-push.ensures.items ∙ map-append placed c.loop-place.out.items _
    ∙ ap (λ (s : FlatSplit). map placed c.loop-place.out.items ++ (s.of.at, c.index-names-place.result) ∷ []) (sym c.index-splits-place.is)) c.loop-place.invariant

pub returns : goal.returns
returns c =
    let long = ap length c.requires in
    let over : length c.args.splits.now ≤ c.loop-place.place = omega (arith, c.loop-place-test.false, c.min-place-end.ensures, long, length-map c.args.splits.now (λ (s : FlatSplit). named_by s.of)) in
    placed-end c.args.splits.now c.loop-place.place (map placed c.loop-place.out.items) over c.loop-place.invariant
