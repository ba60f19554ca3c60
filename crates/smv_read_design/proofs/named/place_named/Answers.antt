use Rattle.std.proofs.Common.{◌∙◌, sym, get_or}
use Rattle.std.proofs.lemmas.Option.{slice_get-get_or}
use Rattle.smv_core.specs.declared.flat.Unit.TheVariants.{Map}
use Rattle.smv_read_design.specs.Named.{is_named}
use Rattle.smv_read_design.proofs.PassedLaws.{none_passed, one_more, found_at, none_found}
use Rattle.smv_read_design.proofs.named.place_named.Goals as goal

pub loop-place-init : goal.loop-place-init
loop-place-init c = none_passed (is_named c.args.design.now c.args.name.now) c.args.units.now

pub returns-then-found : goal.returns-then-found
returns-then-found c =
    sym (found_at (is_named c.args.design.now c.args.name.now) c.args.units.now c.loop-place.place (get_or c.args.units.now c.loop-place.place (Map 0)) c.loop-place.invariant
    (slice_get-get_or c.args.units.now c.loop-place.place (Map 0) c.loop-place-test.true) (sym c.in_ok-found.ensures ∙ c.if-found.true))

pub loop-place-preserved : goal.loop-place-preserved
loop-place-preserved c =
    one_more (is_named c.args.design.now c.args.name.now) c.args.units.now c.loop-place.place (get_or c.args.units.now c.loop-place.place (Map 0)) c.loop-place.invariant
    (slice_get-get_or c.args.units.now c.loop-place.place (Map 0) c.loop-place-test.true) (sym c.in_ok-found.ensures ∙ c.if-found.false)

pub returns : goal.returns
returns c = sym (none_found (is_named c.args.design.now c.args.name.now) c.args.units.now c.loop-place.place c.loop-place-test.false c.loop-place.invariant)
