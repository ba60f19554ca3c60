use Rattle.std.proofs.Common.{Some, ap}
use Rattle.std.proofs.lemmas.Result.{IfOk-weaker}
use Rattle.law_lists.proofs.Options.{if_ok_both}
use Rattle.law_splits.proofs.Lists.{place_below}
use Rattle.smv_read_design.specs.Named.{is_named}
use Rattle.smv_look_run.specs.Dues.{name_asked}
use Rattle.smv_look_run.proofs.DueLaws.{due_model, due_unnamed, found_among}
use Rattle.smv_look_run.proofs.models.modelled.Goals as goal

pub modelled_at-requires-clause-there : goal.modelled_at-requires-clause-there
modelled_at-requires-clause-there c =
    place_below (is_named c.args.plan.now.design c.args.name.now) c.args.plan.now.units c.in-Some.u
    (found_among c.args.plan.now c.args.name.now c.as_bytes.result.now c.as_slice.result.now c.as_slice.ensures c.as_bytes.ensures c.in_ok-place.place (Some c.in-Some.u) c.in_ok-place.ensures c.in-Some.is)

pub returns-in-Some : goal.returns-in-Some
returns-in-Some c =
    IfOk-weaker c.modelled_at.result _ _
    (λ a there. due_model c.args.query.now c.args.text.now c.args.plan.now c.requires.plan c.args.name.now c.as_bytes.result.now c.as_slice.result.now c.as_slice.ensures c.as_bytes.ensures c.args.case c.requires.asks c.in_ok-place.place c.in-Some.u a.status a.bytes.items c.in_ok-place.ensures c.in-Some.is there)
    c.modelled_at.ensures

pub returns-in-None : goal.returns-in-None
returns-in-None c =
    if_ok_both c.refused.result _ _ _
    (λ a s b. due_unnamed c.args.query.now c.args.text.now c.args.plan.now c.requires.plan c.args.name.now c.as_bytes.result.now c.as_slice.result.now c.as_slice.ensures c.as_bytes.ensures (ap name_asked c.requires.asks) c.in_ok-place.place a.status a.bytes.items c.in_ok-place.ensures c.in-None.is s b)
    c.refused.ensures.status c.refused.ensures.bytes
