use Rattle.std.proofs.Common.{◌∙◌, ap, sym, subst, map, List, [], ◌≤◌}
use Rattle.bdd_store.specs.declared.Ref.{Ref}
use Rattle.bdd_store.specs.Diagram.{table}
use Rattle.smv_rings.specs.Lists.{lists_of, refs_of}
use Rattle.smv_rings.specs.Ops.{IsOneOf, acts_of, refs_in_all, FitsActs}
use Rattle.smv_search.specs.Answers.{Begins}
use Rattle.smv_search.specs.Keeping.{AllHeld, beads_of}
use Rattle.smv_rings.specs.Schedule.{one_by_one}
use Rattle.law_events.specs.Events.{AllUneventful}
use Rattle.smv_search.proofs.Keep.{keeps_self}
use Rattle.smv_search.proofs.Steps.{handed_on}
use Rattle.smv_search.proofs.Start.{rel_held, begin_stop, begin_run, opening_fits}
use Rattle.smv_search.proofs.begin.Goals as goal

pub returns-in_err-take_in-clause-keeps : goal.returns-in_err-take_in-clause-keeps
returns-in_err-take_in-clause-keeps c = keeps_self c.args.store.now (refs_of c.args.rel.now) (rel_held c.args.store.now c.args.rel.now c.requires.rel)

pub returns-in_err-take_in-clause-begins : goal.returns-in_err-take_in-clause-begins
returns-in_err-take_in-clause-begins c images =
    handed_on c.from_residual.result c.in_err-take_in.field-0.0 (Begins c.args.store.now (lists_of c.args.store.now c.args.rel.now) (record { vars = c.args.store.now.vars; nodes = c.args.nodes; images = images })) c.from_residual.ensures.1
    (begin_stop c.args.store.now c.args.rel.now c.deref.result.now (c.deref.ensures.value ∙ c.requires.own) c.args.nodes images c.in_err-take_in.field-0.0 (c.in_err-take_in.ensures.takes images))

pub returns-in_err-ops-clause-keeps : goal.returns-in_err-ops-clause-keeps
returns-in_err-ops-clause-keeps c = keeps_self c.args.store.now (refs_of c.args.rel.now) (rel_held c.args.store.now c.args.rel.now c.requires.rel)

pub run-requires-clause-live : goal.run-requires-clause-live
run-requires-clause-live c = subst (AllHeld c.args.store.now) (sym c.requires.own) (rel_held c.args.store.now c.args.rel.now c.requires.rel)

pub run-requires-clause-refs : goal.run-requires-clause-refs
run-requires-clause-refs c r one = subst (IsOneOf r) (sym c.requires.own) (c.in_ok-ops.ensures.refs r (subst (λ ops. IsOneOf r (refs_in_all ops)) c.deref-2.ensures.value one))

pub run-requires-clause-fits : goal.run-requires-clause-fits
run-requires-clause-fits c =
    subst (FitsActs c.args.store.now.vars (table c.args.store.now c.first-start.result)) (sym (ap (acts_of c.args.store.now 0) c.deref-2.ensures.value ∙ c.in_ok-ops.ensures.acts c.args.store.now))
    (opening_fits (lists_of c.args.store.now c.args.rel.now) c.args.store.now.vars (table c.args.store.now c.first-start.result))

pub returns-clause-begins : goal.returns-clause-begins
returns-clause-begins c images =
    begin_run c.args.store.now c.args.rel.now c.args.live.now.items c.requires.own c.args.nodes images c.run.new.store c.run.result (table c.args.store.now c.first-start.result) (acts_of c.args.store.now 0 c.deref-2.result.now)
    (subst (λ (rs : List Ref). AllUneventful (record { vars = c.args.store.now.vars; nodes = c.args.nodes; images = images }) (one_by_one [] (map (table c.args.store.now) rs))) c.deref.ensures.value (c.in_ok-take_in.ensures.takes images))
    (subst (λ (rs : List Ref). beads_of c.args.store.now rs ≤ c.args.nodes) c.deref.ensures.value c.in_ok-take_in.ensures.within)
    c.first-start.ensures.table (ap (acts_of c.args.store.now 0) c.deref-2.ensures.value ∙ c.in_ok-ops.ensures.acts c.args.store.now)
    (c.run.ensures.runs 0 images)
