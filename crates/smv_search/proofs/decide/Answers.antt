use Rattle.std.proofs.Common.{◌∙◌, ap, subst, suc, Ok}
use Rattle.smv_rings.specs.Lists.{lists_of}
use Rattle.smv_rings.specs.Ops.{IsOneOf, refs_in_all, acts_of}
use Rattle.smv_rings.proofs.Rels.{lists_ok}
use Rattle.smv_search.specs.Runs.{IsEnd}
use Rattle.smv_search.proofs.Steps.{handed_on}
use Rattle.smv_search.proofs.Start.{rel_kept}
use Rattle.smv_search.proofs.Deciding.{plan_fits, begun_stop, begun_none, first_in, own_in, live_in, ring_at, kept_pushed, passed_at, end_at, keeps_at, rings_at}
use Rattle.smv_search.proofs.decide.Goals as goal

pub returns-in_err-ring-clause-end : goal.returns-in_err-ring-clause-end
returns-in_err-ring-clause-end c =
    handed_on c.from_residual.result c.in_err-ring.field-0.0 (IsEnd c.begin.new.store (lists_of c.args.store.now c.args.rel.now) (record { vars = c.args.store.now.vars; nodes = c.args.nodes; images = c.args.steps })) c.from_residual.ensures.1
    (begun_stop c.args.store.now c.begin.new.store c.args.rel.now c.begin.ensures.keeps c.args.nodes c.args.steps c.begin.result (c.begin.ensures.begins c.args.steps) c.in_err-ring.field-0.0 c.in_err-ring.was)

pub returns-in_default-clause-end : goal.returns-in_default-clause-end
returns-in_default-clause-end c = begun_none c.args.store.now c.begin.new.store c.args.rel.now c.begin.ensures.keeps c.args.nodes c.args.steps c.begin.result (c.begin.ensures.begins c.args.steps) (c.in_ok-ring.was ∙ ap Ok c.in_default.is)

pub plan-requires : goal.plan-requires
plan-requires c = record { rel = rel_kept c.args.store.now c.begin.new.store c.args.rel.now c.begin.ensures.keeps c.requires.rel }

pub turns-requires-clause-lists : goal.turns-requires-clause-lists
turns-requires-clause-lists c = lists_ok c.begin.new.store c.args.rel.now (rel_kept c.args.store.now c.begin.new.store c.args.rel.now c.begin.ensures.keeps c.requires.rel)

pub turns-requires-clause-first : goal.turns-requires-clause-first
turns-requires-clause-first c = first_in c.args.store.now c.begin.new.store c.args.rel.now c.begin.ensures.keeps c.args.nodes c.args.steps c.begin.result (c.begin.ensures.begins c.args.steps) c.in-Some.ring (c.in_ok-ring.was ∙ ap Ok c.in-Some.is) c.args.live.now.items c.begin.new.live.items c.push.new.self.items c.requires.own c.in_ok-ring.ensures.same c.in_ok-push.ensures.items

pub turns-requires-clause-live : goal.turns-requires-clause-live
turns-requires-clause-live c = live_in c.args.store.now c.begin.new.store c.args.rel.now c.begin.ensures.keeps c.args.nodes c.args.steps c.begin.result (c.begin.ensures.begins c.args.steps) c.in-Some.ring (c.in_ok-ring.was ∙ ap Ok c.in-Some.is) c.args.live.now.items c.begin.new.live.items c.push.new.self.items c.requires.own c.in_ok-ring.ensures.same c.in_ok-push.ensures.items

pub turns-requires-clause-refs : goal.turns-requires-clause-refs
turns-requires-clause-refs c r one = own_in c.args.store.now c.begin.new.store c.args.rel.now c.begin.ensures.keeps c.args.nodes c.args.steps c.begin.result (c.begin.ensures.begins c.args.steps) c.in-Some.ring (c.in_ok-ring.was ∙ ap Ok c.in-Some.is) c.args.live.now.items c.begin.new.live.items c.push.new.self.items c.requires.own c.in_ok-ring.ensures.same c.in_ok-push.ensures.items r (c.in_ok-turn.ensures.refs r (subst (λ ops. IsOneOf r (refs_in_all ops)) c.deref.ensures.value one))

pub turns-requires-clause-fits : goal.turns-requires-clause-fits
turns-requires-clause-fits c =
    plan_fits c.begin.new.store c.args.rel.now c.deref.result.now (rel_kept c.args.store.now c.begin.new.store c.args.rel.now c.begin.ensures.keeps c.requires.rel)
    (λ k. ap (acts_of c.begin.new.store (suc k)) c.deref.ensures.value ∙ c.in_ok-turn.ensures.turn k)

pub turns-requires-clause-kept : goal.turns-requires-clause-kept
turns-requires-clause-kept c = kept_pushed c.args.store.now c.begin.new.store c.args.rel.now c.begin.ensures.keeps c.args.nodes c.args.steps c.begin.result (c.begin.ensures.begins c.args.steps) c.in-Some.ring (c.in_ok-ring.was ∙ ap Ok c.in-Some.is) c.args.live.now.items c.begin.new.live.items c.push.new.self.items c.requires.own c.in_ok-ring.ensures.same c.in_ok-push.ensures.items

pub turns-requires-clause-ring : goal.turns-requires-clause-ring
turns-requires-clause-ring c = ring_at c.args.store.now c.begin.new.store c.args.rel.now c.begin.ensures.keeps c.args.nodes c.args.steps c.begin.result (c.begin.ensures.begins c.args.steps) c.in-Some.ring (c.in_ok-ring.was ∙ ap Ok c.in-Some.is) c.args.live.now.items c.begin.new.live.items c.push.new.self.items c.requires.own c.in_ok-ring.ensures.same c.in_ok-push.ensures.items

pub turns-requires-clause-passed : goal.turns-requires-clause-passed
turns-requires-clause-passed c = passed_at c.args.store.now c.begin.new.store c.args.rel.now c.begin.ensures.keeps c.args.nodes c.args.steps c.begin.result (c.begin.ensures.begins c.args.steps) c.in-Some.ring (c.in_ok-ring.was ∙ ap Ok c.in-Some.is) c.args.live.now.items c.begin.new.live.items c.push.new.self.items c.requires.own c.in_ok-ring.ensures.same c.in_ok-push.ensures.items

pub returns-clause-keeps : goal.returns-clause-keeps
returns-clause-keeps c = keeps_at c.args.store.now c.begin.new.store c.args.rel.now c.begin.ensures.keeps c.args.nodes c.args.steps c.begin.result (c.begin.ensures.begins c.args.steps) c.in-Some.ring (c.in_ok-ring.was ∙ ap Ok c.in-Some.is) c.args.live.now.items c.begin.new.live.items c.push.new.self.items c.requires.own c.in_ok-ring.ensures.same c.in_ok-push.ensures.items c.turns.new.store c.turns.result c.turns.ensures.keeps

pub returns-clause-end : goal.returns-clause-end
returns-clause-end c = end_at c.args.store.now c.begin.new.store c.args.rel.now c.begin.ensures.keeps c.args.nodes c.args.steps c.begin.result (c.begin.ensures.begins c.args.steps) c.in-Some.ring (c.in_ok-ring.was ∙ ap Ok c.in-Some.is) c.args.live.now.items c.begin.new.live.items c.push.new.self.items c.requires.own c.in_ok-ring.ensures.same c.in_ok-push.ensures.items c.turns.new.store c.turns.result c.turns.ensures.end

pub returns-clause-rings : goal.returns-clause-rings
returns-clause-rings c = rings_at c.args.store.now c.begin.new.store c.args.rel.now c.begin.ensures.keeps c.args.nodes c.args.steps c.begin.result (c.begin.ensures.begins c.args.steps) c.in-Some.ring (c.in_ok-ring.was ∙ ap Ok c.in-Some.is) c.args.live.now.items c.begin.new.live.items c.push.new.self.items c.requires.own c.in_ok-ring.ensures.same c.in_ok-push.ensures.items c.turns.new.store c.turns.result c.turns.new.live.items c.turns.ensures.rings
