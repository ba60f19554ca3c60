use Rattle.std.proofs.Common.{◌≡◌, sym, ◌∙◌, ap, subst, map, arith, append_assoc, Ok, List, ◌++◌, ◌∷◌, []}
use Rattle.bdd_store.specs.declared.Ref.{Ref}
use Rattle.bdd_store.specs.Diagram.{IsLive, table}
use Rattle.smv_search.proofs.Keep.{same_place, place_same}
use Rattle.smv_rings.specs.Lists.{lists_of}
use Rattle.smv_rings.specs.Schedule.{ring, kept_at, schedule}
use Rattle.smv_rings.specs.Ops.{IsOneOf}
use Rattle.law_events.specs.Events.{AllUneventful, First}
use Rattle.law_events.specs.Events.Event.{Reached}
use Rattle.smv_search.specs.Runs.{IsEnd, rings_to}
use Rattle.smv_search.proofs.Steps.{handed_on}
use Rattle.smv_search.proofs.TurnLaws.{plan_now, fits_now, keeps_f, run_stops, run_finds, image_live, held_f, keeps_g, close_stops, closes, goes_passed, goes_ended, kept_g, next_g, up, pushed_more, pushed_next, pushed_held, end_rings}
use Rattle.smv_search.proofs.turns.turns.Goals as goal

pub run-requires-clause-refs : goal.run-requires-clause-refs
run-requires-clause-refs c = plan_now (lists_of c.args.store.now c.args.rel.now) c.args.store.now c.loop-k.store c.args.live.now.items c.loop-k.live.items c.args.plan.now c.loop-k.last c.loop-k.k c.args.nodes c.args.steps c.requires.refs c.requires.plan c.requires.fits c.loop-k.invariant.keeps c.loop-k.invariant.more c.loop-k.invariant.kept c.loop-k.invariant.ring c.loop-k-test.true

pub run-requires-clause-fits : goal.run-requires-clause-fits
run-requires-clause-fits c = fits_now (lists_of c.args.store.now c.args.rel.now) c.args.store.now c.loop-k.store c.args.live.now.items c.loop-k.live.items c.args.plan.now c.loop-k.last c.loop-k.k c.args.nodes c.args.steps c.requires.refs c.requires.plan c.requires.fits c.loop-k.invariant.keeps c.loop-k.invariant.more c.loop-k.invariant.kept c.loop-k.invariant.ring c.loop-k-test.true

pub returns-in_err-image-clause-keeps : goal.returns-in_err-image-clause-keeps
returns-in_err-image-clause-keeps c = keeps_f (lists_of c.args.store.now c.args.rel.now) c.args.store.now c.loop-k.store c.args.live.now.items c.loop-k.live.items c.args.plan.now c.loop-k.last c.loop-k.k c.args.nodes c.args.steps c.requires.refs c.requires.plan c.requires.fits c.loop-k.invariant.keeps c.loop-k.invariant.more c.loop-k.invariant.kept c.loop-k.invariant.ring c.loop-k-test.true c.run.new.store c.run.new.live.items c.run.result c.run.ensures.keeps (c.loop-k.invariant.passed c.loop-k-test.true) c.run.ensures.runs

pub returns-in_err-image-clause-end : goal.returns-in_err-image-clause-end
returns-in_err-image-clause-end c =
    handed_on c.from_residual.result c.in_err-image.field-0.0 (IsEnd c.run.new.store (lists_of c.args.store.now c.args.rel.now) (record { vars = c.args.store.now.vars; nodes = c.args.nodes; images = c.args.steps })) c.from_residual.ensures.1 (run_stops (lists_of c.args.store.now c.args.rel.now) c.args.store.now c.loop-k.store c.args.live.now.items c.loop-k.live.items c.args.plan.now c.loop-k.last c.loop-k.k c.args.nodes c.args.steps c.requires.refs c.requires.plan c.requires.fits c.loop-k.invariant.keeps c.loop-k.invariant.more c.loop-k.invariant.kept c.loop-k.invariant.ring c.loop-k-test.true c.run.new.store c.run.new.live.items c.run.result c.run.ensures.keeps (c.loop-k.invariant.passed c.loop-k-test.true) c.run.ensures.runs c.in_err-image.field-0.0 c.in_err-image.was)

pub returns-in_default-clause-keeps : goal.returns-in_default-clause-keeps
returns-in_default-clause-keeps c = keeps_f (lists_of c.args.store.now c.args.rel.now) c.args.store.now c.loop-k.store c.args.live.now.items c.loop-k.live.items c.args.plan.now c.loop-k.last c.loop-k.k c.args.nodes c.args.steps c.requires.refs c.requires.plan c.requires.fits c.loop-k.invariant.keeps c.loop-k.invariant.more c.loop-k.invariant.kept c.loop-k.invariant.ring c.loop-k-test.true c.run.new.store c.run.new.live.items c.run.result c.run.ensures.keeps (c.loop-k.invariant.passed c.loop-k-test.true) c.run.ensures.runs

pub returns-in_default-clause-end : goal.returns-in_default-clause-end
returns-in_default-clause-end c = up (λ n. First (record { vars = c.args.store.now.vars; nodes = c.args.nodes; images = c.args.steps }) (schedule (lists_of c.args.store.now c.args.rel.now) c.args.steps) (Reached n)) c.loop-k.k (run_finds (lists_of c.args.store.now c.args.rel.now) c.args.store.now c.loop-k.store c.args.live.now.items c.loop-k.live.items c.args.plan.now c.loop-k.last c.loop-k.k c.args.nodes c.args.steps c.requires.refs c.requires.plan c.requires.fits c.loop-k.invariant.keeps c.loop-k.invariant.more c.loop-k.invariant.kept c.loop-k.invariant.ring c.loop-k-test.true c.run.new.store c.run.new.live.items c.run.result c.run.ensures.keeps (c.loop-k.invariant.passed c.loop-k-test.true) c.run.ensures.runs (c.in_ok-image.was ∙ ap Ok c.in_default.is))

pub close-requires-clause-image : goal.close-requires-clause-image
close-requires-clause-image c = image_live (lists_of c.args.store.now c.args.rel.now) c.args.store.now c.loop-k.store c.args.live.now.items c.loop-k.live.items c.args.plan.now c.loop-k.last c.loop-k.k c.args.nodes c.args.steps c.requires.refs c.requires.plan c.requires.fits c.loop-k.invariant.keeps c.loop-k.invariant.more c.loop-k.invariant.kept c.loop-k.invariant.ring c.loop-k-test.true c.run.new.store c.run.new.live.items c.run.result c.run.ensures.keeps (c.loop-k.invariant.passed c.loop-k-test.true) c.run.ensures.runs c.in-Some.image (c.in_ok-image.was ∙ ap Ok c.in-Some.is) c.in_ok-image.ensures.same c.loop-k.invariant.last

pub close-requires-clause-last : goal.close-requires-clause-last
close-requires-clause-last c = subst (λ rs. IsOneOf c.loop-k.last rs) (sym c.in_ok-image.ensures.same) c.loop-k.invariant.last

pub close-requires-clause-live : goal.close-requires-clause-live
close-requires-clause-live c = held_f (lists_of c.args.store.now c.args.rel.now) c.args.store.now c.loop-k.store c.args.live.now.items c.loop-k.live.items c.args.plan.now c.loop-k.last c.loop-k.k c.args.nodes c.args.steps c.requires.refs c.requires.plan c.requires.fits c.loop-k.invariant.keeps c.loop-k.invariant.more c.loop-k.invariant.kept c.loop-k.invariant.ring c.loop-k-test.true c.run.new.store c.run.new.live.items c.run.result c.run.ensures.keeps (c.loop-k.invariant.passed c.loop-k-test.true) c.run.ensures.runs c.in-Some.image (c.in_ok-image.was ∙ ap Ok c.in-Some.is) c.in_ok-image.ensures.same c.loop-k.invariant.last

pub returns-in_err-next-clause-keeps : goal.returns-in_err-next-clause-keeps
returns-in_err-next-clause-keeps c = keeps_g (lists_of c.args.store.now c.args.rel.now) c.args.store.now c.loop-k.store c.args.live.now.items c.loop-k.live.items c.args.plan.now c.loop-k.last c.loop-k.k c.args.nodes c.args.steps c.requires.refs c.requires.plan c.requires.fits c.loop-k.invariant.keeps c.loop-k.invariant.more c.loop-k.invariant.kept c.loop-k.invariant.ring c.loop-k-test.true c.run.new.store c.run.new.live.items c.run.result c.run.ensures.keeps (c.loop-k.invariant.passed c.loop-k-test.true) c.run.ensures.runs c.in-Some.image (c.in_ok-image.was ∙ ap Ok c.in-Some.is) c.in_ok-image.ensures.same c.loop-k.invariant.last c.close.new.store c.close.result c.close.ensures.keeps c.close.ensures.count

pub returns-in_err-next-clause-end : goal.returns-in_err-next-clause-end
returns-in_err-next-clause-end c =
    handed_on c.from_residual-in_err-next.result c.in_err-next.field-0.0 (IsEnd c.close.new.store (lists_of c.args.store.now c.args.rel.now) (record { vars = c.args.store.now.vars; nodes = c.args.nodes; images = c.args.steps })) c.from_residual-in_err-next.ensures.1 (close_stops (lists_of c.args.store.now c.args.rel.now) c.args.store.now c.loop-k.store c.args.live.now.items c.loop-k.live.items c.args.plan.now c.loop-k.last c.loop-k.k c.args.nodes c.args.steps c.requires.refs c.requires.plan c.requires.fits c.loop-k.invariant.keeps c.loop-k.invariant.more c.loop-k.invariant.kept c.loop-k.invariant.ring c.loop-k-test.true c.run.new.store c.run.new.live.items c.run.result c.run.ensures.keeps (c.loop-k.invariant.passed c.loop-k-test.true) c.run.ensures.runs c.in-Some.image (c.in_ok-image.was ∙ ap Ok c.in-Some.is) c.in_ok-image.ensures.same c.loop-k.invariant.last c.close.new.store c.close.result c.close.ensures.keeps c.close.ensures.count c.in_err-next.field-0.0 c.in_err-next.was)

pub returns-then-eq-clause-keeps : goal.returns-then-eq-clause-keeps
returns-then-eq-clause-keeps c = keeps_g (lists_of c.args.store.now c.args.rel.now) c.args.store.now c.loop-k.store c.args.live.now.items c.loop-k.live.items c.args.plan.now c.loop-k.last c.loop-k.k c.args.nodes c.args.steps c.requires.refs c.requires.plan c.requires.fits c.loop-k.invariant.keeps c.loop-k.invariant.more c.loop-k.invariant.kept c.loop-k.invariant.ring c.loop-k-test.true c.run.new.store c.run.new.live.items c.run.result c.run.ensures.keeps (c.loop-k.invariant.passed c.loop-k-test.true) c.run.ensures.runs c.in-Some.image (c.in_ok-image.was ∙ ap Ok c.in-Some.is) c.in_ok-image.ensures.same c.loop-k.invariant.last c.close.new.store c.close.result c.close.ensures.keeps c.close.ensures.count

pub returns-then-eq-clause-end : goal.returns-then-eq-clause-end
returns-then-eq-clause-end c = closes (lists_of c.args.store.now c.args.rel.now) c.args.store.now c.loop-k.store c.args.live.now.items c.loop-k.live.items c.args.plan.now c.loop-k.last c.loop-k.k c.args.nodes c.args.steps c.requires.refs c.requires.plan c.requires.fits c.loop-k.invariant.keeps c.loop-k.invariant.more c.loop-k.invariant.kept c.loop-k.invariant.ring c.loop-k-test.true c.run.new.store c.run.new.live.items c.run.result c.run.ensures.keeps (c.loop-k.invariant.passed c.loop-k-test.true) c.run.ensures.runs c.in-Some.image (c.in_ok-image.was ∙ ap Ok c.in-Some.is) c.in_ok-image.ensures.same c.loop-k.invariant.last c.close.new.store c.close.result c.close.ensures.keeps c.close.ensures.count c.in_ok-next.next c.in_ok-next.was c.in_ok-next.ensures.live c.in_ok-next.ensures.table (same_place c.in_ok-next.next c.loop-k.last (sym c.eq.ensures ∙ c.if-eq.true))

pub returns-in_err-push-clause-keeps : goal.returns-in_err-push-clause-keeps
returns-in_err-push-clause-keeps c = keeps_g (lists_of c.args.store.now c.args.rel.now) c.args.store.now c.loop-k.store c.args.live.now.items c.loop-k.live.items c.args.plan.now c.loop-k.last c.loop-k.k c.args.nodes c.args.steps c.requires.refs c.requires.plan c.requires.fits c.loop-k.invariant.keeps c.loop-k.invariant.more c.loop-k.invariant.kept c.loop-k.invariant.ring c.loop-k-test.true c.run.new.store c.run.new.live.items c.run.result c.run.ensures.keeps (c.loop-k.invariant.passed c.loop-k-test.true) c.run.ensures.runs c.in-Some.image (c.in_ok-image.was ∙ ap Ok c.in-Some.is) c.in_ok-image.ensures.same c.loop-k.invariant.last c.close.new.store c.close.result c.close.ensures.keeps c.close.ensures.count

pub loop-k-preserved : goal.loop-k-preserved
loop-k-preserved c =
    let ne = place_same c.in_ok-next.next c.loop-k.last (sym c.eq.ensures ∙ c.if-eq.false) in
    let items = c.in_ok-push.ensures.items in
    record {
      keeps = keeps_g (lists_of c.args.store.now c.args.rel.now) c.args.store.now c.loop-k.store c.args.live.now.items c.loop-k.live.items c.args.plan.now c.loop-k.last c.loop-k.k c.args.nodes c.args.steps c.requires.refs c.requires.plan c.requires.fits c.loop-k.invariant.keeps c.loop-k.invariant.more c.loop-k.invariant.kept c.loop-k.invariant.ring c.loop-k-test.true c.run.new.store c.run.new.live.items c.run.result c.run.ensures.keeps (c.loop-k.invariant.passed c.loop-k-test.true) c.run.ensures.runs c.in-Some.image (c.in_ok-image.was ∙ ap Ok c.in-Some.is) c.in_ok-image.ensures.same c.loop-k.invariant.last c.close.new.store c.close.result c.close.ensures.keeps c.close.ensures.count;
      more = pushed_more c.args.live.now.items c.loop-k.live.items c.run.new.live.items c.close.new.live.items c.push.new.self.items c.in_ok-next.next c.loop-k.invariant.more c.in_ok-image.ensures.same c.in_ok-next.ensures.same items;
      front = (c.loop-k.invariant.front.0 ++ (c.in_ok-next.next ∷ []), items ∙ ap (λ rs. rs ++ (c.in_ok-next.next ∷ [])) (c.in_ok-next.ensures.same ∙ c.in_ok-image.ensures.same ∙ c.loop-k.invariant.front.1) ∙ append_assoc c.args.live.now.items c.loop-k.invariant.front.0 (c.in_ok-next.next ∷ []));
      held = pushed_held c.run.new.store c.close.new.store c.run.new.live.items c.close.new.live.items c.push.new.self.items c.in_ok-next.next c.close.ensures.keeps c.in_ok-next.ensures.live c.in_ok-next.ensures.same items;
      last = pushed_next c.close.new.live.items c.push.new.self.items c.in_ok-next.next items;
      kept = ap (map (table c.close.new.store)) (items ∙ ap (λ rs. rs ++ (c.in_ok-next.next ∷ [])) c.in_ok-next.ensures.same) ∙ up (λ n. map (table c.close.new.store) (c.run.new.live.items ++ (c.in_ok-next.next ∷ [])) ≡ kept_at (lists_of c.args.store.now c.args.rel.now) n) c.loop-k.k (kept_g (lists_of c.args.store.now c.args.rel.now) c.args.store.now c.loop-k.store c.args.live.now.items c.loop-k.live.items c.args.plan.now c.loop-k.last c.loop-k.k c.args.nodes c.args.steps c.requires.refs c.requires.plan c.requires.fits c.loop-k.invariant.keeps c.loop-k.invariant.more c.loop-k.invariant.kept c.loop-k.invariant.ring c.loop-k-test.true c.run.new.store c.run.new.live.items c.run.result c.run.ensures.keeps (c.loop-k.invariant.passed c.loop-k-test.true) c.run.ensures.runs c.in-Some.image (c.in_ok-image.was ∙ ap Ok c.in-Some.is) c.in_ok-image.ensures.same c.loop-k.invariant.last c.close.new.store c.close.result c.close.ensures.keeps c.close.ensures.count c.in_ok-next.next c.in_ok-next.was c.in_ok-next.ensures.live c.in_ok-next.ensures.table);
      ring = up (λ n. table c.close.new.store c.in_ok-next.next ≡ ring (lists_of c.args.store.now c.args.rel.now) n) c.loop-k.k (next_g (lists_of c.args.store.now c.args.rel.now) c.args.store.now c.loop-k.store c.args.live.now.items c.loop-k.live.items c.args.plan.now c.loop-k.last c.loop-k.k c.args.nodes c.args.steps c.requires.refs c.requires.plan c.requires.fits c.loop-k.invariant.keeps c.loop-k.invariant.more c.loop-k.invariant.kept c.loop-k.invariant.ring c.loop-k-test.true c.run.new.store c.run.new.live.items c.run.result c.run.ensures.keeps (c.loop-k.invariant.passed c.loop-k-test.true) c.run.ensures.runs c.in-Some.image (c.in_ok-image.was ∙ ap Ok c.in-Some.is) c.in_ok-image.ensures.same c.loop-k.invariant.last c.close.new.store c.close.result c.close.ensures.keeps c.close.ensures.count c.in_ok-next.next c.in_ok-next.was c.in_ok-next.ensures.live c.in_ok-next.ensures.table);
      passed = λ less. up (λ n. AllUneventful (record { vars = c.args.store.now.vars; nodes = c.args.nodes; images = c.args.steps }) (schedule (lists_of c.args.store.now c.args.rel.now) n)) c.loop-k.k (goes_passed (lists_of c.args.store.now c.args.rel.now) c.args.store.now c.loop-k.store c.args.live.now.items c.loop-k.live.items c.args.plan.now c.loop-k.last c.loop-k.k c.args.nodes c.args.steps c.requires.refs c.requires.plan c.requires.fits c.loop-k.invariant.keeps c.loop-k.invariant.more c.loop-k.invariant.kept c.loop-k.invariant.ring c.loop-k-test.true c.run.new.store c.run.new.live.items c.run.result c.run.ensures.keeps (c.loop-k.invariant.passed c.loop-k-test.true) c.run.ensures.runs c.in-Some.image (c.in_ok-image.was ∙ ap Ok c.in-Some.is) c.in_ok-image.ensures.same c.loop-k.invariant.last c.close.new.store c.close.result c.close.ensures.keeps c.close.ensures.count c.in_ok-next.next c.in_ok-next.was c.in_ok-next.ensures.live c.in_ok-next.ensures.table c.vars.ensures.canonical ne (omega arith));
      ended = λ is. goes_ended (lists_of c.args.store.now c.args.rel.now) c.args.store.now c.loop-k.store c.args.live.now.items c.loop-k.live.items c.args.plan.now c.loop-k.last c.loop-k.k c.args.nodes c.args.steps c.requires.refs c.requires.plan c.requires.fits c.loop-k.invariant.keeps c.loop-k.invariant.more c.loop-k.invariant.kept c.loop-k.invariant.ring c.loop-k-test.true c.run.new.store c.run.new.live.items c.run.result c.run.ensures.keeps (c.loop-k.invariant.passed c.loop-k-test.true) c.run.ensures.runs c.in-Some.image (c.in_ok-image.was ∙ ap Ok c.in-Some.is) c.in_ok-image.ensures.same c.loop-k.invariant.last c.close.new.store c.close.result c.close.ensures.keeps c.close.ensures.count c.in_ok-next.next c.in_ok-next.was c.in_ok-next.ensures.live c.in_ok-next.ensures.table c.vars.ensures.canonical ne (omega arith);
    }

pub returns-clause-end : goal.returns-clause-end
returns-clause-end c = c.loop-k.invariant.ended (omega arith)

pub returns-in_default-clause-rings : goal.returns-in_default-clause-rings
returns-in_default-clause-rings c own is functions_are =
    up (λ n. (rings : List Ref) × (c.run.new.live.items ≡ own ++ rings) × (map (table c.run.new.store) rings ≡ rings_to (lists_of c.args.store.now c.args.rel.now) n) × ((r : Ref) → IsOneOf r rings → IsLive c.run.new.store r)) c.loop-k.k
    (end_rings (lists_of c.args.store.now c.args.rel.now) c.args.store.now c.loop-k.store c.run.new.store own c.args.live.now.items c.loop-k.live.items c.run.new.live.items c.loop-k.invariant.front.0 c.args.first c.loop-k.k
    is c.loop-k.invariant.front.1 c.in_ok-image.ensures.same functions_are c.loop-k.invariant.keeps c.run.ensures.keeps c.loop-k.invariant.more c.loop-k.invariant.kept)
