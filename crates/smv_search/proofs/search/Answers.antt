use Rattle.std.proofs.Common.{◌≡◌, ◌∙◌, ◌++◌, List, length, arith, ap, sym, subst}
use Rattle.bdd_store.specs.declared.Ref.{Ref}
use Rattle.smv_rings.specs.Lists.{lists_of, refs_of}
use Rattle.smv_rings.proofs.Rels.{lists_ok}
use Rattle.smv_search.specs.Runs.{IsEndLive}
use Rattle.smv_search.specs.Answers.{found}
use Rattle.smv_search.proofs.Keep.{keeps_self}
use Rattle.smv_search.proofs.Start.{rel_held}
use Rattle.smv_search.proofs.Outcomes.{least_of, few_of}
use Rattle.smv_search.proofs.Sweeping.{roots_live, keeps_end, found_end, answers_end, proof_end}
use Rattle.smv_search.proofs.search.Goals as goal

pub returns-in_err-live-clause-keeps : goal.returns-in_err-live-clause-keeps
returns-in_err-live-clause-keeps c = keeps_self c.args.store.now (refs_of c.args.rel.now) (rel_held c.args.store.now c.args.rel.now c.requires.rel)

pub sweep-requires : goal.sweep-requires
sweep-requires c = roots_live c.args.store.now c.decide-end.new.store c.args.rel.now c.requires.rel c.decide-end.ensures.keeps c.args.nodes c.args.steps c.in_ok-outcome.outcome (c.in_ok-outcome.ensures c.decide-end.new.store (lists_of c.args.store.now c.args.rel.now) (record { vars = c.args.store.now.vars; nodes = c.args.nodes; images = c.args.steps }) (refs_of c.args.rel.now) (let e : c.len-own.result ≡ length (refs_of c.args.rel.now) = omega (arith, ap length c.in_ok-live.ensures) in e) c.decide-end.ensures.end (subst (λ (rs : List Ref). IsEndLive c.decide-end.new.store (lists_of c.args.store.now c.args.rel.now) (refs_of c.args.rel.now) rs c.decide-end.result) (sym c.deref.ensures.value) c.decide-end.ensures.rings)) c.deref-2.result.now (c.deref-2.ensures.value ∙ c.in_ok-push_found.ensures ∙ ap (λ (rs : List Ref). rs ++ found c.in_ok-outcome.outcome) c.in_ok-roots.ensures)

pub returns-clause-verdict : goal.returns-clause-verdict
returns-clause-verdict c = answers_end c.args.store.now c.decide-end.new.store c.args.rel.now c.requires.rel c.decide-end.ensures.keeps c.args.nodes c.args.steps c.in_ok-outcome.outcome (c.in_ok-outcome.ensures c.decide-end.new.store (lists_of c.args.store.now c.args.rel.now) (record { vars = c.args.store.now.vars; nodes = c.args.nodes; images = c.args.steps }) (refs_of c.args.rel.now) (let e : c.len-own.result ≡ length (refs_of c.args.rel.now) = omega (arith, ap length c.in_ok-live.ensures) in e) c.decide-end.ensures.end (subst (λ (rs : List Ref). IsEndLive c.decide-end.new.store (lists_of c.args.store.now c.args.rel.now) (refs_of c.args.rel.now) rs c.decide-end.result) (sym c.deref.ensures.value) c.decide-end.ensures.rings)) c.deref-2.result.now (c.deref-2.ensures.value ∙ c.in_ok-push_found.ensures ∙ ap (λ (rs : List Ref). rs ++ found c.in_ok-outcome.outcome) c.in_ok-roots.ensures) c.sweep.new.self c.sweep.ensures.sweeps

pub returns-clause-true_case : goal.returns-clause-true_case
returns-clause-true_case c = proof_end c.args.store.now c.decide-end.new.store c.args.rel.now c.requires.rel c.decide-end.ensures.keeps c.args.nodes c.args.steps c.in_ok-outcome.outcome (c.in_ok-outcome.ensures c.decide-end.new.store (lists_of c.args.store.now c.args.rel.now) (record { vars = c.args.store.now.vars; nodes = c.args.nodes; images = c.args.steps }) (refs_of c.args.rel.now) (let e : c.len-own.result ≡ length (refs_of c.args.rel.now) = omega (arith, ap length c.in_ok-live.ensures) in e) c.decide-end.ensures.end (subst (λ (rs : List Ref). IsEndLive c.decide-end.new.store (lists_of c.args.store.now c.args.rel.now) (refs_of c.args.rel.now) rs c.decide-end.result) (sym c.deref.ensures.value) c.decide-end.ensures.rings)) c.deref-2.result.now (c.deref-2.ensures.value ∙ c.in_ok-push_found.ensures ∙ ap (λ (rs : List Ref). rs ++ found c.in_ok-outcome.outcome) c.in_ok-roots.ensures) c.sweep.new.self c.sweep.ensures.sweeps

pub returns-clause-false_case : goal.returns-clause-false_case
returns-clause-false_case c =
    least_of (lists_of c.args.store.now c.args.rel.now) (record { vars = c.args.store.now.vars; nodes = c.args.nodes; images = c.args.steps }) (lists_ok c.args.store.now c.args.rel.now c.requires.rel) c.decide-end.new.store c.sweep.new.self c.deref-2.result.now c.in_ok-outcome.outcome (c.in_ok-outcome.ensures c.decide-end.new.store (lists_of c.args.store.now c.args.rel.now) (record { vars = c.args.store.now.vars; nodes = c.args.nodes; images = c.args.steps }) (refs_of c.args.rel.now) (let e : c.len-own.result ≡ length (refs_of c.args.rel.now) = omega (arith, ap length c.in_ok-live.ensures) in e) c.decide-end.ensures.end (subst (λ (rs : List Ref). IsEndLive c.decide-end.new.store (lists_of c.args.store.now c.args.rel.now) (refs_of c.args.rel.now) rs c.decide-end.result) (sym c.deref.ensures.value) c.decide-end.ensures.rings))

pub returns-clause-steps_case : goal.returns-clause-steps_case
returns-clause-steps_case c =
    few_of (lists_of c.args.store.now c.args.rel.now) (record { vars = c.args.store.now.vars; nodes = c.args.nodes; images = c.args.steps }) (lists_ok c.args.store.now c.args.rel.now c.requires.rel) c.decide-end.new.store c.sweep.new.self c.deref-2.result.now c.in_ok-outcome.outcome (c.in_ok-outcome.ensures c.decide-end.new.store (lists_of c.args.store.now c.args.rel.now) (record { vars = c.args.store.now.vars; nodes = c.args.nodes; images = c.args.steps }) (refs_of c.args.rel.now) (let e : c.len-own.result ≡ length (refs_of c.args.rel.now) = omega (arith, ap length c.in_ok-live.ensures) in e) c.decide-end.ensures.end (subst (λ (rs : List Ref). IsEndLive c.decide-end.new.store (lists_of c.args.store.now c.args.rel.now) (refs_of c.args.rel.now) rs c.decide-end.result) (sym c.deref.ensures.value) c.decide-end.ensures.rings))

pub returns-clause-keeps : goal.returns-clause-keeps
returns-clause-keeps c = keeps_end c.args.store.now c.decide-end.new.store c.args.rel.now c.requires.rel c.decide-end.ensures.keeps c.args.nodes c.args.steps c.in_ok-outcome.outcome (c.in_ok-outcome.ensures c.decide-end.new.store (lists_of c.args.store.now c.args.rel.now) (record { vars = c.args.store.now.vars; nodes = c.args.nodes; images = c.args.steps }) (refs_of c.args.rel.now) (let e : c.len-own.result ≡ length (refs_of c.args.rel.now) = omega (arith, ap length c.in_ok-live.ensures) in e) c.decide-end.ensures.end (subst (λ (rs : List Ref). IsEndLive c.decide-end.new.store (lists_of c.args.store.now c.args.rel.now) (refs_of c.args.rel.now) rs c.decide-end.result) (sym c.deref.ensures.value) c.decide-end.ensures.rings)) c.deref-2.result.now (c.deref-2.ensures.value ∙ c.in_ok-push_found.ensures ∙ ap (λ (rs : List Ref). rs ++ found c.in_ok-outcome.outcome) c.in_ok-roots.ensures) c.sweep.new.self c.sweep.ensures.sweeps

pub returns-clause-found : goal.returns-clause-found
returns-clause-found c = found_end c.args.store.now c.decide-end.new.store c.args.rel.now c.requires.rel c.decide-end.ensures.keeps c.args.nodes c.args.steps c.in_ok-outcome.outcome (c.in_ok-outcome.ensures c.decide-end.new.store (lists_of c.args.store.now c.args.rel.now) (record { vars = c.args.store.now.vars; nodes = c.args.nodes; images = c.args.steps }) (refs_of c.args.rel.now) (let e : c.len-own.result ≡ length (refs_of c.args.rel.now) = omega (arith, ap length c.in_ok-live.ensures) in e) c.decide-end.ensures.end (subst (λ (rs : List Ref). IsEndLive c.decide-end.new.store (lists_of c.args.store.now c.args.rel.now) (refs_of c.args.rel.now) rs c.decide-end.result) (sym c.deref.ensures.value) c.decide-end.ensures.rings)) c.deref-2.result.now (c.deref-2.ensures.value ∙ c.in_ok-push_found.ensures ∙ ap (λ (rs : List Ref). rs ++ found c.in_ok-outcome.outcome) c.in_ok-roots.ensures) c.sweep.new.self c.sweep.ensures.sweeps
