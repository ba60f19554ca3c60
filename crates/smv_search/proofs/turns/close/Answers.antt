use Rattle.std.proofs.Common.{◌≤◌, ℕ, [], ◌∷◌, map, subst, Err}
use Rattle.bdd_store.specs.declared.Ref.{Ref}
use Rattle.bdd_store.specs.Diagram.{table}
use Rattle.smv_rings.specs.Functions.{disj}
use Rattle.smv_search.specs.declared.counts.Stop.{Stop}
use Rattle.smv_search.specs.declared.counts.Stop.TheVariants.{TooMany, OutOfMemory}
use Rattle.law_events.specs.Events.{count}
use Rattle.smv_search.specs.Keeping.{IsTally}
use Rattle.smv_rings.specs.Schedule.{Line}
use Rattle.smv_search.proofs.Keep.{keeps_refs}
use Rattle.smv_search.proofs.Steps.{handed_on, past_tally, counts_any, any_keeps, any_live, any_table}
use Rattle.smv_search.proofs.turns.close.Goals as goal

any_result : (e : Stop) (n nodes : ℕ) → IsTally {A = Unit {0}} n nodes (Err e) → IsTally {A = Ref} n nodes (Err e)
any_result (TooMany c) n nodes is = is
any_result OutOfMemory n nodes is = is

pub returns-in_err-next-clause-keeps : goal.returns-in_err-next-clause-keeps
returns-in_err-next-clause-keeps c = keeps_refs c.args.store.now c.unite.new.store c.args.live.now.items c.requires.live c.in_err-next.ensures.keeps

pub returns-in_err-next-clause-count : goal.returns-in_err-next-clause-count
returns-in_err-next-clause-count c = λ look.
    let line : Line = record { kept = map (table c.args.store.now) c.args.live.now.items; source = table c.args.store.now c.args.image ∷ []; made = disj (table c.args.store.now c.args.image) (table c.args.store.now c.args.last); look = look } in
    handed_on c.from_residual.result c.in_err-next.field-0.0 (IsTally (count c.args.store.now.vars line) c.args.nodes) c.from_residual.ensures.1
    (past_tally Ref Ref line c.args.store.now.vars c.args.nodes c.in_err-next.field-0.0 c.in_err-next.ensures.large)

pub returns-in_err-append-clause-keeps : goal.returns-in_err-append-clause-keeps
returns-in_err-append-clause-keeps c = any_keeps c.args.store.now c.unite.new.store c.append.new.store c.args.live.now.items c.args.image c.in_ok-next.next (disj (table c.args.store.now c.args.image) (table c.args.store.now c.args.last)) c.requires.live c.in_ok-next.ensures.keeps (λ i a. c.in_ok-next.ensures.table a i) c.append.ensures.keeps

pub returns-in_err-append-clause-count : goal.returns-in_err-append-clause-count
returns-in_err-append-clause-count c = λ look.
    handed_on c.from_residual-in_err-append.result c.in_err-append.field-0.0 (IsTally (count c.args.store.now.vars (record { kept = map (table c.args.store.now) c.args.live.now.items; source = table c.args.store.now c.args.image ∷ []; made = disj (table c.args.store.now c.args.image) (table c.args.store.now c.args.last); look = look })) c.args.nodes) c.from_residual-in_err-append.ensures.1
    (subst (λ n. IsTally {A = Ref} n c.args.nodes (Err c.in_err-append.field-0.0)) (counts_any c.args.store.now c.unite.new.store c.args.live.now.items c.args.image c.in_ok-next.next (disj (table c.args.store.now c.args.image) (table c.args.store.now c.args.last)) c.requires.live c.requires.image c.in_ok-next.ensures.keeps (λ i a. c.in_ok-next.ensures.table a i) look) (any_result c.in_err-append.field-0.0 _ _ c.in_err-append.ensures.count))

pub returns-clause-keeps : goal.returns-clause-keeps
returns-clause-keeps c = any_keeps c.args.store.now c.unite.new.store c.append.new.store c.args.live.now.items c.args.image c.in_ok-next.next (disj (table c.args.store.now c.args.image) (table c.args.store.now c.args.last)) c.requires.live c.in_ok-next.ensures.keeps (λ i a. c.in_ok-next.ensures.table a i) c.append.ensures.keeps

pub returns-clause-live : goal.returns-clause-live
returns-clause-live c = any_live c.args.store.now c.unite.new.store c.append.new.store c.args.live.now.items c.args.image c.in_ok-next.next (disj (table c.args.store.now c.args.image) (table c.args.store.now c.args.last)) c.requires.live c.in_ok-next.ensures.keeps (λ i a. c.in_ok-next.ensures.table a i) c.append.ensures.keeps

pub returns-clause-table : goal.returns-clause-table
returns-clause-table c = any_table c.args.store.now c.unite.new.store c.append.new.store c.args.live.now.items c.args.image c.in_ok-next.next (disj (table c.args.store.now c.args.image) (table c.args.store.now c.args.last)) c.requires.live c.in_ok-next.ensures.keeps (λ i a. c.in_ok-next.ensures.table a i) c.append.ensures.keeps

pub returns-clause-count : goal.returns-clause-count
returns-clause-count c = λ look. subst (λ n. n ≤ c.args.nodes) (counts_any c.args.store.now c.unite.new.store c.args.live.now.items c.args.image c.in_ok-next.next (disj (table c.args.store.now c.args.image) (table c.args.store.now c.args.last)) c.requires.live c.requires.image c.in_ok-next.ensures.keeps (λ i a. c.in_ok-next.ensures.table a i) look) c.in_ok-append.ensures.count
