use Rattle.std.proofs.Common.{ap, ◌∙◌, false, List}
use Rattle.std.specs.List.{list_all}
use Rattle.smv_core.specs.declared.flat.Guard.{Guard}
use Rattle.law_obligations.specs.Obligations.{may_hold}
use Rattle.bdd_store.specs.Diagram.{table}
use Rattle.bdd_store.proofs.Keeping.{keeps_then}
use Rattle.smv_encode.specs.Coded.{state_at, view_at}
use Rattle.smv_encode.proofs.Calls.{list_kept, list_seen, guards_are, has_all, both_function}
use Rattle.smv_encode.proofs.KnownCases.{list_known}
use Rattle.smv_encode.proofs.times.broken_first_by.Goals as goal

pub target_first-requires : goal.target_first-requires
target_first-requires c = record { live = list_kept c.args.store.now c.guards_by.new.store c.args.current.now c.in_ok-held.ensures.keeps c.requires.live; known = c.in_ok-held.ensures.known }

pub returns-clause-means : goal.returns-clause-means
returns-clause-means c d is well o states seen =
    let guards = c.as_slice-guards.ensures ∙ guards_are c.args.problem.now d is in
    both_function (table c.target_first.new.store c.in_ok-held.held) (λ a. list_all (may_hold d.problem (state_at d o false a)) d.problem.guards) (table c.target_first.new.store c.in_ok-broken.broken) (table c.and.new.store c.in_ok-r.r)
    (λ a. c.in_ok-broken.ensures.keeps.tables c.in_ok-held.held c.in_ok-held.ensures.live a ∙ c.in_ok-held.ensures.means d is well o false states seen (has_all c.as_slice-guards.result.now d.problem.guards guards) a ∙ ap (λ (gs : List Guard). list_all (may_hold d.problem (state_at d o false a)) gs) guards)
    c.in_ok-r.ensures.table _
    (c.in_ok-broken.ensures.means d is well o states (list_seen c.args.store.now c.guards_by.new.store c.args.problem.now c.args.current.now (view_at d o false) c.in_ok-held.ensures.keeps c.requires.live seen))

pub returns-clause-known : goal.returns-clause-known
returns-clause-known c =
    let k = keeps_then c.args.store.now c.guards_by.new.store c.target_first.new.store c.in_ok-held.ensures.keeps c.in_ok-broken.ensures.keeps in
    list_known c.target_first.new.store c.and.new.store c.args.problem.now c.args.current.now c.target_first.new.known.entries.items c.in_ok-r.ensures.keeps (list_kept c.args.store.now c.target_first.new.store c.args.current.now k c.requires.live) c.in_ok-broken.ensures.known
