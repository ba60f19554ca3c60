use Rattle.std.proofs.Common.{refl, ap, sym, subst, ◌∙◌, true, List}
use Rattle.std.specs.List.{list_all}
use Rattle.smv_core.specs.declared.flat.Guard.{Guard}
use Rattle.law_obligations.specs.Obligations.{may_hold}
use Rattle.bdd_store.specs.declared.Ref.{Ref}
use Rattle.bdd_store.specs.Diagram.{table}
use Rattle.bdd_store.proofs.Keeping.{keeps_then}
use Rattle.smv_cells.specs.declared.cells.Cell.{Cell}
use Rattle.smv_cells.specs.Seen.{IsSeen}
use Rattle.smv_encode.specs.Coded.{state_at, view_at}
use Rattle.smv_encode.proofs.Calls.{live_on, cells_on, guards_are, has_all, both_function}
use Rattle.smv_encode.proofs.KnownCases.{case_known_kept, next_known}
use Rattle.smv_encode.proofs.times.broken_step_by.Goals as goal

pub target_step-requires : goal.target_step-requires
target_step-requires c = record {
  live = live_on c.args.store.now c.guards_by.new.store c.args.cells.now c.in_ok-held.ensures.keeps c.requires.live;
  known = next_known c.args.store.now c.guards_by.new.store c.args.problem.now c.args.cells.now _ _ _ refl c.as_slice-next.ensures.value c.in_ok-held.ensures.keeps c.requires.live c.requires.known c.in_ok-held.ensures.known;
}

pub returns-clause-means : goal.returns-clause-means
returns-clause-means c d is well o are =
    let guards = c.as_slice-guards.ensures ∙ guards_are c.args.problem.now d is in
    both_function (table c.target_step.new.store c.in_ok-held.held) (λ a. list_all (may_hold d.problem (state_at d o true a)) d.problem.guards) (table c.target_step.new.store c.in_ok-broken.broken) (table c.and.new.store c.in_ok-r.r)
    (λ a. c.in_ok-broken.ensures.keeps.tables c.in_ok-held.held c.in_ok-held.ensures.live a
    ∙ c.in_ok-held.ensures.means d is well o true are.states (subst (λ (cs : List (Cell Ref)). IsSeen table c.args.store.now c.args.problem.now cs (view_at d o true)) (sym c.as_slice-next.ensures.value) are.next) (has_all c.as_slice-guards.result.now d.problem.guards guards) a
    ∙ ap (λ (gs : List Guard). list_all (may_hold d.problem (state_at d o true a)) gs) guards)
    c.in_ok-r.ensures.table _
    (c.in_ok-broken.ensures.means d is well o (cells_on d o c.args.store.now c.guards_by.new.store c.args.problem.now c.args.cells.now c.in_ok-held.ensures.keeps c.requires.live are))

pub returns-clause-known : goal.returns-clause-known
returns-clause-known c =
    let k = keeps_then c.args.store.now c.guards_by.new.store c.target_step.new.store c.in_ok-held.ensures.keeps c.in_ok-broken.ensures.keeps in
    case_known_kept c.target_step.new.store c.and.new.store c.args.problem.now c.args.cells.now c.target_step.new.known c.in_ok-r.ensures.keeps (live_on c.args.store.now c.target_step.new.store c.args.cells.now k c.requires.live) c.in_ok-broken.ensures.known
