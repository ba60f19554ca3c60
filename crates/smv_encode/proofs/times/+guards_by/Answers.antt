use Rattle.std.proofs.Common.{rules, ◌∙◌}
use Rattle.bdd_store.specs.Diagram.{IsLive}
use Rattle.bdd_store.proofs.Keeping.{keeps_then}
use Rattle.smv_cells.specs.Cells.{AreCellsMade}
use Rattle.smv_encode.specs.Coded.{view_at, state_at}
use Rattle.smv_encode.proofs.Calls.{list_kept, list_seen, one_guard, first_guard, later_guard}
use Rattle.smv_encode.proofs.KnownCases.{list_known}
use Rattle.smv_encode.proofs.times.+guards_by.Goals as goal

pub guards_by-requires : goal.guards_by-requires
guards_by-requires t c =
    let live : AreCellsMade (IsLive c.guard_by.new.store) c.args.now.now = list_kept c.args.store.now c.guard_by.new.store c.args.now.now c.in_ok-held.ensures.keeps c.requires.live in
    search (rules, live, c.in_ok-held.ensures.known)

pub returns-clause-means : goal.returns-clause-means
returns-clause-means t c d is well o next states seen among a =
    let k = c.in-Some.ensures.cases in
    one_guard d (state_at d o next a) c.args.guards.now c.in-Some.others.now c.in-Some.guard.now _ _ _ k.0
    (c.in_ok-all_held.ensures.keeps.tables c.in_ok-held.held c.in_ok-held.ensures.live a ∙ c.in_ok-held.ensures.means d is well o next states seen (first_guard d c.args.guards.now c.in-Some.others.now c.in-Some.guard.now k.0 among) a)
    (c.in_ok-all_held.ensures.means d is well o next states (list_seen c.args.store.now c.guard_by.new.store c.args.problem.now c.args.now.now (view_at d o next) c.in_ok-held.ensures.keeps c.requires.live seen) (later_guard d c.args.guards.now c.in-Some.others.now c.in-Some.guard.now k.0 among) a)
    (c.in_ok-r.ensures.table a)

pub returns-clause-known : goal.returns-clause-known
returns-clause-known t c =
    let k = keeps_then c.args.store.now c.guard_by.new.store c.guards_by.new.store c.in_ok-held.ensures.keeps c.in_ok-all_held.ensures.keeps in
    list_known c.guards_by.new.store c.and.new.store c.args.problem.now c.args.now.now c.guards_by.new.known.entries.items c.in_ok-r.ensures.keeps (list_kept c.args.store.now c.guards_by.new.store c.args.now.now k c.requires.live) c.in_ok-all_held.ensures.known
