use Rattle.std.proofs.Common.{refl, List, length, sym, subst, ◌∙◌, false}
use Rattle.bdd_store.specs.declared.Ref.{Ref}
use Rattle.bdd_store.specs.Diagram.{Keeps, IsLive, table}
use Rattle.bdd_store.proofs.Keeping.{keeps_then, live_kept}
use Rattle.smv_cells.specs.declared.cells.Cell.{Cell}
use Rattle.smv_cells.specs.Cells.{AreCellsMade}
use Rattle.smv_cells.specs.Seen.{IsSeen}
use Rattle.law_arrangements.specs.Orders.{wired}
use Rattle.smv_encode.specs.Coded.{view_at}
use Rattle.smv_encode.specs.Encoded.{AreCellsOf}
use Rattle.smv_encode.proofs.Calls.{live_on, cells_on, vars_on, within_on}
use Rattle.smv_encode.proofs.Wires.{all_wires}
use Rattle.smv_encode.proofs.CodedCells.{bits_room}
use Rattle.smv_encode.proofs.Whole.{later_list, later_one, lists_are, rel_is}
use Rattle.smv_outcomes.specs.Remembered.{AreKnown}
use Rattle.smv_encode.proofs.KnownCases.{none_known_of_case, current_known}
use Rattle.smv_encode.proofs.lists.relations_by.Goals as goal

pub now_first-requires-clause-room : goal.now_first-requires-clause-room
now_first-requires-clause-room c = bits_room c.args.problem.now (length c.args.places.now) c.requires.well_formed c.requires.count

pub before_first-requires : goal.before_first-requires
before_first-requires c = record {
  cells = live_on c.args.store.now c.now_first.new.store c.args.cells.now c.in_ok-now_first.ensures.keeps c.requires.cells;
  known = c.in_ok-now_first.ensures.known;
}

pub broken_first_by-requires : goal.broken_first_by-requires
broken_first_by-requires c =
    let k = keeps_then c.args.store.now c.now_first.new.store c.before_first.new.store c.in_ok-now_first.ensures.keeps c.in_ok-before_first.ensures.keeps in
    let live = live_on c.args.store.now c.before_first.new.store c.args.cells.now k c.requires.cells in
    record {
      live = subst (AreCellsMade (IsLive c.before_first.new.store)) (sym c.as_slice-current.ensures.value) live.current;
      known = subst (λ (cs : List (Cell Ref)). AreKnown IsLive table c.before_first.new.store c.args.problem.now cs c.before_first.new.known.current.entries.items) (sym c.as_slice-current.ensures.value) c.in_ok-before_first.ensures.known.current;
    }

pub now_step-requires-clause-room : goal.now_step-requires-clause-room
now_step-requires-clause-room c = bits_room c.args.problem.now (length c.args.places.now) c.requires.well_formed c.requires.count

pub now_step-requires-clause-places : goal.now_step-requires-clause-places
now_step-requires-clause-places c =
    let l = keeps_then c.args.store.now c.now_first.new.store c.before_first.new.store c.in_ok-now_first.ensures.keeps c.in_ok-before_first.ensures.keeps in
    let m = keeps_then c.args.store.now c.before_first.new.store c.broken_first_by.new.store l c.in_ok-broken_first.ensures.keeps in
    within_on c.args.store.now c.broken_first_by.new.store c.args.places.now m c.requires.places

pub now_step-requires-clause-cells : goal.now_step-requires-clause-cells
now_step-requires-clause-cells c =
    let k = keeps_then c.args.store.now c.now_first.new.store c.before_first.new.store c.in_ok-now_first.ensures.keeps c.in_ok-before_first.ensures.keeps in
    let l = keeps_then c.args.store.now c.before_first.new.store c.broken_first_by.new.store k c.in_ok-broken_first.ensures.keeps in
    live_on c.args.store.now c.broken_first_by.new.store c.args.cells.now l c.requires.cells

pub before_step-requires : goal.before_step-requires
before_step-requires c =
    let k = keeps_then c.args.store.now c.now_first.new.store c.before_first.new.store c.in_ok-now_first.ensures.keeps c.in_ok-before_first.ensures.keeps in
    let l = keeps_then c.args.store.now c.before_first.new.store c.broken_first_by.new.store k c.in_ok-broken_first.ensures.keeps in
    let m = keeps_then c.args.store.now c.broken_first_by.new.store c.now_step.new.store l c.in_ok-now_step.ensures.keeps in
    record { cells = live_on c.args.store.now c.now_step.new.store c.args.cells.now m c.requires.cells; known = c.in_ok-now_step.ensures.known }

pub broken_step_by-requires : goal.broken_step_by-requires
broken_step_by-requires c =
    let k = keeps_then c.args.store.now c.now_first.new.store c.before_first.new.store c.in_ok-now_first.ensures.keeps c.in_ok-before_first.ensures.keeps in
    let l = keeps_then c.args.store.now c.before_first.new.store c.broken_first_by.new.store k c.in_ok-broken_first.ensures.keeps in
    let m = keeps_then c.args.store.now c.broken_first_by.new.store c.now_step.new.store l c.in_ok-now_step.ensures.keeps in
    let n = keeps_then c.args.store.now c.now_step.new.store c.before_step.new.store m c.in_ok-before_step.ensures.keeps in
    record { live = live_on c.args.store.now c.before_step.new.store c.args.cells.now n c.requires.cells; known = c.in_ok-before_step.ensures.known }

pub returns-clause-lists : goal.returns-clause-lists
returns-clause-lists c = λ d is well order done w.
    let o = wired order done in
    let wires = all_wires d done c.args.wires.now w.are_wires in
    let p = c.args.problem.now in
    let cells = c.args.cells.now in
    let live = c.requires.cells in
    let s1 = c.args.store.now in
    let s2 = c.now_first.new.store in
    let s3 = c.before_first.new.store in
    let s4 = c.broken_first_by.new.store in
    let s5 = c.now_step.new.store in
    let s6 = c.before_step.new.store in
    let s7 = c.broken_step_by.new.store in
    let k2 : Keeps s1 s2 = c.in_ok-now_first.ensures.keeps in
    let k3 : Keeps s1 s3 = keeps_then s1 s2 s3 k2 c.in_ok-before_first.ensures.keeps in
    let k4 : Keeps s1 s4 = keeps_then s1 s3 s4 k3 c.in_ok-broken_first.ensures.keeps in
    let k5 : Keeps s1 s5 = keeps_then s1 s4 s5 k4 c.in_ok-now_step.ensures.keeps in
    let k6 : Keeps s1 s6 = keeps_then s1 s5 s6 k5 c.in_ok-before_step.ensures.keeps in
    let l6 : Keeps s6 s7 = c.in_ok-broken_step.ensures.keeps in
    let l5 : Keeps s5 s7 = keeps_then s5 s6 s7 c.in_ok-before_step.ensures.keeps l6 in
    let l4 : Keeps s4 s7 = keeps_then s4 s5 s7 c.in_ok-now_step.ensures.keeps l5 in
    let l3 : Keeps s3 s7 = keeps_then s3 s4 s7 c.in_ok-broken_first.ensures.keeps l4 in
    let l2 : Keeps s2 s7 = keeps_then s2 s3 s7 c.in_ok-before_first.ensures.keeps l3 in
    let are : AreCellsOf d o s1 p cells = w.are_cells in
    let at : IsSeen table s3 p c.as_slice-current.result.now (view_at d o false) = subst (λ (cs : List (Cell Ref)). IsSeen table s3 p cs (view_at d o false)) (sym c.as_slice-current.ensures.value) (cells_on d o s1 s3 p cells k3 live are).current in
    lists_are d order done s7 _
    (later_list s2 s7 c.in_ok-now_first.now_first.items _ l2 c.in_ok-now_first.ensures.live (c.in_ok-now_first.ensures.list d is well o are wires w.are_places))
    (later_list s3 s7 c.in_ok-before_first.before_first.items _ l3 c.in_ok-before_first.ensures.live (c.in_ok-before_first.ensures.list d is well o (cells_on d o s1 s2 p cells k2 live are)))
    (later_one s4 s7 c.in_ok-broken_first.broken_first _ l4 c.in_ok-broken_first.ensures.live (c.in_ok-broken_first.ensures.means d is well o are.states at))
    (later_list s5 s7 c.in_ok-now_step.now_step.items _ l5 c.in_ok-now_step.ensures.live (c.in_ok-now_step.ensures.list d is well o (cells_on d o s1 s4 p cells k4 live are) wires w.are_places))
    (later_list s6 s7 c.in_ok-before_step.before_step.items _ l6 c.in_ok-before_step.ensures.live (c.in_ok-before_step.ensures.list d is well o (cells_on d o s1 s5 p cells k5 live are)))
    (c.in_ok-broken_step.ensures.means d is well o (cells_on d o s1 s6 p cells k6 live are))
    (c.state_bits-bits.ensures d is well ∙ sym (c.requires.count d is well) ∙ sym w.are_counted)

pub returns-clause-rel : goal.returns-clause-rel
returns-clause-rel c = λ d is well order done w.
    let s1 = c.args.store.now in
    let s2 = c.now_first.new.store in
    let s3 = c.before_first.new.store in
    let s4 = c.broken_first_by.new.store in
    let s5 = c.now_step.new.store in
    let s6 = c.before_step.new.store in
    let s7 = c.broken_step_by.new.store in
    let l6 : Keeps s6 s7 = c.in_ok-broken_step.ensures.keeps in
    let l5 : Keeps s5 s7 = keeps_then s5 s6 s7 c.in_ok-before_step.ensures.keeps l6 in
    let l4 : Keeps s4 s7 = keeps_then s4 s5 s7 c.in_ok-now_step.ensures.keeps l5 in
    let l3 : Keeps s3 s7 = keeps_then s3 s4 s7 c.in_ok-broken_first.ensures.keeps l4 in
    let l2 : Keeps s2 s7 = keeps_then s2 s3 s7 c.in_ok-before_first.ensures.keeps l3 in
    let l1 : Keeps s1 s7 = keeps_then s1 s2 s7 c.in_ok-now_first.ensures.keeps l2 in
    rel_is s7 _ c.args.problem.now d is well (wired order done) (returns-clause-lists c d is well order done w) (vars_on c.args.problem.now s1 s7 l1 c.requires.vars)
    (live_kept s2 s7 c.in_ok-now_first.now_first.items l2 c.in_ok-now_first.ensures.live)
    (live_kept s3 s7 c.in_ok-before_first.before_first.items l3 c.in_ok-before_first.ensures.live)
    (l4.live c.in_ok-broken_first.broken_first c.in_ok-broken_first.ensures.live)
    (live_kept s5 s7 c.in_ok-now_step.now_step.items l5 c.in_ok-now_step.ensures.live)
    (live_kept s6 s7 c.in_ok-before_step.before_step.items l6 c.in_ok-before_step.ensures.live)
    c.in_ok-broken_step.ensures.live c.state_bits-bits.ensures

pub now_first-requires-clause-known : goal.now_first-requires-clause-known
now_first-requires-clause-known c = none_known_of_case c.args.store.now c.args.problem.now c.args.cells.now c.nothing_known_of_case-known.result c.nothing_known_of_case-known.ensures.current c.nothing_known_of_case-known.ensures.next

pub now_step-requires-clause-known : goal.now_step-requires-clause-known
now_step-requires-clause-known c =
    let k = keeps_then c.args.store.now c.now_first.new.store c.before_first.new.store c.in_ok-now_first.ensures.keeps c.in_ok-before_first.ensures.keeps in
    let live = live_on c.args.store.now c.before_first.new.store c.args.cells.now k c.requires.cells in
    current_known c.before_first.new.store c.broken_first_by.new.store c.args.problem.now c.args.cells.now c.before_first.new.known _ _ refl c.as_slice-current.ensures.value c.in_ok-broken_first.ensures.keeps live c.in_ok-before_first.ensures.known c.in_ok-broken_first.ensures.known
