use Rattle.std.proofs.Common.{refl}
use Rattle.bdd_ops.proofs.Tables.{if_ok_then}
use Rattle.smv_rings.proofs.Refs.{in_now_first, in_broken_first}
use Rattle.smv_ring_paths.specs.BitPaths.{state_of}
use Rattle.smv_ring_paths.proofs.Ends.{part_live, one_live, first_current, first_some, first_violates}
use Rattle.smv_ring_paths.proofs.broken_at_once.Goals as goal

pub all_with-requires-clause-f : goal.all_with-requires-clause-f
all_with-requires-clause-f c = one_live c.args.store.now c.args.rel.now c.requires.rel c.args.rel.now.broken_first (in_broken_first c.args.rel.now c.args.rel.now.broken_first refl)

pub all_with-requires-clause-fs : goal.all_with-requires-clause-fs
all_with-requires-clause-fs c = part_live c.args.store.now c.args.rel.now c.args.rel.now.now_first.items c.deref.result.now c.requires.rel (in_now_first c.args.rel.now) c.deref.ensures.value

pub one_state-requires-clause-current : goal.one_state-requires-clause-current
one_state-requires-clause-current c = first_current c.args.store.now c.all_with.new.store c.args.rel.now c.requires.rel c.in_ok-states.states c.deref.result.now c.deref.ensures.value c.in_ok-states.ensures.table

pub one_state-requires-clause-some : goal.one_state-requires-clause-some
one_state-requires-clause-some c = first_some c.args.store.now c.all_with.new.store c.args.rel.now c.requires.rel c.in_ok-states.states c.deref.result.now c.deref.ensures.value c.in_ok-states.ensures.table c.requires.some

pub returns-clause-violates : goal.returns-clause-violates
returns-clause-violates c = if_ok_then c.one_state.result _ _ (λ state is.
    first_violates c.args.store.now c.all_with.new.store c.args.rel.now c.requires.rel c.in_ok-states.states c.deref.result.now c.deref.ensures.value c.in_ok-states.ensures.table (state_of state) is) c.one_state.ensures.value
