use Rattle.smv_free_variables.proofs.KnownLaws.{known-at}
use Rattle.smv_free_variables.proofs.known.Known.find.Goals as goal

pub returns-then-agree : goal.returns-then-agree
returns-then-agree g c =
    let look = c.in_ok-entry.ensures.lookup in
    known-at _ _ c.in_ok-place.place c.in_ok-entry.entry.now _ _ _ c.deref.ensures.value look.3.0 (look.3.1 c.in_ok-entry.entry.now) (c.is_equal.ensures c.if-is_equal.true) c.as_slice.ensures (c.agree.ensures.0 c.if-agree.true)
