use Rattle.bdd_store.proofs.Laws.{equal_refs}
use Rattle.bdd_store.proofs.Store.node.Goals as goal

pub returns-clause-canonical : goal.returns-clause-canonical
returns-clause-canonical c = equal_refs _ c.make_room.ensures.stays.grows.sound
