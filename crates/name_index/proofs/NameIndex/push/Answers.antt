use Rattle.std.proofs.Common.{arith}
use Rattle.name_index.proofs.Places.{pushed}
use Rattle.name_index.proofs.NameIndex.push.Goals as goal

pub invariant_of-self-in-Ok : goal.invariant_of-self-in-Ok
invariant_of-self-in-Ok c = pushed c.self.inside.names.items c.push.new.self.items c.args.name c.self.inside.first_places c.note_place.new.first_places c.as_bytes.result.now c.len-place.result c.self.invariant c.in_ok-push.ensures.items c.as_bytes.ensures (omega (arith, c.self.inside.names.ok.0)) c.in-Ok.ensures.ok
