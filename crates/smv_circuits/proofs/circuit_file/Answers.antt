use Rattle.std.proofs.Common.{◌∙◌, ℕ, ap, subst, sym}
use Rattle.smv_circuits.specs.Circuits.{IsCircuit}
use Rattle.smv_circuits.specs.Files.{file}
use Rattle.smv_circuits.specs.Readings.{first_gate}
use Rattle.smv_circuits.proofs.FrameLaws.{bits_is}
use Rattle.smv_circuits.proofs.circuit_file.Goals as goal

pub file_of-requires-clause-bits : goal.file_of-requires-clause-bits
file_of-requires-clause-bits c = c.in_ok-frames.ensures.few

pub file_of-requires-clause-circuit : goal.file_of-requires-clause-circuit
file_of-requires-clause-circuit c = subst (λ (n : ℕ). IsCircuit (first_gate n) c.in_ok-frames.frames.gates.items) (bits_is c.args.store.now c.args.rel.now ∙ sym c.in_ok-frames.ensures.bits) c.in_ok-frames.ensures.frames.circuit

pub returns : goal.returns
returns c = record {
  gates = c.in_ok-frames.frames.gates.items;
  next = c.in_ok-frames.frames.next.items;
  started = c.in_ok-frames.frames.started;
  broken = c.in_ok-frames.frames.broken;
  are = c.in_ok-frames.ensures.frames;
  bytes = c.in_ok-bytes.ensures
      ∙ ap (λ (n : ℕ). file n c.in_ok-frames.frames.gates.items c.in_ok-frames.frames.next.items c.in_ok-frames.frames.started c.in_ok-frames.frames.broken) (c.in_ok-frames.ensures.bits ∙ sym (bits_is c.args.store.now c.args.rel.now));
}
