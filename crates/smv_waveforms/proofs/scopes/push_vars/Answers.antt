-- The elements end first.
use Rattle.std.proofs.Common.{rules}
use Rattle.smv_waveforms.proofs.Parts.{all_written, no_vars}
use Rattle.smv_waveforms.proofs.scopes.push_vars.Goals as goal

pub returns-in_default-2 : goal.returns-in_default-2
returns-in_default-2 c = all_written c.loop-kinds.out.items _ _ (no_vars c.loop-kinds.number c.loop-kinds.kinds.now c.loop-kinds.elements.now (search rules)) c.loop-kinds.invariant
