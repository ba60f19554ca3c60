-- Part by part.
use Rattle.smv_waveforms.proofs.Parts.{line_written}
use Rattle.smv_waveforms.proofs.scopes.push_comment.Goals as goal

pub returns : goal.returns
returns c = line_written _ _ _ _ _ _ _ _ c.in_ok-extend_from_slice.ensures.items c.in_ok-push_classes.ensures c.in_ok-extend_from_slice-2.ensures.items c.in_ok-push.ensures.items
