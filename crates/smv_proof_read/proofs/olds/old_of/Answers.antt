use Rattle.smv_proof_read.proofs.OldDocuments.{old_answer}
use Rattle.smv_proof_read.proofs.olds.old_of.Goals as goal

pub returns : goal.returns
returns c = old_answer c.args.bytes.now c.old_in.result c.old_in.ensures
