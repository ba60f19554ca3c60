use Rattle.worked_texts.proofs.WorkedDesigns as designs
use Rattle.worked_texts.proofs.single_assignment.worked_designs.Goals as goal

pub returns-clause-definitions : goal.returns-clause-definitions
returns-clause-definitions c = designs.definitions-designed

pub returns-clause-designs : goal.returns-clause-designs
returns-clause-designs c = designs.designs-designed

pub returns-clause-heads : goal.returns-clause-heads
returns-clause-heads c = designs.heads-designed
