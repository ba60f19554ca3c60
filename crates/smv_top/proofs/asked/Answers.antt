use Rattle.smv_top.proofs.Endings.{some_given}
use Rattle.smv_top.proofs.asked.Goals as goal

pub returns-in-Generated-clause-ends : goal.returns-in-Generated-clause-ends
returns-in-Generated-clause-ends g c =
    let text = some_given _ in
    (text.0, text.1, c.of_copies.ensures.ends text.0)
