use Rattle.smv_size.specs.Summary.{body_of, body_told}
use Rattle.smv_size.proofs.SummaryLaws.{same_size}
use Rattle.smv_size.proofs.modules.body_size.Goals as goal

pub returns : goal.returns
returns c known bodies things counts e f =
    let body = body_told known bodies things counts (body_of c.args.text.now) in
    same_size c.number_of.result body.formals c.things_of_items.result body.things c.statements_of_items.result body.statements c.number_of.ensures (c.things_of_items.ensures known bodies things counts e f) (c.statements_of_items.ensures known bodies things counts f)
