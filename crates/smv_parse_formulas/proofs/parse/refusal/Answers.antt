-- A stop says where the reader halts.
use Rattle.std.proofs.Common.{true, false}
use Rattle.smv_parse_formulas.proofs.ByLaws.{stopped}
use Rattle.smv_parse_formulas.proofs.parse.refusal.Goals as goal

pub place_of-requires : goal.place_of-requires
place_of-requires c = (stopped 64 c.args.end c.args.tokens.now false c.in-Unexpected.left (rw c.in-Unexpected.is at c.requires)).0

pub place_of-requires-in-TooDeep : goal.place_of-requires-in-TooDeep
place_of-requires-in-TooDeep c = (stopped 64 c.args.end c.args.tokens.now true c.in-TooDeep.left (rw c.in-TooDeep.is at c.requires)).0

pub returns-in-Unexpected : goal.returns-in-Unexpected
returns-in-Unexpected c =
    let h = stopped 64 c.args.end c.args.tokens.now false c.in-Unexpected.left (rw c.in-Unexpected.is at c.requires) in
    rw c.unexpected.ensures (rw c.place_of.ensures h.1)

pub returns-in-TooDeep : goal.returns-in-TooDeep
returns-in-TooDeep c =
    let h = stopped 64 c.args.end c.args.tokens.now true c.in-TooDeep.left (rw c.in-TooDeep.is at c.requires) in
    rw c.too_deep.ensures (rw c.place_of-in-TooDeep.ensures h.1)
