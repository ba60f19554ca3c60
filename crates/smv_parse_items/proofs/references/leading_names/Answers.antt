-- Where a name behind a dot is wanting, the loop halts as its reader does.
use Rattle.std.proofs.Common.{rules, arith}
use Rattle.std.proofs.lemmas.Grind.{common_steps}
use Rattle.smv_parse_items.proofs.Names.{dotted_stops}
use Rattle.smv_parse_items.proofs.references.leading_names.Goals as goal

pub returns-in_err-next-clause-stop : goal.returns-in_err-next-clause-stop
returns-in_err-next-clause-stop c =
    let k = dotted_stops c.args.levels c.loop-alloc.path.items c.loop-alloc.names.items c.loop-alloc.rest.now _ _ c.next_is_part.ensures c.loop-alloc-test.true c.next_is_sign.ensures c.if-next_is_sign.true c.in_err-next.field-0.0 c.in_err-next.ensures.stop in
    first_of (search rules, grind (arith, common_steps))
