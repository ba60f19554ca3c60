-- Where no comma and no colon follows, it is a claim or an assignment as anywhere.
use Rattle.smv_parse_formulas.proofs.Marked.{named_behind}
use Rattle.smv_parse_formulas.proofs.claims.behind_name.Goals as goal

pub returns-clause-found : goal.returns-clause-found
returns-clause-found c =
    rw (named_behind c.args.levels c.args.name c.args.tokens.now c.next_is_comma_or_colon.result c.next_is_comma_or_colon.ensures c.if-next_is_comma_or_colon.false) c.behind.ensures.found

pub returns-clause-stop : goal.returns-clause-stop
returns-clause-stop c =
    rw (named_behind c.args.levels c.args.name c.args.tokens.now c.next_is_comma_or_colon.result c.next_is_comma_or_colon.ensures c.if-next_is_comma_or_colon.false) c.behind.ensures.stop
