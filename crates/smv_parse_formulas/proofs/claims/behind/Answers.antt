-- The parts are read first, and then what the names among them choose.
use Rattle.std.proofs.Common.{rules}
use Rattle.smv_parse_formulas.proofs.Marked.{behind_by}
use Rattle.smv_parse_formulas.proofs.claims.behind.Goals as goal

pub returns-in_err-more-clause-stop : goal.returns-in_err-more-clause-stop
returns-in_err-more-clause-stop c = rw (behind_by c.args.levels c.args.name c.args.tokens.now) (search rules)

pub returns-clause-found : goal.returns-clause-found
returns-clause-found c = rw (behind_by c.args.levels c.args.name c.args.tokens.now) (search rules)

pub returns-clause-stop : goal.returns-clause-stop
returns-clause-stop c = rw (behind_by c.args.levels c.args.name c.args.tokens.now) (search rules)
