use Rattle.std.proofs.Common.{sym, subst}
use Rattle.std.specs.List.{AllByRecursion}
use Rattle.smv_core.specs.Notation.{Tokens}
use Rattle.smv_token_ends.specs.Fronts.{IsTokenAt}
use Rattle.smv_ltl.proofs.PhraseLaws.{each-dropped}
use Rattle.smv_ltl.proofs.phrases.inside.Goals as goal

pub returns-clause-stand : goal.returns-clause-stand
returns-clause-stand c = λ text h. subst (λ (ts : Tokens). AllByRecursion (IsTokenAt text) ts) (sym c.behind.ensures) (each-dropped (IsTokenAt text) 2 c.args.tokens.now h)
