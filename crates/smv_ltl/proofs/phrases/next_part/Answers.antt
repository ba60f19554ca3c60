use Rattle.std.proofs.Common.{drop, sym, ap, ◌∙◌, subst}
use Rattle.std.specs.List.{AllByRecursion}
use Rattle.smv_core.specs.Notation.{Tokens}
use Rattle.smv_token_ends.specs.Fronts.{IsTokenAt}
use Rattle.smv_ltl.proofs.PhraseLaws.{next-stands}
use Rattle.smv_ltl.proofs.phrases.next_part.Goals as goal

pub returns-clause-stand : goal.returns-clause-stand
returns-clause-stand c =
    λ text h. subst (λ (ts : Tokens). AllByRecursion (IsTokenAt text) ts) (sym (c.behind.ensures ∙ ap (λ (ts : Tokens). drop 1 ts) c.split_part.ensures.behind)) (next-stands text c.args.tokens.now h)
