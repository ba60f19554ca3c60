use Rattle.std.proofs.Common.{sym, subst}
use Rattle.std.specs.List.{AllByRecursion}
use Rattle.smv_core.specs.Notation.{Tokens}
use Rattle.smv_token_ends.specs.Fronts.{IsTokenAt}
use Rattle.smv_ltl.proofs.EditLaws.{from-stands}
use Rattle.smv_ltl.proofs.edits.tokens_at.Goals as goal

pub returns-clause-stand : goal.returns-clause-stand
returns-clause-stand c =
    let source = c.args.source in
    subst (λ (ts : Tokens). AllByRecursion (IsTokenAt source.text.now) ts) (sym c.from_place.ensures) (from-stands source.text.now c.args.at source.tokens.now c.requires.source.stand)
