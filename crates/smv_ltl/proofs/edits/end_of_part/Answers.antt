use Rattle.std.proofs.Common.{sym, subst}
use Rattle.std.specs.List.{AllByRecursion}
use Rattle.smv_core.specs.Notation.{Tokens}
use Rattle.smv_token_ends.specs.Fronts.{IsTokenAt}
use Rattle.smv_ltl.proofs.PhraseLaws.{part-stands}
use Rattle.smv_ltl.proofs.edits.end_of_part.Goals as goal

pub end_of_all-requires : goal.end_of_all-requires
end_of_all-requires c = record { tokens = subst (λ (ts : Tokens). AllByRecursion (IsTokenAt c.args.text.now) ts) (sym c.part.ensures) (part-stands c.args.text.now c.args.tokens.now c.requires.tokens) }
