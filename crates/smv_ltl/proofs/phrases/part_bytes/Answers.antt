use Rattle.std.proofs.Common.{sym, subst}
use Rattle.std.specs.List.{AllByRecursion}
use Rattle.smv_core.specs.Notation.{Tokens}
use Rattle.smv_token_ends.specs.Fronts.{IsTokenAt}
use Rattle.smv_ltl.proofs.PhraseLaws.{part-stands}
use Rattle.smv_ltl.proofs.phrases.part_bytes.Goals as goal

pub bytes_of-requires : goal.bytes_of-requires
bytes_of-requires c = record { tokens = subst (λ (ts : Tokens). AllByRecursion (IsTokenAt c.args.text.now) ts) (sym c.part.ensures) (part-stands c.args.text.now c.args.tokens.now c.requires.tokens) }
