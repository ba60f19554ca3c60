-- The text passed its range, so `u32` reads it, and the number is the one that its digits spell.
use Rattle.std.proofs.Common.{◌∙◌, ℕ, Option, Some, ap, arith, subst, sym}
use Rattle.std.specs.Str.Parse.{ExplainsUnsignedError, HasUnsignedDigitsIfOk, ParsesUnsigned}
use Rattle.clap.specs.Matches.{ReadsOne, found_of}
use Rattle.clap.specs.Walk.{rows_of}
use Rattle.clap.proofs.WalkLemmas.{one_text-rows}
use Rattle.smv_command.proofs.Values.{number_is}
use Rattle.smv_look_command.proofs.words.budget_in.Goals as goal

pub unreachable-requires : goal.unreachable-requires
unreachable-requires c =
    let n = number_is c.requires.0 c.args.id.now (rows_of (found_of c.args.matches.now)) c.requires.2 in
    let read = c.get_one.ensures.value n.text (one_text-rows (found_of c.args.matches.now) c.args.id.now ∙ n.one) in
    let failed = subst (λ (o : Option ℕ). ReadsOne (λ bs r. ParsesUnsigned 32 10 bs r × ExplainsUnsignedError 10 bs r × HasUnsignedDigitsIfOk bs r) n.text o) c.in-None.is read in
    failed.1.0 (n.spells.0, omega arith)

pub returns : goal.returns
returns c most given =
    let n = number_is most c.args.id.now (rows_of (found_of c.args.matches.now)) given in
    let read = c.get_one.ensures.value n.text (one_text-rows (found_of c.args.matches.now) c.args.id.now ∙ n.one) in
    let parsed = subst (λ (o : Option ℕ). ReadsOne (λ bs r. ParsesUnsigned 32 10 bs r × ExplainsUnsignedError 10 bs r × HasUnsignedDigitsIfOk bs r) n.text o) c.in-Some.is read in
    n.is ∙ ap (λ (v : ℕ). Some v) (sym parsed.0.1)
