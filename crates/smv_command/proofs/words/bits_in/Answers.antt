use Rattle.std.proofs.Common.{◌∙◌, ◌≡◌, None, Some, ap, codes}
use Rattle.std.specs.Prelude.{option_and_then}
use Rattle.clap.specs.Matches.{found_of}
use Rattle.clap.specs.Walk.{first_of, rows_of}
use Rattle.clap.proofs.WalkLemmas.{first_value-rows}
use Rattle.smv_command.specs.Commands.{bits_named}
use Rattle.smv_command.proofs.words.bits_in.Goals as goal

pub returns-in-Some : goal.returns-in-Some
returns-in-Some c =
    let read = c.get_str.ensures ∙ first_value-rows (found_of c.args.matches.now) (codes "bits") in
    let some : Some c.in-Some.word.now ≡ first_of (codes "bits") (rows_of (found_of c.args.matches.now)) = rw c.in-Some.is at read in
    c.bits_named.ensures ∙ ap (option_and_then bits_named) some

pub returns-in-None : goal.returns-in-None
returns-in-None c =
    let read = c.get_str.ensures ∙ first_value-rows (found_of c.args.matches.now) (codes "bits") in
    let none : None ≡ first_of (codes "bits") (rows_of (found_of c.args.matches.now)) = rw c.in-None.is at read in
    ap (option_and_then bits_named) none
