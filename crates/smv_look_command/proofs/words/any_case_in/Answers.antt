use Rattle.std.proofs.Common.{◌≡◌, ◌∙◌, Option, Some, None, ap, codes, is_some, subst, sym, true}
use Rattle.std.specs.Prelude.{option_map}
use Rattle.clap.specs.Matches.{found_of}
use Rattle.clap.specs.Walk.{Text, first_of, rows_of}
use Rattle.clap.proofs.WalkLemmas.{first_value-rows}
use Rattle.smv_command.specs.Commands.{number}
use Rattle.smv_command.proofs.Values.{map_some}
use Rattle.smv_look_command.specs.Queries.{any_case, most_cases}
use Rattle.smv_look_command.proofs.words.any_case_in.Goals as goal

pub case_of-requires : goal.case_of-requires
case_of-requires c =
    let read = c.get_str.ensures ∙ first_value-rows (found_of c.args.matches.now) (codes "CASE") in
    let some : Some c.in-Some.word.now ≡ first_of (codes "CASE") (rows_of (found_of c.args.matches.now)) = rw c.in-Some.is at read in
    map_some Some (number most_cases c.in-Some.word.now) (subst (λ (o : Option Text). is_some (any_case o) ≡ true) (sym some) c.requires)

pub returns-in-Some : goal.returns-in-Some
returns-in-Some c =
    let read = c.get_str.ensures ∙ first_value-rows (found_of c.args.matches.now) (codes "CASE") in
    let some : Some c.in-Some.word.now ≡ first_of (codes "CASE") (rows_of (found_of c.args.matches.now)) = rw c.in-Some.is at read in
    ap any_case (sym some) ∙ ap (option_map Some) c.case_of.ensures

pub returns-in-None : goal.returns-in-None
returns-in-None c =
    let read = c.get_str.ensures ∙ first_value-rows (found_of c.args.matches.now) (codes "CASE") in
    let none : None ≡ first_of (codes "CASE") (rows_of (found_of c.args.matches.now)) = rw c.in-None.is at read in
    ap any_case (sym none)
