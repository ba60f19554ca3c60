use Rattle.std.proofs.Common.{◌≡◌, ◌∙◌, Option, List, Some, None, [], ap, sym, subst, is_some, codes, true}
use Rattle.std.specs.Prelude.{unwrap_or, IfOk}
use Rattle.clap.specs.Matches.{found_of}
use Rattle.clap.specs.Walk.{Text, all_of, rows_of, texts}
use Rattle.clap.proofs.WalkLemmas.{raw_values-rows}
use Rattle.smv_command.specs.Ranges.{most_size}
use Rattle.smv_command.specs.Commands.{numbers}
use Rattle.smv_command.proofs.words.sizes_in.Goals as goal

pub sizes_of-requires : goal.sizes_of-requires
sizes_of-requires c =
    let read = c.get_raw.ensures ∙ raw_values-rows (found_of c.args.matches.now) (codes "SIZE") in
    let some : Some (texts c.in-Some.words.now) ≡ all_of (codes "SIZE") (rows_of (found_of c.args.matches.now)) = rw c.in-Some.is at read in
    subst (λ (o : Option (List Text)). is_some (numbers most_size (unwrap_or o [])) ≡ true) (sym some) c.requires

pub returns-in-Some : goal.returns-in-Some
returns-in-Some c =
    let read = c.get_raw.ensures ∙ raw_values-rows (found_of c.args.matches.now) (codes "SIZE") in
    let some : Some (texts c.in-Some.words.now) ≡ all_of (codes "SIZE") (rows_of (found_of c.args.matches.now)) = rw c.in-Some.is at read in
    subst (λ (o : Option (List Text)). IfOk c.sizes_of.result (λ sizes. numbers most_size (unwrap_or o []) ≡ Some sizes)) some c.sizes_of.ensures

pub returns-in-None : goal.returns-in-None
returns-in-None c =
    let read = c.get_raw.ensures ∙ raw_values-rows (found_of c.args.matches.now) (codes "SIZE") in
    let none : None ≡ all_of (codes "SIZE") (rows_of (found_of c.args.matches.now)) = rw c.in-None.is at read in
    ap (λ (o : Option (List Text)). numbers most_size (unwrap_or o [])) (sym none) ∙ ap Some (sym c.new.ensures)
