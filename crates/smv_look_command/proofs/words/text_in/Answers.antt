use Rattle.std.proofs.Common.{◌∙◌, ◌≡◌, rules, Some, None, ap, sym}
use Rattle.clap.specs.Matches.{found_of}
use Rattle.clap.specs.Walk.{Text, first_of, rows_of}
use Rattle.clap.proofs.WalkLemmas.{first_value-rows}
use Rattle.smv_look_command.proofs.words.text_in.Goals as goal

pub unreachable-requires : goal.unreachable-requires
unreachable-requires c =
    let read = c.get_str.ensures ∙ first_value-rows (found_of c.args.matches.now) c.args.id.now in
    let none : None ≡ first_of c.args.id.now (rows_of (found_of c.args.matches.now)) = rw c.in-None.is at read in
    let bad = rw (← none) at c.requires in
    cc

pub returns : goal.returns
returns c =
    let read = c.get_str.ensures ∙ first_value-rows (found_of c.args.matches.now) c.args.id.now in
    let some : Some c.in-Some.text.now ≡ first_of c.args.id.now (rows_of (found_of c.args.matches.now)) = rw c.in-Some.is at read in
    let bytes : c.from_vec.result ≡ c.in-Some.text.now = search rules in
    sym some ∙ ap (λ (t : Text). Some t) (sym bytes)
