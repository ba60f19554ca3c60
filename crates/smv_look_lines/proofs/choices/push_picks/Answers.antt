use Rattle.std.proofs.Common.{rules, ◌≡◌, []}
use Rattle.smv_look_lines.specs.Lists.{pick_lines}
use Rattle.smv_look_lines.proofs.Ends.{no_picks}
use Rattle.smv_look_lines.proofs.choices.push_picks.Goals as goal

-- the times end first
pub returns-in_default-2 : goal.returns-in_default-2
returns-in_default-2 c =
    let none : pick_lines c.args.design.now c.loop-picks.picks.now c.loop-picks.times.now ≡ [] = no_picks c.args.design.now c.loop-picks.picks.now c.loop-picks.times.now (search rules) in
    search (rules, none)
