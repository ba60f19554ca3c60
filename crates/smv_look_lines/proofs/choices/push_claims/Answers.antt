use Rattle.std.proofs.Common.{rules, ◌≡◌, []}
use Rattle.smv_look_lines.specs.Lists.{claim_lines}
use Rattle.smv_look_lines.proofs.Ends.{no_claims}
use Rattle.smv_look_lines.proofs.choices.push_claims.Goals as goal

-- the times end first
pub returns-in_default-2 : goal.returns-in_default-2
returns-in_default-2 c =
    let none : claim_lines c.args.design.now c.loop-claims.claims.now c.loop-claims.times.now ≡ [] = no_claims c.args.design.now c.loop-claims.claims.now c.loop-claims.times.now (search rules) in
    search (rules, none)
