use Rattle.std.proofs.Common.{take, sym, ◌∙◌}
use Rattle.smv_loops.proofs.ClosingLaws.{shown-take}
use Rattle.smv_loops.proofs.loops.+between.Goals as goal

pub returns-then-held : goal.returns-then-held
returns-then-held t c = λ readings shown f g.
    c.between.ensures readings shown f (sym (c.in_ok-held.ensures (take _ readings) (shown-take c.args.families.now c.args.rows c.args.links.now readings shown _)) ∙ c.if-held.true)

pub returns-else-held : goal.returns-else-held
returns-else-held t c = λ readings shown f g.
    c.between-else-held.ensures readings shown (sym (c.in_ok-held.ensures (take _ readings) (shown-take c.args.families.now c.args.rows c.args.links.now readings shown _)) ∙ c.if-held.false) g
