use Rattle.std.proofs.Common.{List, refl, sym, ap, ◌∙◌}
use Rattle.std.specs.List.{flat_map}
use Rattle.law_designs.specs.Reading.{Reading}
use Rattle.law_designs.specs.Loops.{hold_a_cycle}
use Rattle.smv_loops.specs.Edges.{edges_at}
use Rattle.smv_loops.proofs.ClosingLaws.{take-whole}
use Rattle.smv_loops.proofs.loops.first_closing.Goals as goal

pub returns : goal.returns
returns c = λ readings shown.
    c.in_ok-first.ensures readings shown refl
    (ap (λ (l : List Reading). hold_a_cycle (flat_map (edges_at c.args.families.now) l)) (take-whole c.args.families.now c.args.rows c.args.links.now readings shown) ∙ sym (c.in_ok-held.ensures readings shown) ∙ c.if-not-held.false)
