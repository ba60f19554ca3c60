use Rattle.std.proofs.Common.{ℕ, ap, sym, ◌∙◌}
use Rattle.std.specs.Prelude.{not}
use Rattle.law_obligations.specs.Outlines.{base_of}
use Rattle.law_obligations.specs.Units.{is_base_in, is_refinement}
use Rattle.smv_plans.proofs.units.is_map.Goals as goal

pub returns-in-Some : goal.returns-in-Some
returns-in-Some c =
    ap not (c.is_base_in.ensures ∙ ap (is_base_in c.in-Some.layer) c.base_at.ensures)
    ∙ ap (λ (family : ℕ). not (is_base_in c.in-Some.layer (base_of c.args.design.now family))) c.from.ensures
    ∙ ap (is_refinement c.args.design.now c.args.def.now.family) (sym c.in-Some.is)
