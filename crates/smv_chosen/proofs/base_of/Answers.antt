use Rattle.std.proofs.Common.{List, filter, ap, sym, ◌∙◌}
use Rattle.smv_core.specs.declared.flat.Def.{Def}
use Rattle.law_obligations.specs.Outlines.{earliest}
use Rattle.smv_chosen.specs.Chosen.{may_be_base}
use Rattle.smv_chosen.proofs.BaseLaws.{no-base, some-base}
use Rattle.smv_chosen.proofs.base_of.Goals as goal

pub returns-in-None : goal.returns-in-None
returns-in-None c = sym (no-base c.args.design.now c.args.family (sym c.in-None.ensures))

pub returns-in-Some : goal.returns-in-Some
returns-in-Some c =
    c.first_base.ensures
    ∙ (ap (λ (ds : List Def). earliest (filter (may_be_base c.args.family c.in-Some.f.now) ds)) c.as_slice.ensures ∙ sym (some-base c.args.design.now c.args.family c.in-Some.f.now (sym c.in-Some.ensures)))
