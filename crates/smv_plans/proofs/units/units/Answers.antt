use Rattle.std.proofs.Common.{ℕ, map, ap, ◌∙◌, ◌++◌}
use Rattle.smv_core.specs.declared.flat.Unit.{Unit as FlatUnit}
use Rattle.law_obligations.specs.Units.{in_order}
use Rattle.smv_plans.specs.Units.{claims_from}
use Rattle.smv_plans.proofs.UnitLaws.{units-are}
use Rattle.smv_plans.proofs.units.units.Goals as goal

pub returns : goal.returns
returns c =
    let second = λ (x : ℕ × FlatUnit). x.1 in
    c.from_vec.ensures ∙ c.in_ok-units.ensures ∙ ap (map second) c.in_ok-sorted.ensures ∙ ap (λ l. map second (in_order l)) c.in_ok-add_claims.ensures
    ∙ ap (λ l. map second (in_order (l ++ claims_from 0 c.args.design.now.claims))) c.in_ok-found.ensures ∙ units-are c.args.design.now
